use mathlib.Core.Path.{◌≡◌, sym, ap, ◌∙◌}
use Prim.Native.Nat.{ℕ, ◌<◌}
use native.Mathlib.Omega.{arith}
use lib.IntN.{pos, nat_abs}
use lib.ListN.{length, get_or}
use Rattle.integers.proofs.Total.{total-zero}
use Rattle.passes.proofs.Elements.{element}
use Rattle.passes.proofs.Totals.{total-more, misfit_at, misfit-most, misfits_most}
use Rattle.passes.proofs.pixels.misfit.Goals as goal

pub loop-i-init : goal.loop-i-init
loop-i-init c = sym (total-zero _)

pub squared_misfit-sum-requires : goal.squared_misfit-sum-requires
squared_misfit-sum-requires c = rw (element c.args.image.now c.requires.image_most c.loop-i.i) (c.requires.image_most c.loop-i.i)

-- the term at i
term : (c : goal.After-squared_misfit-sum) → let a = c.args in
    pos c.squared_misfit-sum.result ≡ misfit_at a.image.now a.samples.now c.loop-i.i
term c = c.squared_misfit-sum.ensures ∙ rw (element c.args.image.now c.requires.image_most c.loop-i.i)

pub overflow_add-sum : goal.overflow_add-sum
overflow_add-sum c =
    let l = c.loop-i in
    let bytes : (i : ℕ) → get_or c.args.samples.now i 0 < 256 = λ i. (c.type_inv.samples i).fits in
    record { fits = omega (arith, c.requires, ap nat_abs l.invariant, misfits_most c.args.image.now c.requires.image_most c.args.samples.now bytes l.i, ap nat_abs (term c), misfit-most c.args.image.now c.requires.image_most c.args.samples.now bytes l.i) }

pub loop-i-preserved : goal.loop-i-preserved
loop-i-preserved c = total-more _ c.loop-i.i c.loop-i.invariant (term c)

pub returns : goal.returns
returns c =
    let e : c.loop-i.i ≡ length c.args.image.now = omega arith in
    rw e at c.loop-i.invariant
