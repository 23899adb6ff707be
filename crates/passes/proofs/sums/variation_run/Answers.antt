use mathlib.Core.Path.{◌≡◌, refl, sym, ap, ◌∙◌}
use native.Mathlib.Omega.{arith}
use lib.IntN.{ℤ, pos, nat_abs, ◌-ℤ◌, ◌*ℤ◌}
use lib.ListN.{length}
use Rattle.integers.specs.Whole.{abs}
use Rattle.integers.proofs.Total.{total-zero, nat_abs-total}
use Rattle.lists.specs.Lists.{at}
use Rattle.passes.specs.Pairs.{weight_at, variation_at}
use Rattle.passes.proofs.Elements.{own-most, own-least, ReadPair, read-pair, pair-read}
use Rattle.passes.proofs.Totals.{total-more, variation_most}
use Rattle.passes.proofs.sums.variation_run.Goals as goal

pub loop-j-init : goal.loop-j-init
loop-j-init c = sym (total-zero _)

-- pair j, with no number but its first pixel's value
pair : (c : goal.After-variation-arg-in-loop-j-1) → let a = c.args in
    ReadPair a.weights.all a.weights.own.now a.values.first.now a.values.first.now a.values.second.now c.loop-j.j c.at-own.result (at a.values.first.now c.loop-j.j)
pair c =
    let v = c.requires.0 in
    read-pair (record { values = v; flow_count = refl; flow_most = v.first_most }) c.requires.1 c.loop-j.j c.at-own.type_inv c.at-own.ensures refl

pub variation-sum-requires : goal.variation-sum-requires
variation-sum-requires c =
    let r = pair c in
    rw (r.weight_is, r.first-is, r.second_is) (own-least c.requires.1 c.requires.2 c.loop-j.j, omega (arith, r.limits.first_most, r.limits.second_most))

-- pair j's weight times the size of its fall
term : (c : goal.After-variation-sum) → let a = c.args in
    pos c.variation-sum.result ≡ variation_at (weight_at a.weights.all a.weights.own.now) (at a.values.first.now) (at a.values.second.now) c.loop-j.j
term c = c.variation-sum.ensures ∙ pair-read (pair c.before) (λ (w z x y : ℤ). w *ℤ abs (x -ℤ y))

pub overflow_add-sum : goal.overflow_add-sum
overflow_add-sum c =
    let l = c.loop-j in
    let v = c.requires.0 in
    let weight = weight_at c.args.weights.all c.args.weights.own.now in
    let each = variation_most (at c.args.values.first.now) (at c.args.values.second.now) v.first_most v.second_most weight (own-most c.requires.1) in
    record { fits = omega (arith, v.count_most, ap nat_abs l.invariant, nat_abs-total l.j (variation_at weight (at c.args.values.first.now) (at c.args.values.second.now)) (λ j _. each j), ap nat_abs (term c), each l.j) }

pub loop-j-preserved : goal.loop-j-preserved
loop-j-preserved c = total-more _ c.loop-j.j c.loop-j.invariant (term c)

pub returns : goal.returns
returns c =
    let e : c.loop-j.j ≡ length c.args.values.first.now = omega arith in
    rw e at c.loop-j.invariant
