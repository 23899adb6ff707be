use mathlib.Core.Path.{◌≡◌, sym, ◌∙◌}
use native.Mathlib.Omega.{arith}
use lib.ListN.{length}
use mir.Syntax.{w64}
use mir.Val.{to_z, of_z}
use mir.ValLaws.{to_z-of_z}
use Rattle.integers.specs.Sum.{total}
use Rattle.integers.proofs.Total.{total-zero, nat_abs-total}
use Rattle.integers.proofs.Machine.{read}
use Rattle.lists.specs.Lists.{at}
use Rattle.passes.specs.Pairs.{product_at}
use Rattle.passes.proofs.Elements.{element}
use Rattle.passes.proofs.Totals.{total-more, product_most, sum_fits}
use Rattle.passes.proofs.sums.product_run.Goals as goal

pub loop-j-init : goal.loop-j-init
loop-j-init c = sym (total-zero _)

pub product-sum-requires : goal.product-sum-requires
product-sum-requires c =
    let v = c.requires.values in
    let j = c.loop-j.j in
    rw (element c.args.values.first.now v.first_most j, element c.args.values.second.now v.second_most j) (omega (arith, v.first_most j, v.second_most j))

-- the product at j
term : (c : goal.After-product-sum) → let a = c.args in
    to_z w64 (of_z w64 c.product-sum.result) ≡ product_at (at a.flow.now) (at a.values.first.now) (at a.values.second.now) c.loop-j.j
term c =
    let a = c.args in
    let v = c.requires.values in
    let j = c.loop-j.j in
    read w64 c.product-sum.type_inv ∙ c.product-sum.ensures
    ∙ rw (element a.flow.now c.requires.flow_most j, element a.values.first.now v.first_most j, element a.values.second.now v.second_most j)

pub overflow_add-sum : goal.overflow_add-sum
overflow_add-sum c =
    let l = c.loop-j in
    let a = c.args in
    let each = product_most (at a.values.first.now) (at a.values.second.now) c.requires.values.first_most c.requires.values.second_most (at a.flow.now) c.requires.flow_most in
    rw (l.invariant, term c)
    (sum_fits (total l.j (product_at (at a.flow.now) (at a.values.first.now) (at a.values.second.now))) (product_at (at a.flow.now) (at a.values.first.now) (at a.values.second.now) l.j)
    (omega (arith, c.requires.values.count_most, c.requires.flow_count, nat_abs-total l.j (product_at (at a.flow.now) (at a.values.first.now) (at a.values.second.now)) (λ j _. each j), each l.j)))

pub loop-j-preserved : goal.loop-j-preserved
loop-j-preserved c = to_z-of_z w64 _ (overflow_add-sum c) ∙ total-more _ c.loop-j.j c.loop-j.invariant (term c)

pub returns : goal.returns
returns c =
    let e : c.loop-j.j ≡ length c.args.flow.now = omega arith in
    rw e at c.loop-j.invariant
