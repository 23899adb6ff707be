-- run after run.
use mathlib.Core.Path.{◌≡◌, refl, ◌∙◌}
use Prim.Native.Nat.{◌+◌}
use native.Mathlib.Omega.{arith}
use lib.IntN.{ℤ, pos, ◌-ℤ◌, ◌*ℤ◌}
use mir.Syntax.{w64}
use mir.Val.{to_z, of_z}
use mir.ValLaws.{to_z-of_z}
use Rattle.integers.specs.Sum.{total}
use Rattle.integers.proofs.Total.{total-cong}
use Rattle.integers.proofs.Machine.{read}
use Rattle.lists.specs.Lists.{at}
use Rattle.layout.specs.Runs.{first_pixel, second_pixel}
use Rattle.passes.specs.Pairs.{product_at, first_value, second_value}
use Rattle.passes.proofs.Totals.{product_most, sum_fits}
use Rattle.passes.proofs.Runs.{PartOf, part_of, Turn, turn, none_summed, all-summed, values-there, numbers-there, run-total, run-most, ValuesOf, values_of, run-limits, run-pass}
use Rattle.passes.proofs.sums.total_product.Goals as goal

pub loop-k-init : goal.loop-k-init
loop-k-init c = none_summed

this : (c : goal.After-run-r) → Turn c.args.s c.loop-k.k c.run-r.result
this c = turn c.requires.raster.shape c.run-r.ensures c.loop-k-test.true c.run_count-k-end.ensures

pub part_of-numbers-requires : goal.part_of-numbers-requires
part_of-numbers-requires c _ = numbers-there (this c) c.args.flow.now c.requires.flow_length

pub of_run-values-requires : goal.of_run-values-requires
of_run-values-requires c = values-there (this c.before) c.requires.raster

module _ (c : goal.After-of_run-values) where
  run : Turn c.args.s c.loop-k.k c.run-r.result
  run = this c.before.before

  values : ValuesOf c.args.s c.run-r.result c.args.image.now c.of_run-values.result.first.now c.of_run-values.result.second.now
  values = values_of run c.requires.raster c.of_run-values.ensures.first c.of_run-values.ensures.second

  numbers : PartOf c.args.flow.now c.run-r.result.pair c.run-r.result.count c.part_of-numbers.result.now
  numbers = part_of c.args.flow.now c.run-r.result.pair c.run-r.result.count c.part_of-numbers.ensures (numbers-there run c.args.flow.now c.requires.flow_length)

pub product_run-sum-requires : goal.product_run-sum-requires
product_run-sum-requires c = run-limits (values c) c.requires (numbers c)

-- the run's sum is that over its pairs of the raster
summed : (c : goal.After-product_run-sum) → to_z w64 (of_z w64 c.product_run-sum.result)
    ≡ total c.run-r.result.count (λ j. product_at (at c.args.flow.now) (first_value c.args.s c.args.image.now) (second_value c.args.s c.args.image.now) (c.run-r.result.pair + j))
summed c =
    let d = c.before in
    read w64 c.product_run-sum.type_inv ∙ c.product_run-sum.ensures
    ∙ run-pass (values d) {own = λ _. pos 0} (λ _. pos 0) (at c.args.flow.now) (λ _ _. refl) (numbers d).number
    total (λ n _ _. total-cong n) (λ (w f x y : ℤ). f *ℤ (x -ℤ y)) (numbers d).size

pub overflow_add-sum : goal.overflow_add-sum
overflow_add-sum c =
    let s = c.args.s in
    let most = c.requires.raster.image_most in
    let each =
    product_most (first_value s c.args.image.now) (second_value s c.args.image.now) (λ j. most (first_pixel s j)) (λ j. most (second_pixel s j)) (at c.args.flow.now) c.requires.flow_most
    in
    sum_fits (to_z w64 c.loop-k.sum-bits) (to_z w64 (of_z w64 c.product_run-sum.result)) (omega (arith, run-most (run c.before) c.loop-k.invariant (summed c) c.requires.raster.shape each))

pub loop-k-preserved : goal.loop-k-preserved
loop-k-preserved c = rw (to_z-of_z w64 _ (overflow_add-sum c)) (run-total (run c.before) c.loop-k.invariant (summed c))

pub returns : goal.returns
returns c = rw c.requires.flow_length (all-summed c.loop-k.invariant c.run_count-k-end.ensures c.loop-k.auto.k-end c.loop-k-test.false)
