-- run after run.
use mathlib.Core.Path.{◌≡◌, refl, ◌∙◌}
use Prim.Native.Nat.{◌+◌}
use native.Mathlib.Omega.{arith}
use lib.IntN.{ℤ, pos, ◌-ℤ◌, ◌*ℤ◌}
use Rattle.integers.specs.Whole.{abs}
use Rattle.integers.specs.Sum.{total}
use Rattle.integers.proofs.Order.{0≤pos}
use Rattle.integers.proofs.Total.{total-cong}
use Rattle.layout.specs.Runs.{first_pixel, second_pixel}
use Rattle.passes.specs.Pairs.{weight_at, variation_at, first_value, second_value}
use Rattle.passes.proofs.Elements.{own-most}
use Rattle.passes.proofs.Totals.{variation_most}
use Rattle.passes.proofs.Runs.{part_weight, Turn, turn, none_summed, all-summed, values-there, weights_there, run-total, run-most, ValuesOf, values_of, value_limits, run-weights, run-pass}
use Rattle.passes.proofs.sums.total_variation.Goals as goal

pub loop-k-init : goal.loop-k-init
loop-k-init c = none_summed

this : (c : goal.After-run-r) → Turn c.args.s c.loop-k.k c.run-r.result
this c = turn c.requires.0.shape c.run-r.ensures c.loop-k-test.true c.run_count-k-end.ensures

pub of_run-values-requires : goal.of_run-values-requires
of_run-values-requires c = values-there (this c) c.requires.0

pub of_run-own-requires : goal.of_run-own-requires
of_run-own-requires c = weights_there (this c.before) c.requires.1

values : (c : goal.After-of_run-own) → ValuesOf c.args.s c.run-r.result c.args.image.now c.of_run-values.result.first.now c.of_run-values.result.second.now
values c = values_of (this c.before.before) c.requires.0 c.of_run-values.ensures.first c.of_run-values.ensures.second

pub variation_run-sum-requires : goal.variation_run-sum-requires
variation_run-sum-requires c =
    let own = c.of_run-own.ensures in (
      value_limits (values c) c.requires.0,
      run-weights (values c) c.requires.1 own.all own.own (values c).firsts.size,
      rw own.all (0≤pos 1),
    )

module _ (c : goal.After-variation_run-sum) where
  -- the run's sum is that over its pairs of the raster
  summed : pos c.variation_run-sum.result
      ≡ total c.run-r.result.count (λ j. variation_at (weight_at (pos 1) c.args.weights.now) (first_value c.args.s c.args.image.now) (second_value c.args.s c.args.image.now) (c.run-r.result.pair + j))
  summed =
      let own = c.of_run-own.ensures in
      c.variation_run-sum.ensures
      ∙ run-pass (values c.before) {part = λ _. pos 0} (weight_at (pos 1) c.args.weights.now) (λ _. pos 0)
      (part_weight c.args.weights.now c.run-r.result.pair c.run-r.result.count own.all own.own) (λ _ _. refl)
      total (λ n _ _. total-cong n) (λ (w z x y : ℤ). w *ℤ abs (x -ℤ y)) (values c.before).firsts.size

pub overflow_add-sum : goal.overflow_add-sum
overflow_add-sum c =
    let s = c.args.s in
    let most = c.requires.0.image_most in
    let each =
    variation_most (first_value s c.args.image.now) (second_value s c.args.image.now) (λ j. most (first_pixel s j)) (λ j. most (second_pixel s j)) (weight_at (pos 1) c.args.weights.now) (own-most c.requires.1)
    in
    record { fits = omega (arith, run-most (this c.before.before.before) c.loop-k.invariant (summed c) c.requires.0.shape each) }

pub loop-k-preserved : goal.loop-k-preserved
loop-k-preserved c = run-total (this c.before.before.before) c.loop-k.invariant (summed c)

pub returns : goal.returns
returns c = all-summed c.loop-k.invariant c.run_count-k-end.ensures c.loop-k.auto.k-end c.loop-k-test.false
