-- run after run.
use mathlib.Core.Path.{◌∙◌}
use Prim.Native.Nat.{◌+◌, ◌-◌}
use native.Mathlib.Omega.{arith}
use lib.ListN.{take, drop}
use Rattle.lists.specs.Lists.{at, table}
use Rattle.lists.proofs.Tables.{table-cong}
use Rattle.model.specs.Rounds.{nearest_eighth}
use Rattle.stencil.specs.Pair.{step_value}
use Rattle.passes.specs.Pairs.{weight_at}
use Rattle.passes.proofs.Runs.{PartOf, part_weight, Turn, turn, none_filled, all_filled, values-there, weights_there, unfilled, run-filled, ValuesOf, values_of, run-limits, run-weights, run-pass}
use Rattle.passes.proofs.step.step_pairs.Goals as goal

pub loop-k-init : goal.loop-k-init
loop-k-init c = none_filled c.requires.0.flow_length

this : (c : goal.After-run-r) → Turn c.args.s c.loop-k.k c.run-r.result
this c = turn c.requires.0.raster.shape c.run-r.ensures c.loop-k-test.true c.run_count-k-end.ensures

pub of_run-values-requires : goal.of_run-values-requires
of_run-values-requires c = values-there (this c) c.requires.0.raster

pub of_run-own-requires : goal.of_run-own-requires
of_run-own-requires c = weights_there (this c.before) c.requires.1

module _ (c : goal.After-struct_known-1) where
  run : Turn c.args.s c.loop-k.k c.run-r.result
  run = this c.before.before.before

  values : ValuesOf c.args.s c.run-r.result c.args.image.now c.of_run-values.result.first.now c.of_run-values.result.second.now
  values = values_of run c.requires.0.raster c.of_run-values.ensures.first c.of_run-values.ensures.second

  numbers : PartOf c.args.flow.now c.run-r.result.pair c.run-r.result.count (take (c.run-r.result.pair + c.run-r.result.count - c.run-r.result.pair) (drop c.run-r.result.pair c.loop-k.flow))
  numbers = unfilled run c.loop-k.invariant

pub overflow_add-r : goal.overflow_add-r
overflow_add-r c = record { fits = omega (arith, (numbers c).inside, c.well_formed.0.1) }

pub offset_bounds-flow-r : goal.offset_bounds-flow-r
offset_bounds-flow-r c = record { fits = omega (arith, (numbers c.before).inside, c.well_formed.0.1) }

pub slice_bounds-step_run-end : goal.slice_bounds-step_run-end
slice_bounds-step_run-end c = omega (arith, (numbers c.before.before).inside, c.loop-k.auto.flow)

pub step_run-requires : goal.step_run-requires
step_run-requires c =
    let d = c.before.before.before in
    let own = c.of_run-own.ensures in
    (run-limits (values d) c.requires.0 (numbers d), run-weights (values d) c.requires.1 own.all own.own (numbers d).size)

pub loop-k-preserved : goal.loop-k-preserved
loop-k-preserved c =
    let d = c.before.before.before.before.before in
    let own = c.of_run-own.ensures in
    run-filled (run d) c.loop-k.invariant (
    c.step_run.ensures
    ∙ run-pass (values d) (weight_at c.args.weights.all c.args.weights.own.now) (at c.args.flow.now)
    (part_weight c.args.weights.own.now c.run-r.result.pair c.run-r.result.count own.all own.own) (numbers d).number
    table (λ n _ _. table-cong n) (step_value nearest_eighth) (numbers d).size
    )

pub returns : goal.returns
returns c = all_filled c.loop-k.invariant c.run_count-k-end.ensures c.loop-k.auto.k-end c.loop-k-test.false
