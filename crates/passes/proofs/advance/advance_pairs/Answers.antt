-- run after run.
use mathlib.Core.Path.{◌≡◌, sym, ap, ap₂, ◌∙◌}
use Prim.Native.Nat.{ℕ, ◌+◌, ◌-◌, ◌<◌}
use native.Mathlib.Omega.{arith}
use lib.IntN.{ℤ}
use lib.ListN.{take, drop}
use Rattle.lists.specs.Lists.{at, table}
use Rattle.lists.proofs.Tables.{table-cong}
use Rattle.model.specs.Rounds.{eighth}
use Rattle.momentum.specs.Reciprocal.{ahead_of}
use Rattle.stencil.specs.Pair.{step_value}
use Rattle.passes.specs.Pairs.{weight_at}
use Rattle.passes.proofs.Elements.{lent-within}
use Rattle.passes.proofs.Runs.{PartOf, part_weight, Turn, turn, none_filled, all_filled, values-there, weights_there, unfilled, run-filled, ValuesOf, values_of, run-limits, run-weights, run-pair}
use Rattle.passes.proofs.advance.advance_pairs.Goals as goal

-- a table of n numbers, whose count is known by another name
sized : {size n : ℕ} {g g' : ℕ → ℤ} → size ≡ n → ((i : ℕ) → i < n → g i ≡ g' i) → table size g ≡ table n g'
sized {size} {n} {g} e h = ap (λ (k : ℕ). table k g) e ∙ table-cong n h

pub loop-k-init : goal.loop-k-init
loop-k-init c = let e = c.requires.0.flow_length in (none_filled (c.requires.2.same_length ∙ e), none_filled e)

this : (c : goal.After-run-r) → Turn c.args.s c.loop-k.k c.run-r.result
this c = turn c.requires.0.raster.shape c.run-r.ensures c.loop-k-test.true c.run_count-k-end.ensures

pub of_run-values-requires : goal.of_run-values-requires
of_run-values-requires c = values-there (this c) c.requires.0.raster

pub of_run-own-requires : goal.of_run-own-requires
of_run-own-requires c = weights_there (this c.before) c.requires.1

module _ (c : goal.After-struct_known-1) where
  run : Turn c.args.s c.loop-k.k c.run-r.result
  run = this c.before.before.before

  values : ValuesOf c.args.s c.run-r.result c.args.image.now c.of_run-values.result.first.now c.of_run-values.result.second.now
  values = values_of run c.requires.0.raster c.of_run-values.ensures.first c.of_run-values.ensures.second

  numbers : PartOf c.args.flow.now c.run-r.result.pair c.run-r.result.count (take (c.run-r.result.pair + c.run-r.result.count - c.run-r.result.pair) (drop c.run-r.result.pair c.loop-k.flow))
  numbers = unfilled run c.loop-k.invariant.0

  numbers-ahead : PartOf c.args.ahead.now c.run-r.result.pair c.run-r.result.count (take (c.run-r.result.pair + c.run-r.result.count - c.run-r.result.pair) (drop c.run-r.result.pair c.loop-k.ahead))
  numbers-ahead = unfilled run c.loop-k.invariant.1

pub overflow_add-end : goal.overflow_add-end
overflow_add-end c = record { fits = omega (arith, (numbers c).inside, c.well_formed.0.1) }

pub offset_bounds-flow-start : goal.offset_bounds-flow-start
offset_bounds-flow-start c = record { fits = omega (arith, (numbers c).inside, c.well_formed.0.1) }

pub slice_bounds-advance_run-end : goal.slice_bounds-advance_run-end
slice_bounds-advance_run-end c = omega (arith, (numbers c).inside, c.loop-k.auto.flow)

pub offset_bounds-ahead-start : goal.offset_bounds-ahead-start
offset_bounds-ahead-start c = record { fits = omega (arith, (numbers c.before).inside, c.well_formed.0.1) }

pub slice_bounds-advance_run-end-in-loop-k : goal.slice_bounds-advance_run-end-in-loop-k
slice_bounds-advance_run-end-in-loop-k c = omega (arith, (numbers-ahead c.before).inside, c.loop-k.auto.ahead)

pub advance_run-requires : goal.advance_run-requires
advance_run-requires c =
    let d = c.before.before in
    let p = c.requires.2 in
    let own = c.of_run-own.ensures in (
      run-limits (values d) c.requires.0 (numbers-ahead d),
      run-weights (values d) c.requires.1 own.all own.own (numbers-ahead d).size,
      record {
        same_length = (numbers d).size ∙ sym (numbers-ahead d).size;
        weight_most = rw own.all p.weight_most;
        weights_most = lent-within c.run-r.result.pair c.run-r.result.count c.args.weights.own.now own.own p.weights_most;
        flow_most = (numbers d).within p.flow_most;
        factor_most = p.factor_most;
      },
    )

pub loop-k-preserved : goal.loop-k-preserved
loop-k-preserved c =
    let d = c.before.before.before.before.before in
    let r = c.run-r.result in
    let own = c.of_run-own.ensures in
    let e = c.advance_run.ensures in
    -- what the run makes of its pair j is what is made of that pair of the raster
    let step = run-pair (values d) (weight_at c.args.weights.all c.args.weights.own.now) (at c.args.ahead.now) (part_weight c.args.weights.own.now r.pair r.count own.all own.own) (numbers-ahead d).number (step_value eighth)
    in (
      run-filled (run d) c.loop-k.invariant.0 (e.flow_after ∙ sized (numbers d).size step),
      run-filled (run d) c.loop-k.invariant.1 (e.ahead_after ∙ sized (numbers d).size (λ j b. ap₂ (ahead_of c.args.m) ((numbers d).number j b) (step j b))),
    )

pub returns-clause-flow_after : goal.returns-clause-flow_after
returns-clause-flow_after c = all_filled c.loop-k.invariant.0 c.run_count-k-end.ensures c.loop-k.auto.k-end c.loop-k-test.false

pub returns-clause-ahead_after : goal.returns-clause-ahead_after
returns-clause-ahead_after c = rw c.requires.2.same_length (all_filled c.loop-k.invariant.1 c.run_count-k-end.ensures c.loop-k.auto.k-end c.loop-k-test.false)
