-- run after run, to the first that has a moving pair.
use mathlib.Core.Path.{◌≡◌, sym, ◌∙◌, subst}
use mathlib.Core.Bool.{Bool}
use Prim.Native.Nat.{ℕ, ◌+◌}
use lib.ListN.{length}
use Rattle.std.specs.Prelude.{Option}
use Rattle.lists.specs.Lists.{at}
use Rattle.lists.proofs.Search.{Passed, passed_none}
use Rattle.model.specs.Rounds.{nearest_eighth}
use Rattle.layout.proofs.Runs.{run-first}
use Rattle.stencil.specs.Pair.{moves}
use Rattle.passes.specs.Pairs.{weight_at, moves_at, first_value, second_value}
use Rattle.passes.proofs.Runs.{PartOf, part_of, part_weight, Turn, turn, all_done, values-there, weights_there, numbers-there, ValuesOf, values_of, run-limits, run-weights, run-pass}
use Rattle.passes.proofs.Searches.{answer, answer-cong, none_answer, part_none, part_first}
use Rattle.passes.proofs.search.first_moving.Goals as goal

pub loop-k-init : goal.loop-k-init
loop-k-init c = subst (Passed _) (sym (run-first c.args.s)) (passed_none _)

this : (c : goal.After-run-r) → Turn c.args.s c.loop-k.k c.run-r.result
this c = turn c.requires.0.raster.shape c.run-r.ensures c.loop-k-test.true c.run_count-k-end.ensures

pub part_of-numbers-requires : goal.part_of-numbers-requires
part_of-numbers-requires c _ = numbers-there (this c) c.args.flow.now c.requires.0.flow_length

pub of_run-values-requires : goal.of_run-values-requires
of_run-values-requires c = values-there (this c.before) c.requires.0.raster

pub of_run-own-requires : goal.of_run-own-requires
of_run-own-requires c = weights_there (this c.before.before) c.requires.1

module _ (c : goal.After-of_run-own) where
  run : Turn c.args.s c.loop-k.k c.run-r.result
  run = this c.before.before.before

  values : ValuesOf c.args.s c.run-r.result c.args.image.now c.of_run-values.result.first.now c.of_run-values.result.second.now
  values = values_of run c.requires.0.raster c.of_run-values.ensures.first c.of_run-values.ensures.second

  numbers : PartOf c.args.flow.now c.run-r.result.pair c.run-r.result.count c.part_of-numbers.result.now
  numbers = part_of c.args.flow.now c.run-r.result.pair c.run-r.result.count c.part_of-numbers.ensures (numbers-there run c.args.flow.now c.requires.0.flow_length)

  -- whether a pair of the raster moves
  abbrev test : ℕ → Bool
  test = moves_at nearest_eighth (weight_at c.args.weights.all c.args.weights.own.now) (at c.args.flow.now) (first_value c.args.s c.args.image.now) (second_value c.args.s c.args.image.now)

  -- none before the run does
  passed : Passed test c.run-r.result.pair
  passed = subst (Passed test) run.begins c.loop-k.invariant

  -- the run's answer is that over its pairs of the raster
  run-answer : {found : Option ℕ} →
      found ≡ answer (length c.part_of-numbers.result.now) (moves_at nearest_eighth (weight_at c.of_run-own.result.all c.of_run-own.result.own.now) (at c.part_of-numbers.result.now) (at c.of_run-values.result.first.now) (at c.of_run-values.result.second.now)) →
      found ≡ answer c.run-r.result.count (λ j. test (c.run-r.result.pair + j))
  run-answer e =
      let own = c.of_run-own.ensures in
      e
      ∙ run-pass values (weight_at c.args.weights.all c.args.weights.own.now) (at c.args.flow.now)
      (part_weight c.args.weights.own.now c.run-r.result.pair c.run-r.result.count own.all own.own) numbers.number
      answer answer-cong (moves nearest_eighth) numbers.size

pub search_run-requires : goal.search_run-requires
search_run-requires c =
    let own = c.of_run-own.ensures in
    (run-limits (values c) c.requires.0 (numbers c), run-weights (values c) c.requires.1 own.all own.own (numbers c).size)

pub returns-in-Some : goal.returns-in-Some
returns-in-Some c =
    let d = c.before.before.before in
    part_first (test d) c.run-r.result.pair c.run-r.result.count (passed d) (sym (run-answer d c.search_run.ensures) ∙ c.in-Some.is) (numbers d).inside

pub loop-k-preserved : goal.loop-k-preserved
loop-k-preserved c =
    let d = c.before.before in
    subst (Passed (test d)) (sym (run d).ends)
    (part_none (test d) c.run-r.result.pair c.run-r.result.count (passed d) (sym (run-answer d c.search_run.ensures) ∙ c.in_default.is))

pub returns : goal.returns
returns c = none_answer _ c.loop-k.invariant (all_done c.args.s c.run_count-k-end.ensures c.loop-k.auto.k-end c.loop-k-test.false ∙ sym c.requires.0.flow_length)
