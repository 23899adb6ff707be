use Rattle.lists.specs.Lists.{at}
use Rattle.model.specs.Rounds.{nearest_eighth}
use Rattle.passes.specs.Pairs.{weight_at, step_at, first_value, second_value}
use Rattle.passes.proofs.Runs.{Partly}
use Rattle.passes.proofs.step.step_pairs.Given as goal

abbrev pub invariant-loop-k : goal.invariant-loop-k
invariant-loop-k l =
    Partly l.s (step_at nearest_eighth (weight_at l.weights.all l.weights.own.now) (at l.initial.flow) (first_value l.s l.image) (second_value l.s l.image)) l.initial.flow l.k l.flow
