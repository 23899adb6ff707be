use Rattle.lists.specs.Lists.{at}
use Rattle.model.specs.Rounds.{nearest_eighth}
use Rattle.passes.specs.Pairs.{weight_at, step_at}
use Rattle.lists.proofs.Fill.{Filling}
use Rattle.passes.proofs.step.step_run.Given as goal

abbrev pub invariant-loop-j : goal.invariant-loop-j
invariant-loop-j l =
    Filling (step_at nearest_eighth (weight_at l.weights.all l.weights.own.now) (at l.initial.flow) (at l.values.first.now) (at l.values.second.now)) l.initial.flow l.j l.flow
