use Rattle.lists.specs.Lists.{at}
use Rattle.model.specs.Rounds.{eighth}
use Rattle.passes.specs.Pairs.{weight_at, step_at, ahead_at}
use Rattle.lists.proofs.Fill.{Filling}
use Rattle.passes.proofs.advance.advance_run.Given as goal

abbrev pub invariant-loop-j : goal.invariant-loop-j
invariant-loop-j l =
    Filling (step_at eighth (weight_at l.weights.all l.weights.own.now) (at l.initial.ahead) (at l.values.first.now) (at l.values.second.now)) l.initial.flow l.j l.flow
    × Filling (ahead_at eighth (weight_at l.weights.all l.weights.own.now) l.m (at l.initial.flow) (at l.initial.ahead) (at l.values.first.now) (at l.values.second.now)) l.initial.ahead l.j l.ahead
