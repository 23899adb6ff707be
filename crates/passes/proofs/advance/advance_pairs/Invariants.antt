use Rattle.lists.specs.Lists.{at}
use Rattle.model.specs.Rounds.{eighth}
use Rattle.passes.specs.Pairs.{weight_at, step_at, ahead_at, first_value, second_value}
use Rattle.passes.proofs.Runs.{Partly}
use Rattle.passes.proofs.advance.advance_pairs.Given as goal

abbrev pub invariant-loop-k : goal.invariant-loop-k
invariant-loop-k l =
    Partly l.s (step_at eighth (weight_at l.weights.all l.weights.own.now) (at l.initial.ahead) (first_value l.s l.image) (second_value l.s l.image)) l.initial.flow l.k l.flow
    × Partly l.s (ahead_at eighth (weight_at l.weights.all l.weights.own.now) l.m (at l.initial.flow) (at l.initial.ahead) (first_value l.s l.image) (second_value l.s l.image)) l.initial.ahead l.k l.ahead
