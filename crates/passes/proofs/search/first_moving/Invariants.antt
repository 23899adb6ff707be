use Rattle.lists.specs.Lists.{at}
use Rattle.lists.proofs.Search.{Passed}
use Rattle.model.specs.Rounds.{nearest_eighth}
use Rattle.layout.proofs.Runs.{start}
use Rattle.passes.specs.Pairs.{weight_at, moves_at, first_value, second_value}
use Rattle.passes.proofs.search.first_moving.Given as goal

abbrev pub invariant-loop-k : goal.invariant-loop-k
invariant-loop-k l =
    Passed (moves_at nearest_eighth (weight_at l.weights.all l.weights.own.now) (at l.flow) (first_value l.s l.image) (second_value l.s l.image)) (start l.s l.k)
