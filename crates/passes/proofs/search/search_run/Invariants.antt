use Prim.Native.Nat.{◌-◌}
use lib.ListN.{length}
use Rattle.lists.specs.Lists.{at}
use Rattle.model.specs.Rounds.{nearest_eighth}
use Rattle.passes.specs.Pairs.{weight_at, moves_at}
use Rattle.lists.proofs.Search.{Searched}
use Rattle.passes.proofs.search.search_run.Given as goal

abbrev pub invariant-loop-j : goal.invariant-loop-j
invariant-loop-j l =
    Searched (length l.flow) (moves_at nearest_eighth (weight_at l.weights.all l.weights.own.now) (at l.flow) (at l.values.first.now) (at l.values.second.now)) l.j

abbrev pub decreases-loop-j : goal.decreases-loop-j
decreases-loop-j l = length l.flow - l.j
