use Rattle.lists.proofs.Search.{Searched}
use Rattle.tape_reader.specs.Places.{beyond_own}
use Rattle.tape_reader.proofs.fill.first_beyond.Given as goal

abbrev pub invariant-loop-j : goal.invariant-loop-j
invariant-loop-j l = Searched l.fn.flow.count (beyond_own l.tape l.weight l.fn.weights.start l.fn.weights.count l.fn.flow.start) l.j
