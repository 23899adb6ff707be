use Rattle.lists.proofs.Fill.{Filling}
use Rattle.lists.specs.Lists.{at}
use Rattle.solver.proofs.quick.copy.Given as goal

abbrev pub invariant-loop-j : goal.invariant-loop-j
invariant-loop-j l = Filling (at l.source) l.initial.target l.j l.target
