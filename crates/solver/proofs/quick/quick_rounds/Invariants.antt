use Rattle.solver.proofs.QuickRounds.{Turned}
use Rattle.solver.proofs.quick.quick_rounds.Given as goal

abbrev pub invariant-loop-k : goal.invariant-loop-k
invariant-loop-k l = Turned l.scan.terms l.quick l.scan.samples.now l.scan.weights.own.now l.initial.image l.k l.flow l.image l.work l.momentum
