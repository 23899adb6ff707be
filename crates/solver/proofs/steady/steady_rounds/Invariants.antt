use Prim.Native.Nat.{◌-◌}
use Rattle.solver.specs.Scan.{problem_of}
use Rattle.model.specs.Rounds.{nearest_eighth}
use Rattle.solver.specs.Ready.{SteadyReady}
use Rattle.solver.proofs.SteadyRounds.{Rested}
use Rattle.solver.proofs.steady.steady_rounds.Given as goal

abbrev pub invariant-rounds : goal.invariant-rounds
invariant-rounds l =
    SteadyReady l.scan.terms l.scan.samples.now l.scan.weights.own.now l.flow l.image × Rested nearest_eighth (problem_of l.scan) l.allowance l.initial.flow l.moved l.flow

abbrev pub decreases-rounds : goal.decreases-rounds
decreases-rounds l = l.allowance - l.moved
