use mir.Syntax.{w32}
use Rattle.std.proofs.lemmas.Int.{to_z_pos}
use Rattle.solver.proofs.scan.Scan.of.Goals as goal

pub invariant_of-result-clause-weight_is : goal.invariant_of-result-clause-weight_is
invariant_of-result-clause-weight_is c = to_z_pos w32 _ c.requires
