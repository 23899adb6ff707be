use native.Mathlib.Omega.{arith}
use Rattle.std.proofs.lemmas.Grind.{common_steps}
use Rattle.model.specs.Tape.{kinds}
use Rattle.tape_records.proofs.parse.decode.Goals as goal

pub returns-in-2 : goal.returns-in-2
unfolding kinds
returns-in-2 c = rw c.in-2.is (grind (arith, common_steps))
