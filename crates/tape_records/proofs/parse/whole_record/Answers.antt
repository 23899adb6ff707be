use mathlib.Core.Path.{sym}
use native.Mathlib.Omega.{arith}
use Rattle.tape_records.proofs.RecordRows.{body_fits}
use Rattle.tape_records.proofs.parse.whole_record.Goals as goal

pub decode-entry-requires : goal.decode-entry-requires
decode-entry-requires c = body_fits _ _ _ _ _ (sym c.in-Ok.ensures)

pub overflow_add-next-in-Ok : goal.overflow_add-next-in-Ok
overflow_add-next-in-Ok c = omega (arith, body_fits _ _ _ _ _ (sym c.in-Ok.ensures), c.requires.2)
