use borrow.Author.Tests.{le-leb}
use Rattle.model.specs.Tape.{record_rows}
use Rattle.model.proofs.Refusals.{refused}
use Rattle.tape_records.proofs.RecordRows.{result_by}
use Rattle.tape_records.proofs.parse.next_record.Goals as goal

-- the input ends where a record is due
pub returns-in_default : goal.returns-in_default
unfolding record_rows
returns-in_default c = result_by _ _ _ _ (refused _ _ (le-leb _ _ c.in_default.ensures.lookup.3))
