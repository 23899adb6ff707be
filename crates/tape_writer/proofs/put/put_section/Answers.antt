use Rattle.tape_writer.proofs.Puts.{written_none, written_room, written_more, written_all}
use Rattle.tape_writer.proofs.put.put_section.Goals as goal

pub loop-number-init : goal.loop-number-init
loop-number-init g c = written_none _ _ _ _

pub put_record-next-requires : goal.put_record-next-requires
put_record-next-requires g c =
    rw c.entry.ensures (written_room _ _ _ _ c.requires c.loop-number.invariant c.loop-number-test.true c.number-item.is)

pub loop-number-preserved : goal.loop-number-preserved
loop-number-preserved g c =
    written_more _ _ _ _ c.requires c.loop-number.invariant c.loop-number-test.true c.number-item.is
    (rw c.entry.ensures at c.put_record-next.ensures)

pub returns : goal.returns
returns g c = written_all _ _ _ _ c.requires c.loop-number.invariant c.loop-number-test.false
