use native.Mathlib.Omega.{arith}
use Rattle.model.specs.Text.{ascii}
use Rattle.output.proofs.Puts.{put_within}
use Rattle.text.proofs.report.put_line_of_two.Goals as goal

pub returns-clause-put : goal.returns-clause-put
unfolding ascii
returns-clause-put g c =
    put_within
    (put_within (put_within c.put_bytes-first.ensures c.put_field-second.ensures.put (omega arith)) c.put_field-third.ensures.put (omega arith))
    c.put_byte.ensures (omega arith)
