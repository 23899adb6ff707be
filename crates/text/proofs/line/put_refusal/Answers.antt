use native.Mathlib.Omega.{arith}
use Rattle.model.specs.Text.{ascii}
use Rattle.model.specs.Program.{refusal_text}
use Rattle.output.proofs.Puts.{put_within}
use Rattle.text.proofs.line.put_refusal.Goals as goal

pub returns : goal.returns
unfolding ascii refusal_text
returns c =
    put_within
    (put_within (put_within (put_within c.put_bytes-first.ensures c.put-second.ensures.put (omega arith)) c.put_bytes-third.ensures (omega arith))
    c.put-fourth.ensures.put (omega arith))
    c.put_byte.ensures (omega arith)
