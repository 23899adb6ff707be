use native.Mathlib.Omega.{arith}
use Rattle.model.specs.Text.{ascii}
use Rattle.output.proofs.Puts.{put_within}
use Rattle.text.proofs.report.put_counts.Goals as goal

pub returns-clause-put : goal.returns-clause-put
unfolding ascii
returns-clause-put c =
    put_within
    (put_within (put_within c.put_size-first.ensures.put c.put_line-second.ensures.put (omega arith)) c.put_line-third.ensures.put (omega arith))
    c.put_line.ensures.put (omega arith)
