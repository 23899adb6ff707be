use native.Mathlib.Omega.{arith}
use Rattle.model.specs.Text.{ascii}
use Rattle.model.specs.Season.{totals_text}
use Rattle.output.proofs.Puts.{put_within}
use Rattle.text.proofs.report.put_totals.Goals as goal

pub returns-clause-put : goal.returns-clause-put
unfolding ascii totals_text
returns-clause-put c =
    put_within
    (put_within (put_within c.put_counts-first.ensures.put c.put_line-second.ensures.put (omega arith)) c.put_line_of_two-third.ensures.put (omega arith))
    c.put_mean.ensures.put (omega arith)
