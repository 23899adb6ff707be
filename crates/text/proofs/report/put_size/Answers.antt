use native.Mathlib.Omega.{arith}
use Rattle.model.specs.Text.{ascii}
use Rattle.output.proofs.Puts.{put_within}
use Rattle.text.proofs.report.put_size.Goals as goal

pub returns-clause-put : goal.returns-clause-put
unfolding ascii
returns-clause-put c = put_within c.put_line-next.ensures.put c.put_line.ensures.put (omega arith)
