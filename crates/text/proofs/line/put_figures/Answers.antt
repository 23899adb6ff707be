use native.Mathlib.Omega.{arith}
use Rattle.model.specs.Text.{ascii}
use Rattle.output.proofs.Puts.{put_within}
use Rattle.text.proofs.line.put_figures.Goals as goal

pub returns-clause-put : goal.returns-clause-put
unfolding ascii
returns-clause-put c =
    put_within (put_within c.put_bytes-first.ensures c.put_bytes-second.ensures (omega arith)) c.put_numbers.ensures.put (omega arith)
