use native.Mathlib.Omega.{arith}
use mathlib.Core.Path.{ap}
use Prim.Native.Nat.{ℕ}
use Rattle.model.specs.Text.{ascii}
use Rattle.model.specs.Season.{ending_text}
use Rattle.model.specs.Verdict.{Refuse}
use Rattle.output.proofs.Puts.{put_as, put_within}
use Rattle.text.proofs.Lengths.{refusal-length}
use Rattle.text.proofs.report.put_refused.Goals as goal

pub returns-clause-put : goal.returns-clause-put
unfolding ascii ending_text
returns-clause-put c =
    let short = refusal-length c.number.result c.args.refusal.place (omega arith) (omega arith) in
    put_as (ap (λ (n : ℕ). ending_text c.args.jobs (Refuse n c.args.refusal.place)) c.number.ensures)
    (put_within
    (put_within (put_within c.put_bytes-first.ensures c.put_field-second.ensures.put (omega arith)) c.put_byte-third.ensures (omega arith))
    c.put_refusal.ensures (omega (arith, short)))

pub returns-clause-upper_bound : goal.returns-clause-upper_bound
unfolding ascii ending_text
returns-clause-upper_bound c =
    let short = refusal-length c.number.result c.args.refusal.place (omega arith) (omega arith) in
    omega (arith, short)
