use native.Mathlib.Omega.{arith}
use mathlib.Core.Path.{sym, ap, ◌∙◌}
use mathlib.Core.List.{append-nil}
use Rattle.std.specs.Prelude.{Result}
use Rattle.model.specs.declared.Refusal.{Refusal}
use Rattle.model.specs.Verdict.{verdict_of}
use Rattle.model.specs.Season.{totals_text, ending_text, report_text}
use Rattle.output.proofs.Puts.{put_as, put_within}
use Rattle.text.proofs.report.put_report.Goals as goal

pub returns-in-Ok-clause-put : goal.returns-in-Ok-clause-put
unfolding ending_text
returns-in-Ok-clause-put c =
    put_as
    (sym (append-nil (totals_text c.args.t)) ∙ ap (λ (e : Result Unit Refusal). report_text c.args.t (verdict_of e)) (sym c.in-Ok.is))
    c.put_totals-next.ensures.put

pub returns-in-Err-clause-put : goal.returns-in-Err-clause-put
returns-in-Err-clause-put c =
    put_as (ap (λ (e : Result Unit Refusal). report_text c.args.t (verdict_of e)) (sym c.in-Err.is))
    (put_within c.put_totals-next.ensures.put c.put_refused.ensures.put (omega arith))
