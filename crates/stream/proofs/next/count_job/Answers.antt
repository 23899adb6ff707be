use borrow.Author.Rules.{rules}
use mathlib.Core.Path.{◌≡◌, ap, ap₂, ◌∙◌, subst, subst⁻¹}
use mathlib.Core.List.{List}
use Prim.Native.Nat.{ℕ}
use lib.ListN.{take}
use Rattle.std.specs.Prelude.{Result, Err}
use Rattle.model.specs.declared.Lent.{Lent}
use Rattle.model.specs.declared.Terms.{Terms}
use Rattle.model.specs.declared.Totals.{Totals}
use Rattle.model.specs.declared.Ending.{Ending}
use Rattle.model.specs.declared.Job.{Job}
use Rattle.model.specs.declared.Refusal.{Refusal}
use Rattle.model.specs.Calls as Calls
use Rattle.model.specs.Calls.{pixels_of}
use Rattle.model.specs.Answers.{answer_of}
use Rattle.model.specs.Season.{treated}
use Rattle.stream.specs.Totals.{with_job}
use Rattle.stream.specs.Jobs.{Whole, Answered}
use Rattle.stream.specs.AtHand.{NextJob}
use Rattle.stream.proofs.AtHand.{next_counted, next_refused}
use Rattle.stream.proofs.next.count_job.Goals as goal

-- the job that is counted is the one that was read
treated-as : {bytes : List ℕ} {lent : Lent} {totals : Totals} {u : Terms} {a : Result Ending Refusal} {size : ℕ} (k : Whole bytes lent totals u a size)
    {n : ℕ} → n ≡ pixels_of u → record { pixels = n; answer = answer_of a } ≡ treated k.job
treated-as k e = ap₂ (λ (m : ℕ) (x : Calls.Answer). record { pixels = m; answer = x }) (e ∙ k.pixels) k.answer

pub returns-in_err-t : goal.returns-in_err-t
returns-in_err-t c bytes ended lent few h =
    let a = c.args in
    let failed : c.from_residual.result ≡ Err c.in_err-t.field-0.0 = search rules in
    subst⁻¹ (NextJob bytes ended lent a.totals) failed
    (next_refused bytes lent a.totals few
    (subst (λ (r : Result Job Refusal). Answered (take 65536 bytes) lent a.totals r a.answer a.size) c.in_err-t.was h))

pub returns : goal.returns
returns c bytes ended lent few h =
    let a = c.args in
    let job = c.in_ok-t.field-0 in
    let k : Whole (take 65536 bytes) lent a.totals job.terms a.answer a.size =
    subst (λ (r : Result Job Refusal). Answered (take 65536 bytes) lent a.totals r a.answer a.size) c.in_ok-t.was h
    in
    next_counted bytes lent a.totals few k (c.with_job.ensures ∙ ap (with_job a.totals) (treated-as k c.pixels-n.ensures))
