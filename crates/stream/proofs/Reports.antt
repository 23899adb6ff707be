-- What the first job of the rest does to the report of a season. Assumes nothing.
use mathlib.Core.Path.{◌≡◌, refl, sym, ap, ◌∙◌}
use mathlib.Core.Bool.{true}
use mathlib.Core.List.{List, [], ◌∷◌, ◌++◌, append-nil, append_assoc}
use Prim.Native.Nat.{ℕ, zero, suc, ◌-◌, ◌<◌}
use native.Mathlib.Omega.{arith}
use lib.ListN.{length, drop}
use borrow.Author.Tests.{ne_eqb}
use Rattle.model.specs.Verdict.{Verdict, Accept, Refuse}
use Rattle.model.specs.declared.Lent.{Lent}
use Rattle.model.specs.declared.Totals.{Totals}
use Rattle.model.specs.Tape.{Progress, turned, whole}
use Rattle.model.specs.Season.{first_job, bytes_of, Treated, treated, Season, ended, followed_by, season_from, totals_of, report_text, season_text}
use Rattle.model.specs.Program.{tables}
use Rattle.stream.specs.Totals.{with_job}
use Rattle.stream.proofs.Sums.{with_job-more}
use Rattle.stream.specs.Report.{with_jobs, Report, report_from}

abbrev ends : Totals → Verdict → Report
ends t v = record { totals = t; ending = v }

module _ (lent : Lent) (t : Totals) where
  abbrev after : Season → Report
  after s = record { totals = with_jobs t s.jobs; ending = s.ending }

  -- a season that ends here
  here : (input : List ℕ) (v : Verdict) → season_from lent (65535 - t.jobs) input ≡ ended v → report_from lent t input ≡ ends t v
  unfolding report_from with_jobs
  here input v e = ap after e

  -- no bytes are left
  none : (n : ℕ) → season_from lent n [] ≡ ended Accept
  unfolding season_from
  none zero = refl
  none (suc n) = refl

  pub over_report : report_from lent t [] ≡ ends t Accept
  over_report = here [] Accept (none (65535 - t.jobs))

  -- all jobs are counted
  pub full_report : (input : List ℕ) → t.jobs ≡ 65535 → report_from lent t input ≡ ends t Accept
  unfolding season_from
  full_report input e =
      let none_left : 65535 - t.jobs ≡ 0 = omega arith in
      here input Accept (ap (λ (n : ℕ). season_from lent n input) none_left)

  module _ (few : t.jobs < 65535) (input : List ℕ) (some : ¬ (length input ≡ 0)) where
    left : 65535 - t.jobs ≡ suc (65534 - t.jobs)
    left = omega arith

    season_turned : (m : ℕ) {n q : ℕ} → first_job lent input ≡ turned n q → season_from lent (suc m) input ≡ ended (Refuse n q)
    unfolding season_from
    season_turned m e = rw (ne_eqb (length input) 0 some, e, season_from) refl

    season_on : (m : ℕ) {p : Progress} → first_job lent input ≡ whole p → season_from lent (suc m) input ≡ followed_by (treated p) (season_from lent m (drop (bytes_of p) input))
    unfolding season_from
    season_on m e = rw (ne_eqb (length input) 0 some, e, season_from) refl

    pub refused-report : {n q : ℕ} → first_job lent input ≡ turned n q → report_from lent t input ≡ ends t (Refuse n q)
    refused-report {n} {q} e = here input (Refuse n q) (ap (λ (m : ℕ). season_from lent m input) left ∙ season_turned (65534 - t.jobs) e)

    pub counted-report : {p : Progress} → first_job lent input ≡ whole p →
        report_from lent t input ≡ report_from lent (with_job t (treated p)) (drop (bytes_of p) input)
    unfolding report_from with_jobs
    counted-report {p} e =
        ap after
        (ap (λ (m : ℕ). season_from lent m input) left
        ∙ season_on (65534 - t.jobs) e
        ∙ ap (λ (m : ℕ). followed_by (treated p) (season_from lent m (drop (bytes_of p) input))) (omega arith))

-- the totals with jobs counted one by one are the sums over all of them
with_jobs_lem : (done jobs : List Treated) → with_jobs (totals_of done) jobs ≡ totals_of (done ++ jobs)
unfolding with_jobs
with_jobs_lem done [] = ap totals_of (sym (append-nil done))
with_jobs_lem done (job ∷ jobs) =
    ap (λ (t : Totals). with_jobs t jobs) (with_job-more done job)
    ∙ with_jobs_lem (done ++ (job ∷ [])) jobs
    ∙ ap totals_of (append_assoc done (job ∷ []) jobs)

-- a report from the first byte on: its text
pub season_text_lem : (input : List ℕ) {r : Report} → report_from (tables true) (totals_of []) input ≡ r → report_text r.totals r.ending ≡ season_text input
unfolding report_from season_text
season_text_lem input e =
    let s : Season = season_from (tables true) 65535 input in
    ap (λ (r : Report). report_text r.totals r.ending) (sym e) ∙ ap (λ (t : Totals). report_text t s.ending) (with_jobs_lem [] s.jobs)
