-- The report of a season of which some jobs have been counted already.
use Rattle.model.specs.Verdict.{Verdict}
use Rattle.std.specs.Prelude.{List, [], ◌∷◌, ℕ, ◌-◌}
use Rattle.model.specs.declared.Lent.{Lent}
use Rattle.model.specs.declared.Totals.{Totals}
use Rattle.model.specs.Season.{Treated, Season, season_from}
use Rattle.stream.specs.Totals.{with_job}

-- the totals with more jobs counted, one by one
unfoldable pub with_jobs : Totals → List Treated → Totals
with_jobs t [] = t
with_jobs t (job ∷ jobs) = with_jobs (with_job t job) jobs

pub record Report : Type 0 where
  pub totals : Totals
  pub ending : Verdict

-- what the report comes to where these totals have been counted and this is the rest of the input
unfoldable pub report_from : Lent → Totals → List ℕ → Report
report_from lent t input =
    let s : Season = season_from lent (65535 - t.jobs) input in record { totals = with_jobs t s.jobs; ending = s.ending }
