-- The totals of a season with one job more behind the others.
use Rattle.std.specs.Prelude.{Bool, cond, ◌||◌, ℕ, ◌+◌, ◌*◌, ◌≤◌, ◌<◌, eqb, ltb, nat_abs}
use Rattle.model.specs.Calls.{Answer}
use Rattle.calls.specs.Slack.{most_slack}
use Rattle.model.specs.declared.Totals.{Totals}
use Rattle.model.specs.Season.{Treated, settled_one, spent_one, checked_one, slack_of}
use Rattle.stream.specs.declared.totals.Addend.{Addend}
use Rattle.stream.specs.declared.totals.Peak.{Peak}

-- what an answer adds: 1 for the way the job ended, and its slack
abbrev pub addend_of : Answer → Addend
addend_of a =
    record {
      settled = settled_one a.outcome;
      spent = spent_one a.outcome;
      checked = checked_one a.outcome;
      slack = nat_abs a.slack;
    }

-- whether a slack is the largest so far: of the first job, or above the largest of the others
abbrev pub leads : ℕ → ℕ → ℕ → Bool
leads jobs largest slack = eqb jobs 0 || ltb largest slack

-- the largest slack, and the first job that has it, once a job has this slack
abbrev pub peak_of : ℕ → ℕ → ℕ → ℕ → Peak
peak_of jobs largest first slack =
    record {
      largest = cond (leads jobs largest slack) slack largest;
      first = cond (leads jobs largest slack) (jobs + 1) first;
    }

abbrev pub with_job : Totals → Treated → Totals
with_job t job =
    record {
      jobs = t.jobs + 1;
      pixels = t.pixels + job.pixels;
      settled = t.settled + settled_one job.answer.outcome;
      spent = t.spent + spent_one job.answer.outcome;
      checked = t.checked + checked_one job.answer.outcome;
      total = t.total + slack_of job;
      largest = cond (leads t.jobs t.largest (slack_of job)) (slack_of job) t.largest;
      first = cond (leads t.jobs t.largest (slack_of job)) (t.jobs + 1) t.first;
    }

-- the bounds that hold from job to job; so 65,535 jobs of 4,096 pixels have a total below 2 ^ 64
pub record Bounded (t : Totals) : Type 0 where
  pub settled_within : t.settled ≤ t.jobs
  pub spent_within : t.spent ≤ t.jobs
  pub checked_within : t.checked ≤ t.jobs
  pub pixels_within : t.pixels ≤ 4096 * t.jobs
  pub total_within : t.total ≤ most_slack * t.pixels

-- what counting a job asks
pub record Countable (t : Totals) (job : Treated) : Type 0 where
  pub bounded : Bounded t
  pub not_last : t.jobs < 65535
  pub pixels_allowed : job.pixels ≤ 4096
  pub slack_allowed : slack_of job ≤ most_slack * job.pixels
