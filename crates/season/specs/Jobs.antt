-- How far a season has been read, and what its report still depends on.
use Rattle.std.specs.Prelude.{◌≡◌, cond, IfSome, List, [], ◌++◌, ℕ, ◌+◌, ◌-◌, ◌*◌, ◌≤◌, ◌<◌, Option}
use Rattle.model.specs.declared.Lent.{Lent}
use Rattle.model.specs.declared.Totals.{Totals}
use Rattle.model.specs.Verdict.{verdict_of}
use Rattle.model.specs.Tape.{nothing}
use Rattle.model.specs.Season.{totals_of}
use Rattle.tape_records.specs.State.{state_of}
use Rattle.tape_reader.specs.Scan.{Reached}
use Rattle.job.specs.Tables.{Holds}
use Rattle.stream.specs.Totals.{Bounded}
use Rattle.stream.specs.Report.{report_from}
use Rattle.stream.specs.AtHand.{Reports, NeedsMore}
use Rattle.season.specs.declared.window.Window.{Window}
use Rattle.season.specs.declared.jobs.State.{State}
use Rattle.season.specs.declared.jobs.Step.{Step}
use Rattle.season.specs.declared.jobs.Ended.{Ended}
use Rattle.season.specs.Window.{at_hand, WindowIn}

-- a buffer that is longer than the most bytes at hand that are too few, and tables that hold every job of at most 4,096
-- samples
pub record SeasonTables (buffer samples flow image work : ℕ) : Type 0 where
  pub buffer_long : 65536 < buffer
  pub samples_most : samples ≤ 4096
  pub holds : Holds samples flow image work

-- a state in a buffer: its window lies there, what has been read of the job at its front stands there, and another job can
-- be counted
pub record ValidState (lent : Lent) (buffer : List ℕ) (s : State) : Type 0 where
  pub within : WindowIn buffer s.window
  pub reached : Reached (at_hand buffer s.window) lent s.parser s.at
  pub near : s.at ≤ 65536
  pub bounded : Bounded s.totals
  pub not_last : s.totals.jobs < 65535

-- what is left to do: jobs, bytes of the job, and the input's end
abbrev pub left : State → ℕ
left s =
    (65535 - s.totals.jobs) * 131076
    + (2 * (65537 - (s.window.end - s.window.start)) + cond s.window.ended 0 1)

-- a step on: the report on all that is at hand and may follow is that of the next state; nothing is read
pub record Continues (lent : Lent) (buffer : List ℕ) (w : Window) (totals : Totals) (r : State) : Type 0 where
  pub within : WindowIn buffer r.window
  pub ended : r.window.ended ≡ w.ended
  pub first : r.at ≡ 0
  pub unread : r.parser ≡ state_of nothing
  pub bounded : Bounded r.totals
  pub one : r.totals.jobs ≡ totals.jobs + 1
  pub not_last : r.totals.jobs < 65535
  pub report :
      (rest : List ℕ) →
      report_from lent totals (at_hand buffer w ++ rest) ≡ report_from lent r.totals (at_hand buffer r.window ++ rest)

-- .. or the season's end, with whether the input ended as the window has it, and the report on all that is at hand and may
-- follow
pub record Stops (lent : Lent) (buffer : List ℕ) (w : Window) (totals : Totals) (e : Ended) : Type 0 where
  pub ended : e.ended ≡ w.ended
  pub report : Reports (at_hand buffer w) e.ended lent totals (record { totals = e.totals; ending = verdict_of e.ending })

-- .. or more bytes are wanted
abbrev pub StepOf : Lent → List ℕ → Window → Totals → Step → Type 0
StepOf lent buffer w totals (Step.Continue r) = Continues lent buffer w totals r
StepOf lent buffer w totals (Step.Read t at) = NeedsMore (at_hand buffer w) w.ended lent t at
StepOf lent buffer w totals (Step.Stop e) = Stops lent buffer w totals e

-- the report of a season: for some bytes, and for these with any behind them if the input had not ended
abbrev pub ReportOf : Lent → Ended → Type 0
ReportOf lent e =
    (input : List ℕ) × Reports input e.ended lent (totals_of []) (record { totals = e.totals; ending = verdict_of e.ending })

-- .. and where these bytes are known: the report on them
abbrev pub KnownReport : Lent → Option (List ℕ) → Ended → Type 0
KnownReport lent known e =
    IfSome known (λ input. report_from lent (totals_of []) input ≡ record { totals = e.totals; ending = verdict_of e.ending })
