-- The job at the front of some bytes, scanned, read and answered, whatever follows them.
use Rattle.std.specs.Prelude.{◌≡◌, true, false, List, ◌++◌, ℕ, ◌≤◌, ◌<◌, Result, Ok, Err, length}
use Rattle.model.specs.declared.Lent.{Lent}
use Rattle.model.specs.declared.Terms.{Terms}
use Rattle.model.specs.declared.Totals.{Totals}
use Rattle.model.specs.declared.Ending.{Ending}
use Rattle.model.specs.declared.Job.{Job}
use Rattle.model.specs.declared.Refusal.{Refusal}
use Rattle.model.specs.Verdict.{number_of}
use Rattle.model.specs.Grid.{size_allowed}
use Rattle.model.specs.Calls.{pixels_of}
use Rattle.model.specs.Answers.{answer_of}
use Rattle.model.specs.Tape.{Progress, turned, whole, parse, too_short}
use Rattle.model.specs.Program.{job_answer}
use Rattle.model.specs.Season.{bytes_of, treated}
use Rattle.tape_records.specs.declared.state.ParserState.{ParserState}
use Rattle.tape_reader.specs.Scan.{Reached}
use Rattle.job.specs.Tables.{Holds}
use Rattle.stream.specs.Totals.{Bounded, Countable}

-- what a season's reading is lent by tables of these lengths; more may follow a job
abbrev pub lent_in : ℕ → ℕ → ℕ → Lent
lent_in samples weights flow = record { samples = samples; weights = weights; flow = flow; followed = true }

-- what reading a job asks of the totals and of the tables' lengths
pub record Ready (totals : Totals) (samples flow image work : ℕ) : Type 0 where
  pub bounded : Bounded totals
  pub not_last : totals.jobs < 65535
  pub samples_most : samples ≤ 4096
  pub holds : Holds samples flow image work

module _ (bytes : List ℕ) (lent : Lent) where
  -- the bytes end before the job does; its records up to this offset are whole
  pub record Short (number place : ℕ) (t : ParserState) (at : ℕ) : Type 0 where
    pub reached : Reached bytes lent t at
    pub refused : parse bytes lent ≡ turned number place
    pub short : too_short number ≡ true

  -- the job is refused
  pub record Refused (number place : ℕ) : Type 0 where
    pub refused : (behind : List ℕ) → parse (bytes ++ behind) lent ≡ turned number place
    pub faulty : too_short number ≡ false

  -- the job is read and answered; it can be counted, and has so many bytes
  pub record Whole (totals : Totals) (t : Terms) (a : Result Ending Refusal) (size : ℕ) : Type 0 where
    pub job : Progress
    pub read : (behind : List ℕ) → parse (bytes ++ behind) lent ≡ whole job
    pub length_in_bytes : size ≡ bytes_of job
    pub inside : size ≤ length bytes
    pub sized : size_allowed t.width t.height ≡ true
    pub pixels : pixels_of t ≡ pixels_of job.terms
    pub answer : answer_of a ≡ job_answer job
    pub countable : Countable totals (treated job)

  -- where a scan has stopped at a record that it refuses
  abbrev pub Stopped : ℕ → ℕ → ParserState → ℕ → Type 0
  Stopped number place t at =
      (too_short number ≡ true → Short number place t at) × (too_short number ≡ false → Refused number place)

  -- .. or at the end record: what was read of the tape that ends there
  abbrev pub Answered : Totals → Result Job Refusal → Result Ending Refusal → ℕ → Type 0
  Answered totals (Ok job) a size = Whole totals job.terms a size
  Answered totals (Err r) a size = Refused (number_of r.reason) r.place
