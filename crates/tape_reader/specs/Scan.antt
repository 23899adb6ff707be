-- A scan of a tape: what its counts stand for, and where it stops.
use Rattle.std.specs.Prelude.{Bool, ◌≡◌, List, ℕ, suc, ◌+◌, ◌≤◌, ◌<◌, length, take, Result, Ok, Err, None}
use Rattle.model.specs.declared.Lent.{Lent}
use Rattle.model.specs.Verdict.{number_of, refused}
use Rattle.model.specs.Tape.{Progress, nothing, Parse, whole, parse_from}
use Rattle.tape_records.specs.declared.state.ParserState.{ParserState}
use Rattle.tape_reader.specs.declared.scan.Stopped.{Stopped}
use Rattle.tape_records.specs.State.{state_of}
use Rattle.tape_reader.specs.Transition.{numbers_read, transition_at}

-- the records of a tape, before 8 is judged
abbrev pub records_of : List ℕ → Lent → Parse
records_of tape lent = parse_from (suc (length tape)) tape lent 0 nothing

-- these are the counts of a tape whose records pass
abbrev pub WholeRecords : List ℕ → Lent → ParserState → Type 0
WholeRecords tape lent t = (p : Progress) × (records_of tape lent ≡ whole p) × (t ≡ state_of p)

-- the same buffers, for a tape that may be followed or not
abbrev pub lent_for : Lent → Bool → Lent
lent_for lent followed = record { samples = lent.samples; weights = lent.weights; flow = lent.flow; followed = followed }

-- These counts are of what the tape's first o bytes hold, whole records: on every tape that begins with them reading goes on
-- from there as from its start
pub record Reached (tape : List ℕ) (lent : Lent) (t : ParserState) (o : ℕ) : Type 0 where
  pub progress : Progress
  pub counted : t ≡ state_of progress
  pub inside : o ≤ length tape
  pub counts : numbers_read t ≤ o
  pub goes_on :
      (other : List ℕ) → o ≤ length other → take o other ≡ take o tape → (followed : Bool) (k : ℕ) → length other < o + k →
      records_of other (lent_for lent followed) ≡ parse_from k other (lent_for lent followed) o progress

-- A scan stops where the record that it has reached is refused, or ends the job
abbrev pub StopsAt : List ℕ → Lent → Result (ParserState × ℕ) Stopped → Type 0
StopsAt tape lent (Err s) =
    Reached tape lent s.state s.at × (refused (number_of s.refusal.reason) s.refusal.place ≡ transition_at tape s.at s.state lent)
StopsAt tape lent (Ok (t, at)) = Reached tape lent t at × (Ok None ≡ transition_at tape at t lent)
