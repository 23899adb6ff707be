-- The transition of the parser on one record.
use Rattle.std.specs.Prelude.{List, ℕ, ◌+◌, ◌^◌, ◌<◌, Option, Some, None, Result, Ok, Err}
use Rattle.model.specs.declared.Entry.{Entry}
use Rattle.model.specs.declared.Entry.TheVariants.{End, Size, WeightBox, RoundLimits, Sample, Flow, PairWeight}
use Rattle.model.specs.declared.Terms.{Terms}
use Rattle.model.specs.declared.Rounds.{Rounds}
use Rattle.model.specs.Verdict.{Row, first_refusal, decided, refused}
use Rattle.model.specs.Calls.{pixels_of, pairs_of}
use Rattle.model.specs.Tape.{sized, with_box, entry_rows}
use Rattle.tape_records.specs.declared.state.ParserState.{ParserState}
use Rattle.tape_records.specs.declared.parse.Cursor.{Cursor}
use Rattle.model.specs.declared.Lent.{Lent}
use Rattle.tape_records.specs.Record.{result_at}

-- how many samples, pair weights and flow numbers have been read, and that one more can be counted
abbrev pub numbers_read : ParserState → ℕ
numbers_read t = t.samples + t.weights + t.flows

abbrev pub CountsFit : ParserState → Type 0
CountsFit t = numbers_read t < 2 ^ 63

-- with this much of the header, for so many pixels and pairs; with so many numbers
abbrev pub with_header : ParserState → ℕ → Terms → Rounds → ℕ → ℕ → ParserState
with_header t header terms rounds pixels pairs =
    record {
      header = header;
      terms = terms;
      rounds = rounds;
      pixels = pixels;
      pairs = pairs;
      samples = t.samples;
      weights = t.weights;
      flows = t.flows;
    }

abbrev pub with_counts : ParserState → ℕ → ℕ → ℕ → ParserState
with_counts t samples weights flows =
    record {
      header = t.header;
      terms = t.terms;
      rounds = t.rounds;
      pixels = t.pixels;
      pairs = t.pairs;
      samples = samples;
      weights = weights;
      flows = flows;
    }

-- what has been read once this record has been, too
abbrev pub advanced : ParserState → Entry → ParserState
advanced t End = t
advanced t (Size w h) = with_header t 1 (sized w h) t.rounds (pixels_of (sized w h)) (pairs_of (sized w h))
advanced t (WeightBox weight low high) =
    with_header t 2 (with_box t.terms weight low high) t.rounds t.pixels t.pairs
advanced t (RoundLimits q a) = with_header t 3 t.terms (record { quick = q; allowance = a }) t.pixels t.pairs
advanced t (Sample s) = with_counts t (t.samples + 1) t.weights t.flows
advanced t (Flow f) = with_counts t t.samples t.weights (t.flows + 1)
advanced t (PairWeight w) = with_counts t t.samples (t.weights + 1) t.flows

-- the end ends the job; after any other record there is another
abbrev pub continued : ParserState → Entry → Result (Option ParserState) (ℕ × ℕ)
continued t End = Ok None
continued t (Size w h) = Ok (Some (advanced t (Size w h)))
continued t (WeightBox weight low high) = Ok (Some (advanced t (WeightBox weight low high)))
continued t (RoundLimits q a) = Ok (Some (advanced t (RoundLimits q a)))
continued t (Sample s) = Ok (Some (advanced t (Sample s)))
continued t (Flow f) = Ok (Some (advanced t (Flow f)))
continued t (PairWeight w) = Ok (Some (advanced t (PairWeight w)))

-- what has been read, where none of these rows refuses it
abbrev pub unless_refused : List Row → ParserState → Result ParserState (ℕ × ℕ)
unless_refused rows t = decided (first_refusal rows) (Ok t) refused

-- the record's terms judged, at offset o
abbrev pub judged_entry : ParserState → Entry → ℕ → Lent → Result (Option ParserState) (ℕ × ℕ)
judged_entry t e o lent = decided (first_refusal (entry_rows o lent e)) (continued t e) refused

-- What a record leads to: a refusal with its place, none at the job's end, or what has been read now with the place of the
-- next record
abbrev pub Transition : Type 0
Transition = Result (Option (ParserState × Cursor)) (ℕ × ℕ)

-- the place of the next record beside what has been read
abbrev pub with_next : Cursor → Result (Option ParserState) (ℕ × ℕ) → Transition
with_next next (Err r) = Err r
with_next next (Ok None) = Ok None
with_next next (Ok (Some t)) = Ok (Some (t, next))

abbrev pub transition_on : Result (Entry × Cursor) (ℕ × ℕ) → ℕ → ParserState → Lent → Transition
transition_on (Err r) o t lent = Err r
transition_on (Ok (e, next)) o t lent = with_next next (judged_entry t e o lent)

-- the record at offset o
unfoldable pub transition_at : List ℕ → ℕ → ParserState → Lent → Transition
transition_at tape o t lent = transition_on (result_at lent.followed tape o t) o t lent
