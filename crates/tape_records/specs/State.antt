-- What has been read so far, as the code counts it: the model's progress with a number for each list.
use Rattle.std.specs.Prelude.{Bool, ℕ, length}
use Rattle.model.specs.Calls.{pixels_of, pairs_of}
use Rattle.model.specs.Tape.{Counts, kind_at, Progress}
use Rattle.tape_records.specs.declared.state.ParserState.{ParserState}

abbrev pub state_of : Progress → ParserState
state_of p =
    record {
      header = p.header;
      terms = p.terms;
      rounds = p.rounds;
      pixels = pixels_of p.terms;
      pairs = pairs_of p.terms;
      samples = length p.samples;
      weights = length p.weights;
      flows = length p.flow;
    }

-- how much has been read
abbrev pub counts_in : ParserState → Counts
counts_in t =
    record {
      header = t.header;
      samples = t.samples;
      pixels = t.pixels;
      weights = t.weights;
      flows = t.flows;
      pairs = t.pairs;
    }

-- which kinds are allowed next
abbrev pub may : ParserState → ℕ → Bool
may t n = (kind_at n).comes (counts_in t)
