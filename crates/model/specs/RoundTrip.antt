-- The round trip, as the contracts of read and write cite it: given long enough buffers, a job written to tape reads back as
-- that job, and an accepted tape written again gives its own bytes (SPECIFICATION 8.9).
use Rattle.std.specs.Prelude.{Bool, not, cond, List, ◌≡◌, ℕ, ◌≤◌, eqb, ℤ, length}
use Rattle.model.specs.declared.Terms.{Terms}
use Rattle.model.specs.declared.Rounds.{Rounds}
use Rattle.lists.specs.Lists.{overwritten}
use Rattle.model.specs.Calls.{pixels_of, pairs_of}
use Rattle.model.specs.Tape.{ReadAnswer, read_answer, read_samples, read_weights, read_flow, write_answer, write_output}

-- What read gives and leaves for this job: accepted, its terms and rounds, whether weights and whether a flow were there, and
-- its samples, weights and flow at the fronts of the buffers s, w and f
pub record Reads (t : Terms) (r : Rounds) (samples : List ℕ) (weights numbers : List ℤ) (tape s : List ℕ) (w f : List ℤ) : Type 0 where
  pub answer :
      read_answer tape s w f
      ≡ record {
        number = 0;
        place = 0;
        terms = t;
        rounds = r;
        weighted = not (eqb (length weights) 0);
        flowed = not (eqb (length numbers) 0);
      }
  pub samples_left : read_samples tape s w f ≡ overwritten samples s
  pub weights_left : read_weights tape s w f ≡ overwritten weights w
  pub flow_left : read_flow tape s w f ≡ overwritten numbers f

-- The tape reads back as this job, into any buffers that are long enough
abbrev pub ReadsBack : Terms → Rounds → List ℕ → List ℤ → List ℤ → List ℕ → Type 0
ReadsBack t r samples weights numbers tape =
    (s : List ℕ) (w f : List ℤ) → pixels_of t ≤ length s → pairs_of t ≤ length w → pairs_of t ≤ length f →
    Reads t r samples weights numbers tape s w f

-- What write gives and leaves for a job whose tape this is: accepted, its length, and its bytes at the front of the output
pub record Writes (t : Terms) (r : Rounds) (samples : List ℕ) (weights numbers : List ℤ) (tape output : List ℕ) : Type 0 where
  pub answer : write_answer t r samples weights numbers output ≡ record { number = 0; place = 0; count = length tape }
  pub output_left : write_output t r samples weights numbers output ≡ overwritten tape output

-- The job, written again, gives the tape's own bytes, in any output that is long enough
abbrev pub WritesBack : Terms → Rounds → List ℕ → List ℤ → List ℤ → List ℕ → Type 0
WritesBack t r samples weights numbers tape =
    (output : List ℕ) → length tape ≤ length output → Writes t r samples weights numbers tape output

-- how many weights and how many flow numbers read left: all pairs' where they were there, else none
abbrev pub all_of : Bool → ℕ → ℕ
all_of there pairs = cond there pairs 0

abbrev pub weight_count : ReadAnswer → ℕ
weight_count a = all_of a.weighted (pairs_of a.terms)

abbrev pub flow_count : ReadAnswer → ℕ
flow_count a = all_of a.flowed (pairs_of a.terms)
