-- The job tape: its records, reading and writing, on lists of bytes (docs/SPECIFICATION.md, sections 5 and 6).
use Rattle.std.specs.Prelude.{Bool, true, false, not, ◌&&◌, ◌||◌, cond, List, [], ◌∷◌, ◌++◌, ◌≡◌, ℕ, zero, suc, ◌+◌, ◌-◌, ◌*◌, ◌/◌, ◌%◌, ◌^◌, ◌≤◌, ◌<◌, eqb, leb, ltb, ℤ, pos, negsuc, nat_abs, length, get_or}
use Rattle.std.proofs.Math.IntN.{sub_ℕ}
pub use Rattle.model.specs.declared.Lent.{Lent}
pub use Rattle.model.specs.declared.Entry.{Entry}
pub use Rattle.model.specs.declared.Entry.TheVariants.{End, Size, WeightBox, RoundLimits, Sample, Flow, PairWeight}
use Rattle.lists.specs.Lists.{chain, overwritten, at}
use Rattle.model.specs.Grid.{Terms, weight_of}
use Rattle.model.specs.Verdict.{Verdict, Accept, Refuse, Row, row, first_refusal, left}
use Rattle.model.specs.Calls.{Rounds, pixels_of, pairs_of, all_or_none, size_row, weight_row, box_row, rounds_row, length_row, optional_row, pair_weights_row, flow_row}

-- ---- Numbers in bytes, lowest byte first (SPECIFICATION 5.2)

-- byte i of a number
abbrev pub byte_of : ℕ → ℕ → ℕ
byte_of n i = n / 256 ^ i % 256

abbrev pub two_bytes : ℕ → List ℕ
two_bytes n = byte_of n 0 ∷ byte_of n 1 ∷ []

abbrev pub from_two : ℕ → ℕ → ℕ
from_two b0 b1 = b0 + 256 * b1

-- a signed 32-bit number as its two's complement, and back
abbrev pub complement : ℤ → ℕ
complement (pos n) = n
complement (negsuc n) = 2 ^ 32 - suc n

abbrev pub four_bytes : ℤ → List ℕ
four_bytes z = byte_of (complement z) 0 ∷ byte_of (complement z) 1 ∷ byte_of (complement z) 2 ∷ byte_of (complement z) 3 ∷ []

abbrev pub signed : ℕ → ℤ
signed n = cond (ltb n (2 ^ 31)) (pos n) (sub_ℕ n (2 ^ 32))

abbrev pub from_four : ℕ → ℕ → ℕ → ℕ → ℤ
from_four b0 b1 b2 b3 = signed (b0 + 256 * (b1 + 256 * (b2 + 256 * b3)))

-- ---- Kinds of records (SPECIFICATION 5.1, 5.3)

-- How much has been read: how many of the records 1, 2, 3 (the header), of all `pixels` samples, and of all `pairs` pairs how
-- many weights and how many flow numbers
pub record Counts : Type 0 where
  pub header : ℕ
  pub samples : ℕ
  pub pixels : ℕ
  pub weights : ℕ
  pub flows : ℕ
  pub pairs : ℕ

-- the header and all samples; these and all pair weights or none
abbrev pub sampled : Counts → Bool
sampled c = eqb c.header 3 && eqb c.samples c.pixels

abbrev pub weighed : Counts → Bool
weighed c = sampled c && all_or_none c.weights c.pairs

-- What a kind fixes of its records: the length of the body; where they may come, by what has been read; and the record
-- (`Entry`, declared in src/lib.rt) with its numbers, from the bytes b 0, b 1, .. of the body
pub record Kind : Type 0 where
  pub body : ℕ
  pub comes : Counts → Bool
  pub entry : (ℕ → ℕ) → Entry

abbrev pub kind_row : ℕ → (Counts → Bool) → ((ℕ → ℕ) → Entry) → Kind
kind_row body comes entry = record { body = body; comes = comes; entry = entry }

-- Kinds 0 end, 1 size, 2 weight and box, 3 rounds, 4 one sample, 5 one flow number, 6 one pair's weight. Order: 1, 2, 3, all
-- samples, then all pair weights or none, then all flow numbers or none, then 0
unfoldable pub kinds : List Kind
kinds =
    kind_row 0 (λ c. weighed c && all_or_none c.flows c.pairs) (λ b. End)
    ∷ kind_row 4 (λ c. eqb c.header 0) (λ b. Size (from_two (b 0) (b 1)) (from_two (b 2) (b 3)))
    ∷ kind_row 4 (λ c. eqb c.header 1) (λ b. WeightBox (from_two (b 0) (b 1)) (b 2) (b 3))
    ∷ kind_row 4 (λ c. eqb c.header 2) (λ b. RoundLimits (from_two (b 0) (b 1)) (from_two (b 2) (b 3)))
    ∷ kind_row 1 (λ c. eqb c.header 3 && ltb c.samples c.pixels) (λ b. Sample (b 0))
    ∷ kind_row 4 (λ c. weighed c && ltb c.flows c.pairs) (λ b. Flow (from_four (b 0) (b 1) (b 2) (b 3)))
    ∷ kind_row 2 (λ c. sampled c && ltb c.weights c.pairs && eqb c.flows 0) (λ b. PairWeight (from_two (b 0) (b 1)))
    ∷ []

abbrev pub known : ℕ → Bool
known n = ltb n (length kinds)

-- what kind n fixes; a kind that is not known never comes
abbrev pub kind_at : ℕ → Kind
kind_at n = get_or kinds n (kind_row 0 (λ _. false) (λ _. End))

abbrev pub body_length : ℕ → ℕ
body_length n = (kind_at n).body

abbrev pub decoded : ℕ → (ℕ → ℕ) → Entry
decoded n = (kind_at n).entry

-- ---- What has been read

-- terms of this size alone, and terms with this weight and this box
abbrev pub sized : ℕ → ℕ → Terms
sized w h = record { width = w; height = h; weight = 0; low = 0; high = 0 }

abbrev pub with_box : Terms → ℕ → ℕ → ℕ → Terms
with_box t weight low high =
    record { width = t.width; height = t.height; weight = weight; low = low; high = high }

-- What has been read so far: how many of the records 1, 2, 3 (the header), their numbers, the samples, the pair weights, the
-- flow numbers
pub record Progress : Type 0 where
  pub header : ℕ
  pub terms : Terms
  pub rounds : Rounds
  pub samples : List ℕ
  pub weights : List ℤ
  pub flow : List ℤ

abbrev pub nothing : Progress
nothing =
    record {
      header = 0;
      terms = sized 0 0;
      rounds = record { quick = 0; allowance = 0 };
      samples = [];
      weights = [];
      flow = [];
    }

abbrev pub counts_of : Progress → Counts
counts_of p =
    record {
      header = p.header;
      samples = length p.samples;
      pixels = pixels_of p.terms;
      weights = length p.weights;
      flows = length p.flow;
      pairs = pairs_of p.terms;
    }

abbrev pub allowed : Progress → ℕ → Bool
allowed p n = (kind_at n).comes (counts_of p)

-- with this much of the header, with these numbers
abbrev pub with_header : Progress → ℕ → Terms → Rounds → Progress
with_header p header terms rounds =
    record {
      header = header;
      terms = terms;
      rounds = rounds;
      samples = p.samples;
      weights = p.weights;
      flow = p.flow;
    }

abbrev pub with_numbers : Progress → List ℕ → List ℤ → List ℤ → Progress
with_numbers p samples weights flow =
    record {
      header = p.header;
      terms = p.terms;
      rounds = p.rounds;
      samples = samples;
      weights = weights;
      flow = flow;
    }

-- what has been read once this record has been, too
abbrev pub absorbed : Progress → Entry → Progress
absorbed p End = p
absorbed p (Size w h) = with_header p 1 (sized w h) p.rounds
absorbed p (WeightBox weight low high) = with_header p 2 (with_box p.terms weight low high) p.rounds
absorbed p (RoundLimits q a) = with_header p 3 p.terms (record { quick = q; allowance = a })
absorbed p (Sample s) = with_numbers p (p.samples ++ (s ∷ [])) p.weights p.flow
absorbed p (Flow f) = with_numbers p p.samples p.weights (p.flow ++ (f ∷ []))
absorbed p (PairWeight w) = with_numbers p p.samples (p.weights ++ (pos w ∷ [])) p.flow

-- ---- Where reading turns back (SPECIFICATION 6.5)

-- The rows of a record of a known kind at offset o of `len` bytes, where `ok` tells whether it is allowed: 14 kind not allowed
-- here; 13 the input ends inside the record; 15 a byte after the end, unless more may follow it
abbrev pub body_rows : Bool → ℕ → ℕ → ℕ → Bool → List Row
body_rows followed len o kind ok =
    row (not ok) 14 o
    ∷ row (ltb len (o + 1 + body_length kind)) 13 o
    ∷ row (not followed && (eqb kind 0 && ltb (o + 1) len)) 15 (o + 1)
    ∷ []

-- Per record at offset o, where `may` tells which kinds are allowed: 18 the input ends where the record is due; 12 unknown
-- kind; then the rows of a known one
unfoldable pub record_rows : Bool → List ℕ → ℕ → (ℕ → Bool) → List Row
record_rows followed tape o may =
    let kind : ℕ = get_or tape o 0 in
    row (leb (length tape) o) 18 (length tape)
    ∷ row (not (known kind)) 12 o
    ∷ body_rows followed (length tape) o kind (may kind)

-- the numbers that say that the input ends too early
abbrev pub too_short : ℕ → Bool
too_short number = eqb number 13 || eqb number 18

-- Terms and a pair's weight are judged at their record, whose offset is the place; 16 right after 1, at place 0, for all
-- samples and, in the weight and in the flow buffer, all pairs
abbrev pub entry_rows : ℕ → Lent → Entry → List Row
entry_rows o lent End = []
entry_rows o lent (Size w h) =
    size_row (sized w h) o
    ∷ row
    (ltb lent.samples (pixels_of (sized w h))
    || ltb lent.weights (pairs_of (sized w h))
    || ltb lent.flow (pairs_of (sized w h)))
    16
    0
    ∷ []
entry_rows o lent (WeightBox weight low high) =
    weight_row weight o ∷ box_row (with_box (sized 0 0) weight low high) o ∷ []
entry_rows o lent (RoundLimits q a) = rounds_row (record { quick = q; allowance = a }) o ∷ []
entry_rows o lent (Sample s) = []
entry_rows o lent (Flow f) = []
entry_rows o lent (PairWeight w) = weight_row w o ∷ []

-- ---- Reading: the tape parsed (SPECIFICATION 5.5)

-- A refusal, or the whole job
pub data Parse : Type 0 where
  turned : ℕ → ℕ → Parse
  whole : Progress → Parse

abbrev pub unless : Verdict → Parse → Parse
unless Accept r = r
unless (Refuse number place) r = turned number place

-- Records from offset o on; every record takes a byte at least, so as many records as bytes are enough
unfoldable pub parse_from : ℕ → List ℕ → Lent → ℕ → Progress → Parse
parse_from zero tape lent o p = turned 18 (length tape)
parse_from (suc k) tape lent o p =
    let kind : ℕ = get_or tape o 0 in
    let entry : Entry = decoded kind (λ i. get_or tape (o + 1 + i) 0) in
    elim (first_refusal (record_rows lent.followed tape o (allowed p) ++ entry_rows o lent entry)) [
      | Refuse number place ↦ turned number place
      | Accept ↦
          elim (eqb kind 0) [
            | true ↦ whole p
            | false ↦ parse_from k tape lent (o + 1 + body_length kind) (absorbed p entry)
          ]
    ]

-- The first argument decides nothing: any number over that of the bytes left gives the same (proved: `parse-law`,
-- roundtrip/proofs/Turns.antt)
abbrev pub ParseLaw : Type 0
ParseLaw =
    (tape : List ℕ) (lent : Lent) (j k o : ℕ) (p : Progress) →
    o ≤ length tape → length tape < o + j → length tape < o + k → parse_from j tape lent o p ≡ parse_from k tape lent o p

-- 8 is judged only when the whole tape has passed, by each pair's own weight (SPECIFICATION 6.5)
abbrev pub judged : Parse → Parse
judged (turned number place) = turned number place
judged (whole p) = unless (first_refusal (flow_row (weight_of p.terms p.weights) p.flow ∷ [])) (whole p)

unfoldable pub parse : List ℕ → Lent → Parse
parse tape lent = judged (parse_from (suc (length tape)) tape lent 0 nothing)

-- What read gives: the job's terms and rounds, and whether weights and whether a flow were there (no, where there are no
-- pairs). Accepted: number and place are 0. Refused: zeros but for number and place (SPECIFICATION 4.3, 4.8)
pub record ReadAnswer : Type 0 where
  pub number : ℕ
  pub place : ℕ
  pub terms : Terms
  pub rounds : Rounds
  pub weighted : Bool
  pub flowed : Bool

abbrev pub read_of : Parse → ReadAnswer
read_of (turned number place) =
    record {
      number = number;
      place = place;
      terms = nothing.terms;
      rounds = nothing.rounds;
      weighted = false;
      flowed = false;
    }
read_of (whole p) =
    record {
      number = 0;
      place = 0;
      terms = p.terms;
      rounds = p.rounds;
      weighted = not (eqb (length p.weights) 0);
      flowed = not (eqb (length p.flow) 0);
    }

-- a buffer's front filled with what was read and its rest left, or its former values
abbrev pub samples_after : Parse → List ℕ → List ℕ
samples_after (turned number place) former = former
samples_after (whole p) former = overwritten p.samples former

abbrev pub weights_after : Parse → List ℤ → List ℤ
weights_after (turned number place) former = former
weights_after (whole p) former = overwritten p.weights former

abbrev pub flow_after : Parse → List ℤ → List ℤ
flow_after (turned number place) former = former
flow_after (whole p) former = overwritten p.flow former

-- what read is lent by these buffers; nothing may follow the end
abbrev pub lent_by : List ℕ → List ℤ → List ℤ → Lent
lent_by samples weights flow =
    record { samples = length samples; weights = length weights; flow = length flow; followed = false }

-- Read: its answer, the sample buffer, the weight buffer and the flow buffer (each untouched without its records)
-- (SPECIFICATION 4.8)
unfoldable pub read_answer : List ℕ → List ℕ → List ℤ → List ℤ → ReadAnswer
read_answer tape samples weights flow = read_of (parse tape (lent_by samples weights flow))

unfoldable pub read_samples : List ℕ → List ℕ → List ℤ → List ℤ → List ℕ
read_samples tape samples weights flow = samples_after (parse tape (lent_by samples weights flow)) samples

unfoldable pub read_weights : List ℕ → List ℕ → List ℤ → List ℤ → List ℤ
read_weights tape samples weights flow = weights_after (parse tape (lent_by samples weights flow)) weights

unfoldable pub read_flow : List ℕ → List ℕ → List ℤ → List ℤ → List ℤ
read_flow tape samples weights flow = flow_after (parse tape (lent_by samples weights flow)) flow

-- ---- Writing

abbrev pub encoded : Entry → List ℕ
encoded End = 0 ∷ []
encoded (Size w h) = 1 ∷ two_bytes w ++ two_bytes h
encoded (WeightBox weight low high) = 2 ∷ two_bytes weight ++ (low ∷ high ∷ [])
encoded (RoundLimits q a) = 3 ∷ two_bytes q ++ two_bytes a
encoded (Sample s) = 4 ∷ s ∷ []
encoded (Flow f) = 5 ∷ four_bytes f
encoded (PairWeight w) = 6 ∷ two_bytes w

-- The tape of a job; weights or a flow of length 0 are none (SPECIFICATION 5.4)
unfoldable pub tape_of : Terms → Rounds → List ℕ → List ℤ → List ℤ → List ℕ
tape_of t r samples weights numbers =
    encoded (Size t.width t.height)
    ++ encoded (WeightBox t.weight t.low t.high)
    ++ encoded (RoundLimits r.quick r.allowance)
    ++ chain (length samples) (λ i. encoded (Sample (get_or samples i 0)))
    ++ chain (length weights) (λ j. encoded (PairWeight (nat_abs (at weights j))))
    ++ chain (length numbers) (λ j. encoded (Flow (at numbers j)))
    ++ encoded End

-- Where write turns back, `room` being its output's length: 16 after the other lengths, then 2 of a pair, 8 last
-- (SPECIFICATION 6.4)
abbrev pub write_rows : Terms → Rounds → List ℕ → List ℤ → List ℤ → ℕ → List Row
write_rows t r samples weights numbers room =
    size_row t 0
    ∷ weight_row t.weight 0
    ∷ box_row t 0
    ∷ rounds_row r 0
    ∷ length_row 4 samples (pixels_of t)
    ∷ optional_row 5 numbers (pairs_of t)
    ∷ optional_row 19 weights (pairs_of t)
    ∷ row (ltb room (length (tape_of t r samples weights numbers))) 16 0
    ∷ pair_weights_row weights
    ∷ flow_row (weight_of t weights) numbers
    ∷ []

unfoldable pub write_verdict : Terms → Rounds → List ℕ → List ℤ → List ℤ → List ℕ → Verdict
write_verdict t r samples weights numbers output = first_refusal (write_rows t r samples weights numbers (length output))

-- What write gives: the byte count. Accepted: number and place are 0. Refused: zeros but for number and place
-- (SPECIFICATION 4.3, 4.9)
pub record WriteAnswer : Type 0 where
  pub number : ℕ
  pub place : ℕ
  pub count : ℕ

abbrev pub write_of : Verdict → ℕ → WriteAnswer
write_of Accept n = record { number = 0; place = 0; count = n }
write_of (Refuse number place) n = record { number = number; place = place; count = 0 }

unfoldable pub write_answer : Terms → Rounds → List ℕ → List ℤ → List ℤ → List ℕ → WriteAnswer
write_answer t r samples weights numbers output =
    write_of (write_verdict t r samples weights numbers output) (length (tape_of t r samples weights numbers))

unfoldable pub write_output : Terms → Rounds → List ℕ → List ℤ → List ℤ → List ℕ → List ℕ
write_output t r samples weights numbers output =
    left (write_verdict t r samples weights numbers output) (overwritten (tape_of t r samples weights numbers) output) output
