-- Writing and reading undo each other. Assumes nothing.
use mathlib.Core.Path.{◌≡◌, refl, sym, ap, ap₂, ◌∙◌, subst}
use mathlib.Core.Bool.{Bool, true, false, not, ◌&&◌, ◌||◌, cond}
use mathlib.Core.Logic.{◌↔◌, ◌⊎◌, ⊎_elim}
use mathlib.Core.List.{List, [], ◌∷◌, ◌++◌}
use Prim.Native.Nat.{ℕ, suc, ◌+◌, ◌*◌, ◌^◌, ◌≤◌, ◌<◌}
use native.Mathlib.Omega.{arith}
use lib.Dec.{eqb, ltb}
use lib.IntN.{ℤ, pos, negsuc, nat_abs}
use lib.ListN.{length, get_or, take, drop}
use lib.Seq.{length-take-le, take-append_seam}
use mir.Syntax.{w32}
use mir.Val.{SFits}
use borrow.Author.Tests.{lt-ltb, le-ltb, ltb-false, eq-eqb, eqb-true, eqb-false}
use Rattle.integers.proofs.Order.{pos-nat_abs-nonneg}
use Rattle.integers.proofs.Absolute.{nat_abs-upto}
use Rattle.model.specs.declared.Terms.{Terms}
use Rattle.model.specs.declared.Rounds.{Rounds}
use Rattle.model.specs.declared.Entry.TheVariants.{End, Size, WeightBox, RoundLimits, Sample, Flow, PairWeight}
use Rattle.lists.specs.Lists.{at, overwritten}
use Rattle.lists.proofs.Placed.{take-overwritten}
use Rattle.model.specs.Grid.{limit, weight_of}
use Rattle.model.specs.Calls.{pixels_of, pairs_of, all_or_none, first_beyond}
use Rattle.model.specs.Tape.{Progress, nothing, kinds, Parse, whole, parse_from, ReadAnswer, read_answer, read_samples, read_weights, read_flow, tape_of, WriteAnswer, write_answer, write_output, lent_by}
use Rattle.model.proofs.Refusals.{accepted, passed}
use Rattle.model.specs.Accepted.{JobAllowed, ReadAllowed}
use Rattle.model.proofs.Accepted.{all_or_none_lem, terms-pass, rounds-pass, weight-passes, flow-passes, write_accepted}
use Rattle.model.proofs.Weights.{weight_most}
use Rattle.model.specs.declared.Lent.{Lent}
use Rattle.model.specs.RoundTrip.{Reads, ReadsBack, WritesBack, weight_count, flow_count}
use Rattle.roundtrip.proofs.Offsets.{tape_length, sample_here, weight-here, flow-here, end_here, header-here}
use Rattle.roundtrip.proofs.WriteRows.{accepted-answer, written_answer, written-output}
use Rattle.roundtrip.proofs.Accepted.{Job, accepted-job}
use Rattle.roundtrip.proofs.Judged.{accepted-parse, passed_parse, whole-parse, answer-by, samples-by, weights-by, flow-by}
use Rattle.roundtrip.proofs.Walk.{walk_on, walk_end, Passes, walk_section}

small_fits : (z : ℤ) → nat_abs z < 2 ^ 31 → SFits w32 z
small_fits (pos n) h = record { sfits = h }
small_fits (negsuc n) h = record { sfits = omega arith }

-- ---- a job that write accepts reads back as that job

module _ (t : Terms) (r : Rounds) (s : List ℕ) (w f : List ℤ) (job : JobAllowed t r s w f) (small : r.allowance < 65536)
    (lent : Lent) (long : (pixels_of t ≤ lent.samples) × (pairs_of t ≤ lent.weights) × (pairs_of t ≤ lent.flow)) where
  abbrev tape : List ℕ
  tape = tape_of t r s w f

  -- what has been read after the header, some samples, some weights and some flow numbers
  abbrev after : List ℕ → List ℤ → List ℤ → Progress
  after codes own numbers = record { header = 3; terms = t; rounds = r; samples = codes; weights = own; flow = numbers }

  abbrev from : ℕ → ℕ → Progress → Parse
  from k o p = parse_from k tape lent o p

  header_read : (k : ℕ) → from (suc (suc (suc k))) 0 nothing ≡ from k 15 (after [] [] [])
  unfolding kinds
  header_read k =
      let here = header-here t r s w f in
      let terms = (terms-pass t 0).1 job.terms in
      let hold = ap₂ ◌||◌ (ap₂ ◌||◌ (le-ltb _ _ long.0) (le-ltb _ _ long.1)) (le-ltb _ _ long.2) in
      walk_on tape lent (suc (suc k)) 0 nothing (Size t.width t.height) _ here.0 refl
      (passed _ _ terms.0 ∙ passed _ _ hold ∙ accepted)
      (omega (arith, job.terms.width_most), omega (arith, job.terms.height_most)) (λ z. absurd (omega arith))
      ∙ walk_on tape lent (suc k) 5 _ (WeightBox t.weight t.low t.high) _ here.1 refl
      (passed _ _ terms.1 ∙ passed _ _ terms.2 ∙ accepted)
      (omega (arith, job.terms.weight_most)) (λ z. absurd (omega arith))
      ∙ walk_on tape lent k 10 _ (RoundLimits r.quick r.allowance) _ here.2 refl
      (passed _ _ ((rounds-pass r 0).1 job.quick_most) ∙ accepted)
      (omega (arith, job.quick_most), small) (λ z. absurd (omega arith))

  sample_passes : (i : ℕ) → i < length s →
      Passes tape lent Sample 2 (λ codes. after codes [] []) (15 + i * 2) (take i s) (get_or s i 0)
  unfolding kinds
  sample_passes i l =
      record {
        here = sample_here t r s w f i l;
        may = lt-ltb (length (take i s)) (pixels_of t) (omega (arith, job.samples_length, length-take-le i s (omega arith)));
        accepts = accepted;
        ranged = tt;
        inner = λ z. absurd (omega arith);
        sized = refl;
        grows = refl;
      }

  all_sampled : (eqb (length s) (pixels_of t)) ≡ true
  all_sampled = eq-eqb (length s) (pixels_of t) job.samples_length

  -- of what comes for all pairs or for none, and is there: it is not there for all pairs yet
  less_read : (ns : List ℤ) (j : ℕ) → j < length ns → (length ns ≡ 0) ⊎ (length ns ≡ pairs_of t) →
      ltb (length (take j ns)) (pairs_of t) ≡ true
  less_read ns j l =
      let n : length (take j ns) ≡ j = length-take-le j ns (omega arith) in
      ⊎_elim (λ (z : length ns ≡ 0). absurd (omega arith))
      (λ (g : length ns ≡ pairs_of t). lt-ltb (length (take j ns)) (pairs_of t) (omega arith))

  own-passes : (j : ℕ) → j < length w →
      Passes tape lent (λ z. PairWeight (nat_abs z)) 3 (λ own. after s own []) (15 + length s * 2 + j * 3) (take j w) (at w j)
  unfolding kinds
  own-passes j l =
      let range = job.pair_weights.range j l in
      let most : nat_abs (at w j) ≤ limit.weight = nat_abs-upto range.0 range.1 in
      record {
        here = weight-here t r s w f j l;
        may = ap₂ ◌&&◌ (ap₂ ◌&&◌ all_sampled (less_read w j l job.pair_weights.count)) refl;
        accepts = passed _ _ ((weight-passes (nat_abs (at w j)) 0).1 most) ∙ accepted;
        ranged = omega arith;
        inner = λ z. absurd (omega arith);
        sized = refl;
        grows = ap (λ (z : ℤ). after s (take j w ++ (z ∷ [])) []) (pos-nat_abs-nonneg range.0);
      }

  all_weighed : all_or_none (length w) (pairs_of t) ≡ true
  all_weighed = (all_or_none_lem (length w) (pairs_of t)).1 job.pair_weights.count

  number-passes : (j : ℕ) → j < length f →
      Passes tape lent Flow 5 (after s w) (15 + length s * 2 + length w * 3 + j * 5) (take j f) (at f j)
  unfolding kinds
  number-passes j l =
      record {
        here = flow-here t r s w f j l;
        may = ap₂ ◌&&◌ (ap₂ ◌&&◌ all_sampled all_weighed) (less_read f j l job.flow_length);
        accepts = accepted;
        ranged =
            small_fits (at f j)
            (omega (arith, job.contents j l, weight_most t w job.pair_weights job.terms.weight_most j));
        inner = λ z. absurd (omega arith);
        sized = refl;
        grows = refl;
      }

  end_read : (k : ℕ) → from (suc k) (15 + length s * 2 + length w * 3 + length f * 5) (after s w f) ≡ whole (after s w f)
  unfolding kinds
  end_read k =
      walk_end tape lent k (15 + length s * 2 + length w * 3 + length f * 5) (after s w f) End [] (end_here t r s w f)
      (ap₂ ◌&&◌ (ap₂ ◌&&◌ all_sampled all_weighed) ((all_or_none_lem (length f) (pairs_of t)).1 job.flow_length)) accepted tt refl refl

  pub reads_back : parse_from (suc (length tape)) tape lent 0 nothing ≡ whole (after s w f)
  reads_back =
      let spare : ℕ = 13 + length s + 2 * length w + 4 * length f in
      let fuel : suc (length tape) ≡ suc (suc (suc (length s + (length w + (length f + suc spare))))) =
      omega (arith, tape_length t r s w f) in
      ap (λ (n : ℕ). from n 0 nothing) fuel
      ∙ header_read (length s + (length w + (length f + suc spare)))
      ∙ walk_section tape lent _ 2 _ s 0 15 sample_passes (length w + (length f + suc spare))
      ∙ walk_section tape lent _ 3 _ w (pos 0) (15 + length s * 2) own-passes (length f + suc spare)
      ∙ walk_section tape lent _ 5 _ f (pos 0) (15 + length s * 2 + length w * 3) number-passes (suc spare)
      ∙ end_read spare

-- no number is beyond its pair's weight
within_first : {t : Terms} {r : Rounds} {s : List ℕ} {w f : List ℤ} → JobAllowed t r s w f → length f ≤ first_beyond (weight_of t w) f
within_first {t} {w} {f} job = ltb-false (first_beyond (weight_of t w) f) (length f) ((flow-passes (weight_of t w) f).1 job.contents)

-- A job that write accepts reads back from what write leaves. (The allowance is a number of 16 bits by its type.)
pub written_reads_back : (t : Terms) (r : Rounds) (s : List ℕ) (w f : List ℤ) (output : List ℕ) → r.allowance < 65536 →
    (write_answer t r s w f output).number ≡ 0 →
    ReadsBack t r s w f (take (write_answer t r s w f output).count (write_output t r s w f output))
written_reads_back t r s w f output small answer samples weights flow long heavy broad =
    let v = accepted-answer t r s w f output answer in
    let job = ((write_accepted t r s w f output).0 v).job in
    let count = ap (λ (a : WriteAnswer). a.count) (written_answer t r s w f output v) in
    let own : List ℕ = tape_of t r s w f in
    let same : own ≡ take (write_answer t r s w f output).count (write_output t r s w f output) =
    sym (ap₂ take count (written-output t r s w f output v) ∙ take-append_seam own (drop (length own) output)) in
    let lent : Lent = lent_by samples weights flow in
    let p : Progress = record { header = 3; terms = t; rounds = r; samples = s; weights = w; flow = f } in
    let back = reads_back t r s w f job small lent (long, heavy, broad) in
    let read = whole-parse own samples weights flow p back (within_first job) in
    subst (λ (tape : List ℕ). Reads t r s w f tape samples weights flow) same
    (record {
      answer = answer-by own samples weights flow read;
      samples_left = samples-by own samples weights flow read;
      weights_left = weights-by own samples weights flow read;
      flow_left = flow-by own samples weights flow read;
    })

-- the same of what a call gave and left
pub left_reads_back : (t : Terms) (r : Rounds) (s : List ℕ) (w f : List ℤ) (output : List ℕ) {left : List ℕ} {a : WriteAnswer} →
    r.allowance < 65536 → a ≡ write_answer t r s w f output → left ≡ write_output t r s w f output → a.number ≡ 0 →
    ReadsBack t r s w f (take a.count left)
left_reads_back t r s w f output small e h z =
    subst (λ (tape : List ℕ). ReadsBack t r s w f tape) (sym (ap₂ take (ap (λ (a : WriteAnswer). a.count) e) h))
    (written_reads_back t r s w f output small (sym (ap (λ (a : WriteAnswer). a.number) e) ∙ z))

-- ---- an accepted tape, read and written again, gives its own bytes

-- how many there are of what comes for every pair or for none
pub counted : (n pairs : ℕ) → (n ≡ 0) ⊎ (n ≡ pairs) → cond (not (eqb n 0)) pairs 0 ≡ n
counted n pairs = go (eqb n 0) refl
  where
    go : (b : Bool) → eqb n 0 ≡ b → (n ≡ 0) ⊎ (n ≡ pairs) → cond (not b) pairs 0 ≡ n
    go true e c = sym (eqb-true n 0 e)
    go false e c = ⊎_elim (λ (z : n ≡ 0). absurd (eqb-false n 0 e z)) (λ (g : n ≡ pairs). sym g) c

module _ (tape : List ℕ) (byte : (i : ℕ) → get_or tape i 0 < 256) (lent : Lent) (p : Progress) (j : Job tape lent byte p)
    (within : length p.flow ≤ first_beyond (weight_of p.terms p.weights) p.flow) where
  -- the job is allowed
  pub job-allowed : JobAllowed p.terms p.rounds p.samples p.weights p.flow
  job-allowed =
      let weight = j.sound.weight (omega (arith, j.complete)) in
      record {
        terms = (terms-pass p.terms 0).0 (ap not (j.sound.size (omega (arith, j.complete))).0, ap not weight.0, ap not weight.1);
        pair_weights = record { count = j.weights; range = j.sound.pair_weights };
        quick_most = (rounds-pass p.rounds 0).0 (j.sound.rounds (omega (arith, j.complete)));
        samples_length = j.samples;
        flow_length = j.flow;
        contents = (flow-passes (weight_of p.terms p.weights) p.flow).0 (le-ltb _ (length p.flow) within);
      }

  pub rewritten : WritesBack p.terms p.rounds p.samples p.weights p.flow tape
  rewritten output l =
      let long : length (tape_of p.terms p.rounds p.samples p.weights p.flow) ≤ length output =
      omega (arith, ap length j.bytes) in
      let v =
      (write_accepted p.terms p.rounds p.samples p.weights p.flow output).1
      (record { job = job-allowed; output_length = long }) in
      record {
        answer = written_answer p.terms p.rounds p.samples p.weights p.flow output v
            ∙ ap (λ (bytes : List ℕ). record { number = 0; place = 0; count = length bytes }) (sym j.bytes);
        output_left = written-output p.terms p.rounds p.samples p.weights p.flow output v
            ∙ ap (λ (bytes : List ℕ). overwritten bytes output) (sym j.bytes);
      }

-- what stands at the front of a buffer that an answer and a reading left
front : {A : Type 0} (count : ReadAnswer → ℕ) (xs buffer : List A) {a b : ReadAnswer} {l : List A} → a ≡ b →
    l ≡ overwritten xs buffer → length xs ≡ count b → take (count a) l ≡ xs
front {A} count xs buffer x y n =
    ap₂ (λ (a : ReadAnswer) (l : List A). take (count a) l) x y ∙ take-overwritten buffer xs n

-- A tape of bytes that read accepts is given back by write, for the terms, the samples, the weights and the flow that a call
-- gave and left
pub left_writes_back : (tape samples : List ℕ) (weights flow : List ℤ) {codes : List ℕ} {own numbers : List ℤ} {a : ReadAnswer} →
    ((i : ℕ) → get_or tape i 0 < 256) →
    a ≡ read_answer tape samples weights flow → codes ≡ read_samples tape samples weights flow →
    own ≡ read_weights tape samples weights flow → numbers ≡ read_flow tape samples weights flow → a.number ≡ 0 →
    WritesBack a.terms a.rounds (take (pixels_of a.terms) codes) (take (weight_count a) own) (take (flow_count a) numbers)
    tape
left_writes_back tape samples weights flow byte e h o k z =
    let (p, read) = accepted-parse tape samples weights flow (sym (ap (λ (a : ReadAnswer). a.number) e) ∙ z) in
    let (all_read, within) = passed_parse tape samples weights flow p read in
    let lent : Lent = lent_by samples weights flow in
    let j : Job tape lent byte p = accepted-job tape lent byte refl p all_read in
    let answer = e ∙ answer-by tape samples weights flow read in
    same answer
    (front (λ b. pixels_of b.terms) p.samples samples answer (h ∙ samples-by tape samples weights flow read) j.samples)
    (front weight_count p.weights weights answer (o ∙ weights-by tape samples weights flow read) (sym (counted _ _ j.weights)))
    (front flow_count p.flow flow answer (k ∙ flow-by tape samples weights flow read) (sym (counted _ _ j.flow)))
    (rewritten tape byte lent p j within)
  where
    same : {a b : ReadAnswer} {s u : List ℕ} {v w f n : List ℤ} → b ≡ a → u ≡ s → w ≡ v → n ≡ f →
        WritesBack a.terms a.rounds s v f tape → WritesBack b.terms b.rounds u w n tape
    same x y y' z =
        subst (λ (h : Type 0). h) (λ i. WritesBack (sym x i).terms (sym x i).rounds (sym y i) (sym y' i) (sym z i) tape)

-- ---- read accepts exactly the tapes of allowed jobs, into buffers that hold them

pub read_number : (tape : List ℕ) → ((i : ℕ) → get_or tape i 0 < 256) → (samples : List ℕ) (weights flow : List ℤ) →
    ((read_answer tape samples weights flow).number ≡ 0) ↔ ReadAllowed tape samples weights flow
read_number tape byte samples weights flow = (allowed, taken)
  where
    lent : Lent
    lent = lent_by samples weights flow

    allowed : (read_answer tape samples weights flow).number ≡ 0 → ReadAllowed tape samples weights flow
    allowed z =
        let (p, e) = accepted-parse tape samples weights flow z in
        let (all_read, within) = passed_parse tape samples weights flow p e in
        let j : Job tape lent byte p = accepted-job tape lent byte refl p all_read in
        let size = j.sound.size (omega (arith, j.complete)) in
        record {
          terms = p.terms;
          rounds = p.rounds;
          codes = p.samples;
          own = p.weights;
          numbers = p.flow;
          bytes = j.bytes;
          job = job-allowed tape byte lent p j within;
          allowance_most = omega (arith, j.sound.allowance);
          samples_length = size.1;
          weights_length = size.2;
          flow_length = size.3;
        }

    taken : ReadAllowed tape samples weights flow → (read_answer tape samples weights flow).number ≡ 0
    taken k =
        let t : Terms = k.terms in
        let p : Progress =
        record { header = 3; terms = t; rounds = k.rounds; samples = k.codes; weights = k.own; flow = k.numbers } in
        let own : List ℕ = tape_of t k.rounds k.codes k.own k.numbers in
        let back =
        reads_back t k.rounds k.codes k.own k.numbers k.job (omega (arith, k.allowance_most)) lent
        (k.samples_length, k.weights_length, k.flow_length) in
        let read = whole-parse own samples weights flow p back (within_first k.job) in
        subst (λ (bytes : List ℕ). (read_answer bytes samples weights flow).number ≡ 0) (sym k.bytes)
        (ap (λ (a : ReadAnswer). a.number) (answer-by own samples weights flow read))
