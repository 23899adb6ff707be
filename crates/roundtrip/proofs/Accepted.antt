-- An accepted tape is the bytes of the job that was read. Assumes nothing.
use mathlib.Core.Path.{◌≡◌, refl, sym, ap, ap₂, ◌∙◌, subst}
use mathlib.Core.Bool.{Bool, true, false, ◌&&◌}
use mathlib.Core.List.{List, [], ◌++◌}
use mathlib.Core.Logic.{◌⊎◌}
use Prim.Native.Nat.{ℕ, zero, suc, ◌+◌, ◌≤◌, ◌<◌, zero-le}
use native.Mathlib.Omega.{arith}
use lib.Dec.{eqb, ltb}
use lib.IntN.{ℤ, pos, nat_abs}
use lib.ListN.{length, get_or, take}
use lib.Seq.{take_all}
use lib.Signed.{◌≤ℤ◌}
use mir.Syntax.{w32}
use mir.Val.{SFits}
use borrow.Author.Tests.{eqb-true, ltb-true, ltb-false, not-false}
use Rattle.integers.proofs.Order.{0≤pos, ≤→pos}
use Rattle.model.specs.declared.Terms.{Terms}
use Rattle.model.specs.declared.Rounds.{Rounds}
use Rattle.model.specs.declared.Entry.{Entry}
use Rattle.model.specs.declared.Entry.TheVariants.{End, Size, WeightBox, RoundLimits, Sample, Flow, PairWeight}
use Rattle.lists.specs.Lists.{chain}
use Rattle.model.specs.Grid.{limit, size_allowed, weight_allowed, box_allowed}
use Rattle.model.specs.Verdict.{Verdict, Accept, first_refusal}
use Rattle.model.specs.Calls.{pixels_of, pairs_of}
use Rattle.model.specs.Tape.{known, decoded, encoded, Progress, nothing, kinds, allowed, absorbed, with_numbers, entry_rows, Parse, whole, parse_from, tape_of}
use Rattle.model.proofs.Refusals.{accepted-row}
use Rattle.model.proofs.Limits.{both_true}
use Rattle.model.proofs.Accepted.{all_or_none_lem, neither, weight-passes}
use Rattle.model.specs.declared.Lent.{Lent}
use Rattle.roundtrip.proofs.Digits.{four_fits}
use Rattle.lists.proofs.Tables.{length_none}
use Rattle.lists.proofs.Chains.{listed, listed_more, listed_none, Each, each_none, each_more}
use Rattle.roundtrip.proofs.Turns.{entry_at, next_at, terms_verdict, Passed, Turn, turn}
use Rattle.roundtrip.proofs.EachKind.{each_kind}
use Rattle.roundtrip.proofs.Entries.{take_next}

-- ---- the bytes of what has been read

abbrev up_to_size : Terms → List ℕ
up_to_size t = encoded (Size t.width t.height)

abbrev up_to_weight : Terms → List ℕ
up_to_weight t = up_to_size t ++ encoded (WeightBox t.weight t.low t.high)

abbrev up_to_rounds : Terms → Rounds → List ℕ
up_to_rounds t r = up_to_weight t ++ encoded (RoundLimits r.quick r.allowance)

header_bytes : ℕ → Terms → Rounds → List ℕ
header_bytes zero t r = []
header_bytes (suc zero) t r = up_to_size t
header_bytes (suc (suc zero)) t r = up_to_weight t
header_bytes (suc (suc (suc n))) t r = up_to_rounds t r

-- the records of an element, and of all
abbrev sample_record : ℕ → List ℕ
sample_record s = encoded (Sample s)

abbrev weight_record : ℤ → List ℕ
weight_record w = encoded (PairWeight (nat_abs w))

abbrev flow_record : ℤ → List ℕ
flow_record f = encoded (Flow f)

abbrev sample_bytes : List ℕ → List ℕ
sample_bytes = listed sample_record 0

abbrev weight_bytes : List ℤ → List ℕ
weight_bytes = listed weight_record (pos 0)

abbrev flow_bytes : List ℤ → List ℕ
flow_bytes = listed flow_record (pos 0)

module _ (p : Progress) where
  abbrev up_to_header : List ℕ
  up_to_header = header_bytes p.header p.terms p.rounds

  abbrev up_to_samples : List ℕ
  up_to_samples = up_to_header ++ sample_bytes p.samples

  abbrev up_to_weights : List ℕ
  up_to_weights = up_to_samples ++ weight_bytes p.weights

  so_far : List ℕ
  so_far = up_to_weights ++ flow_bytes p.flow

  -- what comes later adds nothing where it is not there
  no_flow : p.flow ≡ [] → so_far ≡ up_to_weights
  unfolding so_far
  no_flow f = listed_none flow_record (pos 0) up_to_weights f

  no_weights : (p.weights ≡ []) × (p.flow ≡ []) → so_far ≡ up_to_samples
  no_weights e = no_flow e.1 ∙ listed_none weight_record (pos 0) up_to_samples e.0

  no_samples : (p.samples ≡ []) × (p.weights ≡ []) × (p.flow ≡ []) → so_far ≡ up_to_header
  no_samples e = no_weights (e.1, e.2) ∙ listed_none sample_record 0 up_to_header e.0

-- ---- what the order asks of a record behind the samples

-- the whole header, all samples, and a test of the weights and one of the flow
record Behind (p : Progress) (v w : Bool) : Type 0 where
  pub header : p.header ≡ 3
  pub samples : length p.samples ≡ pixels_of p.terms
  pub weights : v ≡ true
  pub flow : w ≡ true

behind : (p : Progress) (v w : Bool) →
    (eqb p.header 3 && eqb (length p.samples) (pixels_of p.terms) && v && w) ≡ true → Behind p v w
behind p v w h =
    let a = both_true (eqb p.header 3 && eqb (length p.samples) (pixels_of p.terms) && v) w h in
    let b = both_true (eqb p.header 3 && eqb (length p.samples) (pixels_of p.terms)) v a.0 in
    let c = both_true (eqb p.header 3) _ b.0 in
    record { header = eqb-true _ 3 c.0; samples = eqb-true _ _ c.1; weights = b.1; flow = a.1 }

-- ---- what holds of what has been read

abbrev WeightLimits : ℤ → Type 0
WeightLimits w = (pos 0 ≤ℤ w) × (w ≤ℤ pos limit.weight)

pub record Sound (lent : Lent) (p : Progress) : Type 0 where
  pub header : p.header ≤ 3
  pub early : p.header < 3 → (p.samples ≡ []) × (p.weights ≡ []) × (p.flow ≡ [])
  pub samples_first : length p.samples < pixels_of p.terms → (p.weights ≡ []) × (p.flow ≡ [])
  pub size : 1 ≤ p.header →
      (size_allowed p.terms.width p.terms.height ≡ true)
      × (pixels_of p.terms ≤ lent.samples)
      × (pairs_of p.terms ≤ lent.weights)
      × (pairs_of p.terms ≤ lent.flow)
  pub weight : 2 ≤ p.header → (weight_allowed p.terms.weight ≡ true) × (box_allowed p.terms.low p.terms.high ≡ true)
  pub rounds : 3 ≤ p.header → ltb 4096 p.rounds.quick ≡ false
  pub allowance : p.rounds.allowance < 65536
  pub pair_weights : Each WeightLimits (pos 0) p.weights
  pub ranged : Each (SFits w32) (pos 0) p.flow

module _ (lent : Lent) (p : Progress) (s : Sound lent p) (o : ℕ) where
  abbrev Grown : Entry → Type 0
  Grown e = Sound lent (absorbed p e) × (so_far (absorbed p e) ≡ so_far p ++ encoded e)

  -- the bytes grow by those of a record, where they do without what comes later
  grows : (e : Entry) {b c : List ℕ} → so_far (absorbed p e) ≡ b → so_far p ≡ c → b ≡ c ++ encoded e →
      so_far (absorbed p e) ≡ so_far p ++ encoded e
  grows e f g h = f ∙ h ∙ sym (ap (λ (l : List ℕ). l ++ encoded e) g)

  -- before a record of the header there are no others
  header-bytes : {h : ℕ} → (p.samples ≡ []) × (p.weights ≡ []) × (p.flow ≡ []) → p.header ≡ h →
      so_far p ≡ header_bytes h p.terms p.rounds
  header-bytes empty is = no_samples p empty ∙ ap (λ (n : ℕ). header_bytes n p.terms p.rounds) is

  grown-size : (w h : ℕ) → p.header ≡ 0 → first_refusal (entry_rows o lent (Size w h)) ≡ Accept → Grown (Size w h)
  unfolding header_bytes
  grown-size w h z v =
      let empty = s.early (omega arith) in
      let a = accepted-row _ _ v in
      let b = (neither _ _).0 (accepted-row _ _ a.1).0 in
      let c = (neither _ _).0 b.0 in (
        record {
          header = omega arith;
          early = λ _. empty;
          samples_first = λ _. (empty.1, empty.2);
          size = λ _. (
            not-false _ a.0,
            ltb-false lent.samples _ c.0,
            ltb-false lent.weights _ c.1,
            ltb-false lent.flow _ b.1,
          );
          weight = λ l. absurd (omega arith);
          rounds = λ l. absurd (omega arith);
          allowance = s.allowance;
          pair_weights = s.pair_weights;
          ranged = s.ranged;
        },
        grows (Size w h) (no_samples (absorbed p (Size w h)) empty) (header-bytes empty z) refl,
      )

  grown-weight : (weight low high : ℕ) → p.header ≡ 1 → first_refusal (entry_rows o lent (WeightBox weight low high)) ≡ Accept →
      Grown (WeightBox weight low high)
  unfolding header_bytes
  grown-weight weight low high z v =
      let empty = s.early (omega arith) in
      let a = accepted-row _ _ v in
      let b = accepted-row _ _ a.1 in (
        record {
          header = omega arith;
          early = λ _. empty;
          samples_first = λ _. (empty.1, empty.2);
          size = λ _. s.size (omega arith);
          weight = λ _. (not-false _ a.0, not-false _ b.0);
          rounds = λ l. absurd (omega arith);
          allowance = s.allowance;
          pair_weights = s.pair_weights;
          ranged = s.ranged;
        },
        grows (WeightBox weight low high) (no_samples (absorbed p (WeightBox weight low high)) empty) (header-bytes empty z) refl,
      )

  grown-rounds : (q a : ℕ) → p.header ≡ 2 → first_refusal (entry_rows o lent (RoundLimits q a)) ≡ Accept → a < 65536 →
      Grown (RoundLimits q a)
  unfolding header_bytes
  grown-rounds q a z v small =
      let empty = s.early (omega arith) in (
        record {
          header = omega arith;
          early = λ l. absurd (omega arith);
          samples_first = λ _. (empty.1, empty.2);
          size = λ _. s.size (omega arith);
          weight = λ _. s.weight (omega arith);
          rounds = λ _. (accepted-row _ _ v).0;
          allowance = small;
          pair_weights = s.pair_weights;
          ranged = s.ranged;
        },
        grows (RoundLimits q a) (no_samples (absorbed p (RoundLimits q a)) empty) (header-bytes empty z) refl,
      )

  -- behind the header: terms and rounds stay as they were
  sound_numbers : (samples : List ℕ) (weights flow : List ℤ) → p.header ≡ 3 →
      (length samples < pixels_of p.terms → (weights ≡ []) × (flow ≡ [])) →
      Each WeightLimits (pos 0) weights → Each (SFits w32) (pos 0) flow → Sound lent (with_numbers p samples weights flow)
  sound_numbers samples weights flow z first limits ranged =
      record {
        header = s.header;
        early = λ m. absurd (omega arith);
        samples_first = first;
        size = s.size;
        weight = s.weight;
        rounds = s.rounds;
        allowance = s.allowance;
        pair_weights = limits;
        ranged = ranged;
      }

  grown-sample : (code : ℕ) → p.header ≡ 3 → length p.samples < pixels_of p.terms → Grown (Sample code)
  grown-sample code z l =
      let none = s.samples_first l in (
        sound_numbers _ _ _ z (λ _. none) s.pair_weights s.ranged,
        grows (Sample code) (no_weights (absorbed p (Sample code)) none) (no_weights p none)
            (listed_more sample_record 0 (up_to_header p) p.samples code),
      )

  grown-pair-weight : (w : ℕ) → p.header ≡ 3 → length p.samples ≡ pixels_of p.terms → length p.flow ≡ 0 →
      first_refusal (entry_rows o lent (PairWeight w)) ≡ Accept → Grown (PairWeight w)
  grown-pair-weight w z full none v =
      let empty = length_none p.flow none in
      let limits : WeightLimits (pos w) = (0≤pos w, ≤→pos ((weight-passes w o).0 (accepted-row _ _ v).0)) in (
        sound_numbers _ _ _ z (λ m. absurd (omega arith))
            (each_more WeightLimits (pos 0) p.weights (pos w) s.pair_weights limits) s.ranged,
        grows (PairWeight w) (no_flow (absorbed p (PairWeight w)) empty) (no_flow p empty)
            (listed_more weight_record (pos 0) (up_to_samples p) p.weights (pos w)),
      )

  grown-flow : (f : ℤ) → p.header ≡ 3 → length p.samples ≡ pixels_of p.terms → SFits w32 f → Grown (Flow f)
  unfolding so_far
  grown-flow f z full fits = (
    sound_numbers _ _ _ z (λ m. absurd (omega arith)) s.pair_weights (each_more (SFits w32) (pos 0) p.flow f s.ranged fits),
    listed_more flow_record (pos 0) (up_to_weights p) p.flow f,
  )

  -- any record that is allowed
  grown : (kind : ℕ) (b : ℕ → ℕ) → known kind ≡ true → allowed p kind ≡ true → ¬ (kind ≡ 0) →
      first_refusal (entry_rows o lent (decoded kind b)) ≡ Accept → ((i : ℕ) → b i < 256) → Grown (decoded kind b)
  unfolding kinds
  grown kind b k a z v h =
      each_kind
      (λ n. allowed p n ≡ true → ¬ (n ≡ 0) → first_refusal (entry_rows o lent (decoded n b)) ≡ Accept → Grown (decoded n b))
      (λ a z v. absurd (z refl))
      (λ a z v. grown-size _ _ (eqb-true _ 0 a) v)
      (λ a z v. grown-weight _ _ _ (eqb-true _ 1 a) v)
      (λ a z v. grown-rounds _ _ (eqb-true _ 2 a) v (omega (arith, h 2, h 3)))
      (λ a z v. let c = both_true (eqb p.header 3) _ a in grown-sample (b 0) (eqb-true _ 3 c.0) (ltb-true _ _ c.1))
      (λ a z v. let c = behind p _ _ a in grown-flow _ c.header c.samples (four_fits (h 0) (h 1) (h 2) (h 3)))
      (λ a z v. let c = behind p _ _ a in grown-pair-weight _ c.header c.samples (eqb-true _ 0 c.flow) v)
      kind k a z v

-- ---- the whole tape

module _ (tape : List ℕ) (lent : Lent) (byte : (i : ℕ) → get_or tape i 0 < 256) where
  record Good (o : ℕ) (p : Progress) : Type 0 where
    pub bytes : take o tape ≡ so_far p
    pub sound : Sound lent p

  -- an accepted tape is the bytes of the whole job
  pub record Job (p : Progress) : Type 0 where
    pub sound : Sound lent p
    pub complete : p.header ≡ 3
    pub samples : length p.samples ≡ pixels_of p.terms
    pub weights : (length p.weights ≡ 0) ⊎ (length p.weights ≡ pairs_of p.terms)
    pub flow : (length p.flow ≡ 0) ⊎ (length p.flow ≡ pairs_of p.terms)
    pub bytes : tape ≡ tape_of p.terms p.rounds p.samples p.weights p.flow

  module _ (o : ℕ) (p : Progress) (g : Good o p) (h : Passed lent.followed tape o (allowed p)) where
    growing : terms_verdict tape lent o ≡ Accept → ¬ (get_or tape o 0 ≡ 0) → Good (next_at tape o) (absorbed p (entry_at tape o))
    growing v z =
        let more = grown lent p g.sound o (get_or tape o 0) (λ i. get_or tape (o + 1 + i) 0) h.is_known h.is_allowed z v (λ i. byte (o + 1 + i)) in
        record {
          bytes =
              take_next tape o h.is_known h.inside h.fits byte
              ∙ ap (λ (l : List ℕ). l ++ encoded (entry_at tape o)) g.bytes
              ∙ sym more.1;
          sound = more.0;
        }

    all : lent.followed ≡ false → get_or tape o 0 ≡ 0 → tape ≡ so_far p ++ encoded End
    unfolding kinds
    all alone z =
        sym (take_all (next_at tape o) tape (omega (arith, h.last alone z)))
        ∙ take_next tape o h.is_known h.inside h.fits byte
        ∙ ap₂ (λ (l : List ℕ) (n : ℕ). l ++ encoded (decoded n (λ i. get_or tape (o + 1 + i) 0))) g.bytes z

    ending : lent.followed ≡ false → get_or tape o 0 ≡ 0 → Job p
    unfolding kinds so_far header_bytes tape_of
    ending alone z =
        let b = behind p _ _ (subst (λ (n : ℕ). allowed p n ≡ true) z h.is_allowed) in
        record {
          sound = g.sound;
          complete = b.header;
          samples = b.samples;
          weights = (all_or_none_lem _ _).0 b.weights;
          flow = (all_or_none_lem _ _).0 b.flow;
          bytes =
              all alone z
              ∙ ap
              (λ (n : ℕ).
              header_bytes n p.terms p.rounds
              ++ sample_bytes p.samples
              ++ weight_bytes p.weights
              ++ flow_bytes p.flow
              ++ encoded End)
              b.header;
        }

  job-from : lent.followed ≡ false → (k o : ℕ) (p q : Progress) → Good o p → parse_from k tape lent o p ≡ whole q → Job q
  unfolding parse_from
  job-from alone zero o p q g e = let z : ◌≡◌ {A = ℕ} 0 1 = cc in absurd (omega arith)
  job-from alone (suc k) o p q g e = go (turn tape lent k o p) e (job-from alone k)
    where
      go : {v : Verdict} {end : Bool} {r : Parse} → Turn tape lent k o p v end r → r ≡ whole q →
          ((o : ℕ) (p q : Progress) → Good o p → parse_from k tape lent o p ≡ whole q → Job q) → Job q
      go (Turn.refuse n f _) w ih = let z : ◌≡◌ {A = ℕ} 0 1 = cc in absurd (omega arith)
      go (Turn.done h z) w ih = subst Job (cc) (ending o p g h alone z)
      go (Turn.more h v z) w ih = ih _ _ q (growing o p g h v z) w

  pub accepted-job : lent.followed ≡ false → (q : Progress) → parse_from (suc (length tape)) tape lent 0 nothing ≡ whole q → Job q
  unfolding so_far header_bytes chain
  accepted-job alone q e = job-from alone (suc (length tape)) 0 nothing q (record { bytes = refl; sound = start }) e
    where
      start : Sound lent nothing
      start =
          record {
            header = zero-le;
            early = λ _. (refl, refl, refl);
            samples_first = λ _. (refl, refl);
            size = λ l. absurd (omega arith);
            weight = λ l. absurd (omega arith);
            rounds = λ l. absurd (omega arith);
            allowance = omega arith;
            pair_weights = each_none WeightLimits (pos 0) refl;
            ranged = each_none (SFits w32) (pos 0) refl;
          }
