-- A record is read alike on every tape that has its bytes: where it is whole, and where it is refused for another reason than
-- that the input ends. Assumes nothing.
use mathlib.Core.Path.{◌≡◌, refl, sym, ap, ap₂, ◌∙◌}
use mathlib.Core.Bool.{Bool, true, false, not, true≢false}
use mathlib.Core.List.{List, ◌++◌}
use Prim.Native.Nat.{ℕ, ◌+◌, ◌≤◌, ◌<◌}
use native.Mathlib.Omega.{arith}
use lib.Dec.{leb, ltb}
use lib.ListN.{length, get_or, take, length-append, get_or-append}
use lib.Seq.{get_or-take, take-append-le}
use borrow.Author.Tests.{leb-false, lt-leb}
use Rattle.model.specs.declared.Entry.{Entry}
use Rattle.model.specs.declared.Entry.TheVariants.{End, Size, WeightBox, RoundLimits, Sample, Flow, PairWeight}
use Rattle.std.specs.Prelude.{Ok}
use Rattle.model.specs.Verdict.{Verdict, first_refusal, decided, refused as turned_back}
use Rattle.model.specs.declared.Lent.{Lent}
use Rattle.model.specs.Tape.{kinds, known, body_length, decoded, body_rows, record_rows, entry_rows, too_short}
use Rattle.model.proofs.Refusals.{accepted, refused, passed}
use Rattle.tape_records.specs.declared.state.ParserState.{ParserState}
use Rattle.tape_records.specs.State.{may}
use Rattle.tape_records.specs.Record.{record_at, result_at}
use Rattle.tape_records.proofs.RecordRows.{known-kind}
use Rattle.roundtrip.proofs.EachKind.{each_kind}
use Rattle.roundtrip.proofs.Turns.{entry_at, next_at, terms_verdict, Passed, passed_record}
use Rattle.roundtrip.proofs.Walk.{record-passes}
use Rattle.tape_reader.specs.Scan.{lent_for}

-- a record's numbers are those of its body's bytes
module _ (b c : ℕ → ℕ) where
  abbrev AlikeBelow : ℕ → Type 0
  AlikeBelow n = (i : ℕ) → i < n → b i ≡ c i

  below_four : AlikeBelow 4 → (b 0 ≡ c 0) × (b 1 ≡ c 1) × (b 2 ≡ c 2) × (b 3 ≡ c 3)
  below_four e = (e 0 (omega arith), e 1 (omega arith), e 2 (omega arith), e 3 (omega arith))

  decoded-cong : (kind : ℕ) → known kind ≡ true → AlikeBelow (body_length kind) → decoded kind b ≡ decoded kind c
  unfolding kinds
  decoded-cong =
      each_kind (λ n. AlikeBelow (body_length n) → decoded n b ≡ decoded n c)
      (λ e. refl)
      (λ e. let (e₀, e₁, e₂, e₃) = below_four e in cc)
      (λ e. let (e₀, e₁, e₂, e₃) = below_four e in cc)
      (λ e. let (e₀, e₁, e₂, e₃) = below_four e in cc)
      (λ e. ap Sample (e 0 (omega arith)))
      (λ e. let (e₀, e₁, e₂, e₃) = below_four e in cc)
      (λ e. let e₀ = e 0 (omega arith) in let e₁ = e 1 (omega arith) in cc)

-- the rows of its terms ask only how long the buffers are
terms-alike : (o : ℕ) (lent : Lent) (f : Bool) (e : Entry) → first_refusal (entry_rows o (lent_for lent f) e) ≡ first_refusal (entry_rows o lent e)
terms-alike o lent f End = refl
terms-alike o lent f (Size w h) = refl
terms-alike o lent f (WeightBox weight low high) = refl
terms-alike o lent f (RoundLimits q a) = refl
terms-alike o lent f (Sample s) = refl
terms-alike o lent f (Flow x) = refl
terms-alike o lent f (PairWeight w) = refl

-- ---- a record that is whole

module _ (tape other : List ℕ) (o : ℕ) (same : take (next_at tape o) other ≡ take (next_at tape o) tape) where
  byte_alike : (i : ℕ) → i < next_at tape o → get_or other i 0 ≡ get_or tape i 0
  byte_alike i h =
      sym (get_or-take (next_at tape o) other i 0 h) ∙ ap (λ (l : List ℕ). get_or l i 0) same ∙ get_or-take (next_at tape o) tape i 0 h

  pub kind_alike : get_or other o 0 ≡ get_or tape o 0
  kind_alike = byte_alike o (omega arith)

  pub next_alike : next_at other o ≡ next_at tape o
  next_alike = ap (λ (kind : ℕ). o + 1 + body_length kind) kind_alike

  pub entry-alike : known (get_or tape o 0) ≡ true → entry_at other o ≡ entry_at tape o
  entry-alike k =
      ap (λ (kind : ℕ). decoded kind (λ i. get_or other (o + 1 + i) 0)) kind_alike
      ∙ decoded-cong _ _ (get_or tape o 0) k (λ i h. byte_alike (o + 1 + i) (omega arith))

  pub passed_alike : {f g : Bool} {may : ℕ → Bool} → Passed f tape o may → next_at tape o ≤ length other →
      (g ≡ false → get_or tape o 0 ≡ 0 → length other ≤ o + 1) → Passed g other o may
  passed_alike {f} {g} {may} h long last =
      record {
        inside = omega arith;
        is_known = ap known kind_alike ∙ h.is_known;
        is_allowed = ap may kind_alike ∙ h.is_allowed;
        fits = omega (arith, next_alike);
        last = λ z k. last z (sym kind_alike ∙ k);
      }

  pub verdict_alike : known (get_or tape o 0) ≡ true → (lent : Lent) (f : Bool) → terms_verdict other (lent_for lent f) o ≡ terms_verdict tape lent o
  verdict_alike k lent f = terms-alike o lent f (entry_at other o) ∙ ap (λ (e : Entry). first_refusal (entry_rows o lent e)) (entry-alike k)

-- ---- a record that is refused, but not because the input ends there: with more bytes behind it is refused alike

module _ (tape behind : List ℕ) (o : ℕ) (may : ℕ → Bool) where
  abbrev longer : List ℕ
  longer = tape ++ behind

  abbrev rows : List ℕ → Verdict
  rows l = first_refusal (record_rows true l o may)

  module _ {n q : ℕ} (e : rows tape ≡ Verdict.Refuse n q) (enough : too_short n ≡ false) where
    short : {m l : ℕ} → rows tape ≡ Verdict.Refuse m l → too_short m ≡ true → rows longer ≡ Verdict.Refuse n q
    short {m} {l} h s =
        let x : Verdict.Refuse m l ≡ Verdict.Refuse n q = sym h ∙ e in
        let z : m ≡ n = cc in
        absurd (true≢false (sym s ∙ ap too_short z ∙ enough))

    module _ (h : o < length tape) where
      abbrev kind : ℕ
      kind = get_or tape o 0

      kind_longer : get_or longer o 0 ≡ kind
      kind_longer = get_or-append tape behind 0 o h

      inside : o < length longer
      inside = omega (arith, length-append tape behind)

      body_at : (l : List ℕ) → o < length l → get_or l o 0 ≡ kind → known kind ≡ true →
          rows l ≡ first_refusal (body_rows true (length l) o kind (may kind))
      body_at l long s k =
          known-kind true l o may long (ap known s ∙ k)
          ∙ ap (λ (m : ℕ). first_refusal (body_rows true (length l) o m (may m))) s

      by-fit : known kind ≡ true → may kind ≡ true → (b : Bool) → ltb (length tape) (o + 1 + body_length kind) ≡ b → rows longer ≡ Verdict.Refuse n q
      by-fit k m true f = short (body_at tape h refl k ∙ passed _ _ (ap not m) ∙ refused _ _ f) refl
      by-fit k m false f =
          let x : Verdict.Accept ≡ Verdict.Refuse n q =
          sym (body_at tape h refl k ∙ passed _ _ (ap not m) ∙ passed _ _ f ∙ passed _ _ refl ∙ accepted) ∙ e in
          let z : ◌≡◌ {A = ℕ} 0 1 = cc in
          absurd (omega arith)

      by_order : known kind ≡ true → (b : Bool) → may kind ≡ b → rows longer ≡ Verdict.Refuse n q
      by_order k true m = by-fit k m (ltb (length tape) (o + 1 + body_length kind)) refl
      by_order k false m =
          body_at longer inside kind_longer k
          ∙ refused _ _ (ap not m)
          ∙ sym (body_at tape h refl k ∙ refused _ _ (ap not m))
          ∙ e

      by_kind : (b : Bool) → known kind ≡ b → rows longer ≡ Verdict.Refuse n q
      unfolding record_rows
      by_kind true k = by_order k (may kind) refl
      by_kind false k =
          passed _ _ (lt-leb _ _ inside)
          ∙ refused _ _ (ap not (ap known kind_longer ∙ k))
          ∙ sym (passed _ _ (lt-leb _ _ h) ∙ refused _ _ (ap not k))
          ∙ e

    rows_alike : rows longer ≡ Verdict.Refuse n q
    unfolding record_rows
    rows_alike = by_length (leb (length tape) o) refl
      where
        by_length : (b : Bool) → leb (length tape) o ≡ b → rows longer ≡ Verdict.Refuse n q
        by_length true l = short (refused _ _ l) refl
        by_length false l =
            let h : o < length tape = leb-false (length tape) o l in by_kind h (known (get_or tape o 0)) refl

-- what reading a record gives, the record or a refusal
pub result_alike : (tape behind : List ℕ) (o : ℕ) (t : ParserState) → ((n q : ℕ) → result_at true tape o t ≡ turned_back n q → too_short n ≡ false) →
    result_at true (tape ++ behind) o t ≡ result_at true tape o t
unfolding result_at
result_alike tape behind o t enough = go (first_refusal (record_rows true tape o (may t))) refl
  where
    by : {v : Verdict} → first_refusal (record_rows true (tape ++ behind) o (may t)) ≡ v → first_refusal (record_rows true tape o (may t)) ≡ v →
        decided v (Ok (record_at (tape ++ behind) o)) turned_back ≡ decided v (Ok (record_at tape o)) turned_back →
        decided (first_refusal (record_rows true (tape ++ behind) o (may t))) (Ok (record_at (tape ++ behind) o)) turned_back
        ≡ decided (first_refusal (record_rows true tape o (may t))) (Ok (record_at tape o)) turned_back
    by a b c =
        ap (λ (v : Verdict). decided v (Ok (record_at (tape ++ behind) o)) turned_back) a
        ∙ c
        ∙ sym (ap (λ (v : Verdict). decided v (Ok (record_at tape o)) turned_back) b)

    go : (v : Verdict) → first_refusal (record_rows true tape o (may t)) ≡ v →
        decided (first_refusal (record_rows true (tape ++ behind) o (may t))) (Ok (record_at (tape ++ behind) o)) turned_back
        ≡ decided (first_refusal (record_rows true tape o (may t))) (Ok (record_at tape o)) turned_back
    go (Verdict.Refuse n q) e =
        by
        (rows_alike tape behind o (may t) e (enough n q (ap (λ (v : Verdict). decided v (Ok (record_at tape o)) turned_back) e)))
        e refl
    go Verdict.Accept e =
        let h = passed_record true tape o (may t) e in
        let same : take (next_at tape o) (tape ++ behind) ≡ take (next_at tape o) tape = take-append-le (next_at tape o) tape behind h.fits in
        let long : next_at tape o ≤ length (tape ++ behind) = omega (arith, h.fits, length-append tape behind) in
        by
        (record-passes true (tape ++ behind) o (may t) (passed_alike tape (tape ++ behind) o same h long (λ z k. absurd (true≢false z))))
        e
        (ap₂ (λ (x : Entry) (i : ℕ). Ok (x, record { at = i })) (entry-alike tape (tape ++ behind) o same h.is_known) (next_alike tape (tape ++ behind) o same))
