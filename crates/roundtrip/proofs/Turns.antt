-- One turn of reading: what a record comes to by the verdict on it and by its kind, and that the fuel of reading decides
-- nothing. Assumes nothing.
use mathlib.Core.Path.{◌≡◌, refl, sym, ap, ap₂, ◌∙◌, subst}
use mathlib.Core.Bool.{Bool, true, false, not, ◌&&◌}
use mathlib.Core.List.{List}
use Prim.Native.Nat.{ℕ, zero, suc, ◌+◌, ◌≤◌, ◌<◌}
use native.Mathlib.Omega.{arith}
use lib.Dec.{eqb, ltb}
use lib.ListN.{length, get_or}
use borrow.Author.Tests.{leb-false, ltb-false, eqb-true, eqb-false, not-false, eq-eqb, ne_eqb}
use Rattle.model.specs.declared.Entry.{Entry}
use Rattle.model.specs.declared.Entry.TheVariants.{End, Size, WeightBox, RoundLimits, Sample, Flow, PairWeight}
use Rattle.model.specs.declared.Lent.{Lent}
use Rattle.model.specs.Verdict.{Verdict, Accept, Refuse, first_refusal, decided}
use Rattle.model.specs.Tape.{known, body_length, decoded, Progress, allowed, absorbed, record_rows, entry_rows, Parse, turned, whole, parse_from, ParseLaw}
use Rattle.model.proofs.Refusals.{accepted-row, first_refusal-append, Numbered, refused-number}

-- the record at offset o, and where the next begins
abbrev pub entry_at : List ℕ → ℕ → Entry
entry_at tape o = decoded (get_or tape o 0) (λ i. get_or tape (o + 1 + i) 0)

abbrev pub next_at : List ℕ → ℕ → ℕ
next_at tape o = o + 1 + body_length (get_or tape o 0)

-- what it says that the rows of a record accept it
pub record Passed (followed : Bool) (tape : List ℕ) (o : ℕ) (may : ℕ → Bool) : Type 0 where
  pub inside : o < length tape
  pub is_known : known (get_or tape o 0) ≡ true
  pub is_allowed : may (get_or tape o 0) ≡ true
  pub fits : next_at tape o ≤ length tape
  pub last : followed ≡ false → get_or tape o 0 ≡ 0 → length tape ≤ o + 1

pub passed_record : (followed : Bool) (tape : List ℕ) (o : ℕ) (may : ℕ → Bool) → first_refusal (record_rows followed tape o may) ≡ Accept → Passed followed tape o may
unfolding record_rows
passed_record followed tape o may h =
    let a = accepted-row _ _ h in
    let b = accepted-row _ _ a.1 in
    let c = accepted-row _ _ b.1 in
    let d = accepted-row _ _ c.1 in
    let e = accepted-row _ _ d.1 in
    record {
      inside = leb-false (length tape) o a.0;
      is_known = not-false _ b.0;
      is_allowed = not-false _ c.0;
      fits = ltb-false (length tape) (next_at tape o) d.0;
      last = bound e.0;
    }
  where
    bound : (not followed && (eqb (get_or tape o 0) 0 && ltb (o + 1) (length tape))) ≡ false → followed ≡ false → get_or tape o 0 ≡ 0 → length tape ≤ o + 1
    bound h f z = ltb-false (o + 1) (length tape) (rw (f, z) at h)

-- no row has the number 0
record-numbered : (followed : Bool) (tape : List ℕ) (o : ℕ) (may : ℕ → Bool) → Numbered (record_rows followed tape o may)
unfolding record_rows
record-numbered followed tape o may = omega arith

entry-numbered : (o : ℕ) (lent : Lent) (e : Entry) → Numbered (entry_rows o lent e)
entry-numbered o lent End = tt
entry-numbered o lent (Size w h) = omega arith
entry-numbered o lent (WeightBox weight low high) = omega arith
entry-numbered o lent (RoundLimits q a) = omega arith
entry-numbered o lent (Sample s) = tt
entry-numbered o lent (Flow f) = tt
entry-numbered o lent (PairWeight w) = omega arith

-- the verdict on the terms of the record at offset o
abbrev pub terms_verdict : List ℕ → Lent → ℕ → Verdict
terms_verdict tape lent o = first_refusal (entry_rows o lent (entry_at tape o))

module _ (tape : List ℕ) (lent : Lent) (o : ℕ) (p : Progress) where
  -- the verdict on the record, and on the record with its terms
  abbrev pub record_verdict : Verdict
  record_verdict = first_refusal (record_rows lent.followed tape o (allowed p))

  abbrev pub verdict : Verdict
  verdict = decided record_verdict (terms_verdict tape lent o) Refuse

module _ (tape : List ℕ) (lent : Lent) (k o : ℕ) (p : Progress) where
  -- by the verdict, and by whether the record is the end: what is still to be read
  pub data Turn : Verdict → Bool → Parse → Type 0 where
    refuse : {end : Bool} (number place : ℕ) → 0 < number → Turn (Refuse number place) end (turned number place)
    done : Passed lent.followed tape o (allowed p) → get_or tape o 0 ≡ 0 → Turn Accept true (whole p)
    more : Passed lent.followed tape o (allowed p) → terms_verdict tape lent o ≡ Accept → ¬ (get_or tape o 0 ≡ 0) →
        Turn Accept false (parse_from k tape lent (next_at tape o) (absorbed p (entry_at tape o)))

  after : Bool → Parse
  after true = whole p
  after false = parse_from k tape lent (next_at tape o) (absorbed p (entry_at tape o))

  upon : Verdict → Parse
  upon Accept = after (eqb (get_or tape o 0) 0)
  upon (Refuse number place) = turned number place

  unrolled : upon (verdict tape lent o p) ≡ parse_from (suc k) tape lent o p
  unfolding parse_from after upon
  unrolled = ap upon (sym (first_refusal-append (record_rows lent.followed tape o (allowed p)) (entry_rows o lent (entry_at tape o))))

  ends : (end : Bool) → eqb (get_or tape o 0) 0 ≡ end → Passed lent.followed tape o (allowed p) →
      terms_verdict tape lent o ≡ Accept → Turn Accept end (after end)
  unfolding after
  ends true e h v = done h (eqb-true _ _ e)
  ends false e h v = more h v (eqb-false _ _ e)

  judged : (v : Verdict) → terms_verdict tape lent o ≡ v → Passed lent.followed tape o (allowed p) →
      Turn v (eqb (get_or tape o 0) 0) (upon v)
  unfolding upon
  judged (Refuse number place) e h = refuse number place (refused-number _ (entry-numbered o lent (entry_at tape o)) e)
  judged Accept e h = ends (eqb (get_or tape o 0) 0) refl h e

  read_one : (v : Verdict) → record_verdict tape lent o p ≡ v →
      let w : Verdict = decided v (terms_verdict tape lent o) Refuse in Turn w (eqb (get_or tape o 0) 0) (upon w)
  unfolding upon
  read_one (Refuse number place) e = refuse number place (refused-number _ (record-numbered lent.followed tape o (allowed p)) e)
  read_one Accept e = judged (terms_verdict tape lent o) refl (passed_record lent.followed tape o (allowed p) e)

  pub turn : Turn (verdict tape lent o p) (eqb (get_or tape o 0) 0) (parse_from (suc k) tape lent o p)
  turn = subst (Turn (verdict tape lent o p) (eqb (get_or tape o 0) 0)) unrolled (read_one (record_verdict tape lent o p) refl)

  -- reading goes on over a record that its rows and the rows of its terms accept, and ends at the end
  pub unrolled_on : record_verdict tape lent o p ≡ Accept → terms_verdict tape lent o ≡ Accept →
      ¬ (get_or tape o 0 ≡ 0) →
      parse_from (suc k) tape lent o p
      ≡ parse_from k tape lent (next_at tape o) (absorbed p (entry_at tape o))
  unfolding after upon
  unrolled_on a b z =
      sym unrolled
      ∙ ap₂ (λ (v w : Verdict). upon (decided v w Refuse)) a b
      ∙ ap after (ne_eqb (get_or tape o 0) 0 z)

  pub unrolled_end : record_verdict tape lent o p ≡ Accept → terms_verdict tape lent o ≡ Accept →
      get_or tape o 0 ≡ 0 → parse_from (suc k) tape lent o p ≡ whole p
  unfolding after upon
  unrolled_end a b z =
      sym unrolled
      ∙ ap₂ (λ (v w : Verdict). upon (decided v w Refuse)) a b
      ∙ ap after (eq-eqb (get_or tape o 0) 0 z)

-- as many records as there are bytes left are enough, and more change nothing
module _ (tape : List ℕ) (lent : Lent) where
  pub enough : (j k o : ℕ) (p : Progress) → o ≤ length tape → length tape < o + j → length tape < o + k →
      parse_from j tape lent o p ≡ parse_from k tape lent o p
  enough zero k o p i h l = absurd (omega arith)
  enough (suc j) zero o p i h l = absurd (omega arith)
  enough (suc j) (suc k) o p i h l = go (turn tape lent j o p) (turn tape lent k o p) (enough j k)
    where
      go : {v : Verdict} {end : Bool} {r r' : Parse} → Turn tape lent j o p v end r → Turn tape lent k o p v end r' →
          ((o : ℕ) (p : Progress) → o ≤ length tape → length tape < o + j → length tape < o + k → parse_from j tape lent o p ≡ parse_from k tape lent o p) → r ≡ r'
      go (Turn.refuse n q _) (Turn.refuse m w _) ih = refl
      go (Turn.done a z) (Turn.done b y) ih = refl
      go (Turn.more a v z) (Turn.more b w y) ih = ih (next_at tape o) _ a.fits (omega arith) (omega arith)

pub parse-law : ParseLaw
parse-law tape lent = enough tape lent
