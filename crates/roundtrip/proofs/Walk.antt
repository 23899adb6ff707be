-- Reading goes on over a record whose bytes stand at its offset, and so over a section of records. Assumes nothing.
use mathlib.Core.Path.{◌≡◌, refl, sym, ap, ap₂, ◌∙◌}
use mathlib.Core.Bool.{Bool, true, false, not, ◌&&◌}
use mathlib.Core.List.{List, [], ◌∷◌, ◌++◌}
use Prim.Native.Nat.{ℕ, zero, suc, ◌+◌, ◌*◌, ◌≤◌, ◌<◌}
use native.Mathlib.Omega.{arith}
use lib.Dec.{eqb, ltb}
use lib.ListN.{length, get_or, take, drop, length-append, length-drop}
use lib.Seq.{take-suc, take-length}
use borrow.Author.Tests.{lt-leb, le-ltb, ne_eqb}
use Rattle.model.specs.declared.Entry.{Entry}
use Rattle.model.specs.Verdict.{Accept, first_refusal}
use Rattle.model.specs.Tape.{kinds, known, body_length, encoded, Progress, allowed, absorbed, record_rows, entry_rows, Parse, whole, parse_from}
use Rattle.model.proofs.Refusals.{accepted, passed}
use Rattle.model.specs.declared.Lent.{Lent}
use Rattle.roundtrip.proofs.Turns.{next_at, terms_verdict, Passed, unrolled_on, unrolled_end}
use Rattle.roundtrip.proofs.Entries.{Ranged, kind_of, kind_size, kind_here, entry_here}

-- the rows of a record accept it
pub record-passes : (followed : Bool) (tape : List ℕ) (o : ℕ) (may : ℕ → Bool) → Passed followed tape o may → first_refusal (record_rows followed tape o may) ≡ Accept
unfolding record_rows
record-passes followed tape o may h =
    passed _ _ (lt-leb (length tape) o h.inside)
    ∙ passed _ _ (ap not h.is_known)
    ∙ passed _ _ (ap not h.is_allowed)
    ∙ passed _ _ (le-ltb (length tape) (next_at tape o) h.fits)
    ∙ passed _ _ (after followed (get_or tape o 0) h.last)
    ∙ accepted
  where
    after : (f : Bool) (kind : ℕ) → (f ≡ false → kind ≡ 0 → length tape ≤ o + 1) → (not f && (eqb kind 0 && ltb (o + 1) (length tape))) ≡ false
    after true kind l = refl
    after false zero l = le-ltb (o + 1) (length tape) (l refl refl)
    after false (suc k) l = ap (λ (t : Bool). t && ltb (o + 1) (length tape)) (ne_eqb (suc k) 0 (λ z. absurd (omega arith)))

module _ (tape : List ℕ) (lent : Lent) (k o : ℕ) (p : Progress) (e : Entry) (rest : List ℕ) (here : drop o tape ≡ encoded e ++ rest)
    (may : allowed p (kind_of e) ≡ true) (v : first_refusal (entry_rows o lent e) ≡ Accept) where
  kind : get_or tape o 0 ≡ kind_of e
  kind = kind_here tape o e rest here

  next : next_at tape o ≡ o + length (encoded e)
  next =
      let body : body_length (get_or tape o 0) ≡ body_length (kind_of e) = ap body_length kind in
      omega (arith, body, (kind_size e).1)

  fills : length tape ≡ o + length (encoded e) + length rest
  fills = omega (arith, length-drop o tape, ap length here, length-append (encoded e) rest, (kind_size e).1)

  passes : (kind_of e ≡ 0 → length rest ≡ 0) → Passed lent.followed tape o (allowed p)
  unfolding kinds
  passes last =
      record {
        inside = omega (arith, fills, (kind_size e).1);
        is_known = ap known kind ∙ (kind_size e).0;
        is_allowed = ap (allowed p) kind ∙ may;
        fits = omega (arith, fills, next);
        last = λ _ z. ends (sym kind ∙ z);
      }
    where
      ends : kind_of e ≡ 0 → length tape ≤ o + 1
      ends z =
          let body : body_length (kind_of e) ≡ body_length 0 = ap body_length z in
          omega (arith, fills, last z, (kind_size e).1, body)

  module _ (r : Ranged e) where
    judged : terms_verdict tape lent o ≡ Accept
    judged =
        ap (λ (x : Entry). first_refusal (entry_rows o lent x)) (entry_here tape o e rest here r) ∙ v

    pub walk_on : ¬ (kind_of e ≡ 0) →
        parse_from (suc k) tape lent o p
        ≡ parse_from k tape lent (o + length (encoded e)) (absorbed p e)
    walk_on z =
        unrolled_on tape lent k o p (record-passes lent.followed tape o (allowed p) (passes (λ y. absurd (z y)))) judged (λ y. z (sym kind ∙ y))
        ∙ ap₂ (λ (n : ℕ) (x : Entry). parse_from k tape lent n (absorbed p x)) next (entry_here tape o e rest here r)

    pub walk_end : kind_of e ≡ 0 → length rest ≡ 0 → parse_from (suc k) tape lent o p ≡ whole p
    walk_end z l = unrolled_end tape lent k o p (record-passes lent.followed tape o (allowed p) (passes (λ _. l))) judged (kind ∙ z)

-- A section of records, one of `size` bytes for each element of a list; `read` is what has been read with the first of them
module _ (tape : List ℕ) (lent : Lent) {A : Type 0} (entry : A → Entry) (size : ℕ) (read : List A → Progress) where
  -- what lets the record of an element be read at a place, after those of others
  pub record Passes (place : ℕ) (former : List A) (x : A) : Type 0 where
    pub here : (rest : List ℕ) × (drop place tape ≡ encoded (entry x) ++ rest)
    pub may : allowed (read former) (kind_of (entry x)) ≡ true
    pub accepts : first_refusal (entry_rows place lent (entry x)) ≡ Accept
    pub ranged : Ranged (entry x)
    pub inner : ¬ (kind_of (entry x) ≡ 0)
    pub sized : length (encoded (entry x)) ≡ size
    pub grows : absorbed (read former) (entry x) ≡ read (former ++ (x ∷ []))

  -- a section from offset o on
  module _ (xs : List A) (d : A) (o : ℕ) (passes : (i : ℕ) → i < length xs → Passes (o + i * size) (take i xs) (get_or xs i d)) where
    abbrev from : ℕ → ℕ → List A → Parse
    from k i former = parse_from k tape lent (o + i * size) (read former)

    walk_rest : (m i k : ℕ) → i + m ≡ length xs → from (m + k) i (take i xs) ≡ from k (length xs) xs
    walk_rest zero i k e =
        let n : i ≡ length xs = omega arith in
        ap₂ (λ (j l : ℕ). from l j (take j xs)) n (omega arith) ∙ ap (from k (length xs)) (take-length xs)
    walk_rest (suc m) i k e =
        let l : i < length xs = omega arith in
        let p = passes i l in
        ap (λ (n : ℕ). from n i (take i xs)) (omega arith)
        ∙ walk_on tape lent (m + k) (o + i * size) (read (take i xs)) (entry (get_or xs i d)) p.here.0 p.here.1 p.may
        p.accepts p.ranged p.inner
        ∙ ap₂ (λ (n : ℕ) (q : Progress). parse_from (m + k) tape lent n q) (omega (arith, p.sized))
        (p.grows ∙ ap read (sym (take-suc xs i d l)))
        ∙ walk_rest m (suc i) k (omega arith)

    pub walk_section : (k : ℕ) →
        parse_from (length xs + k) tape lent o (read []) ≡ parse_from k tape lent (o + length xs * size) (read xs)
    walk_section k =
        ap (λ (n : ℕ). parse_from (length xs + k) tape lent n (read [])) (omega arith) ∙ walk_rest (length xs) 0 k (omega arith)
