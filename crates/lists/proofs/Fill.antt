-- A list that is filled from the front: its first k values are g 0, .., g (k − 1), the others as they were. A loop that
-- writes a slice, one value or one part a turn, has it for its invariant. Assumes nothing.
use mathlib.Core.Path.{◌≡◌, refl, sym, ap, ap₂, ◌∙◌}
use mathlib.Core.List.{List, ◌++◌, append_assoc, append-nil}
use Prim.Native.Nat.{ℕ, suc, ◌+◌, ◌-◌, ◌≤◌, ◌<◌, zero-le}
use native.Mathlib.Numerals.{add-one}
use native.Mathlib.Omega.{arith}
use lib.ListN.{length, get_or, take, drop, set, length-append, length-drop, length-set}
use lib.Seq.{drop-cons, drop-length, drop-drop, drop_at, take_at, set_at, append_snoc, get_or-append-add, get_or-drop}
use borrow.Rule.Slice.PartMut.{put_mid}
use Rattle.lists.specs.Lists.{table, overwritten}
use Rattle.lists.proofs.Tables.{length-table, table-append}
use Rattle.lists.proofs.Parts.{part_count}

module _ {A : Type 0} where
  abbrev pub filled : ℕ → (ℕ → A) → List A → List A
  filled k g e = table k g ++ drop k e

  module _ (g : ℕ → A) (e : List A) where
    pub filled_none : filled 0 g e ≡ e
    unfolding table
    filled_none = refl

    pub filled_more : (k : ℕ) → k < length e → set (filled k g e) k (g k) ≡ filled (k + 1) g e
    unfolding table
    filled_more k h =
        rw (add-one k, drop-cons e k (g k), set_at (table k g) (get_or e k (g k)) (drop (suc k) e) (g k) k (length-table k g)) (sym (append_snoc (table k g) (g k) (drop (suc k) e)))

    pub filled-all : filled (length e) g e ≡ table (length e) g
    filled-all = rw (drop-length e) (append-nil (table (length e) g))

    -- filled to the end
    pub filled-done : {k : ℕ} {l : List A} → l ≡ filled k g e → k ≡ length e → l ≡ table (length e) g
    filled-done p q = p ∙ ap (λ n. filled n g e) q ∙ filled-all

    pub length-filled : (k : ℕ) → k ≤ length e → length (filled k g e) ≡ length e
    length-filled k h = simp (length-append, length-table, length-drop) (omega arith)

    pub get_or-filled-rest : (k i : ℕ) (d : A) → k ≤ i → get_or (filled k g e) i d ≡ get_or e i d
    get_or-filled-rest k i d h =
        let e₁ : length (table k g) + (i - k) ≡ i = omega (arith, length-table k g) in
        let e₂ : k + (i - k) ≡ i = omega arith in
        ap (λ j. get_or (filled k g e) j d) (sym e₁) ∙ get_or-append-add (table k g) (drop k e) (i - k) d ∙ get_or-drop k e (i - k) d ∙ ap (λ j. get_or e j d) e₂

    -- a part of n values from a on, filled, takes its place
    pub filled-part : (a n : ℕ) → take a (filled a g e) ++ (table n (λ i. g (a + i)) ++ drop (a + n) (filled a g e)) ≡ filled (a + n) g e
    filled-part a n =
        rw (← (drop-drop n a (filled a g e)), take_at (table a g) (drop a e) a (length-table a g), drop_at (table a g) (drop a e) a (length-table a g), drop-drop n a e, table-append a n g)
        (sym (append_assoc (table a g) (table n (λ i. g (a + i))) (drop (a + n) e)))

    -- past what is filled a list is as it was
    pub filled-rest : (k : ℕ) {l : List A} → l ≡ filled k g e → drop k l ≡ drop k e
    filled-rest k p = ap (drop k) p ∙ drop_at (table k g) (drop k e) k (length-table k g)

    -- a part of n values from a on was lent and has come back filled
    pub filled-back : (a n : ℕ) {l part : List A} → l ≡ filled a g e → part ≡ table n (λ i. g (a + i)) →
        put_mid a (a + n - a) l part ≡ filled (a + n) g e
    filled-back a n {l} {part} p q =
        ap (λ (k : ℕ). put_mid a k l part) (part_count a n)
        ∙ ap₂ (λ (x y : List A). put_mid a n x y) p q
        ∙ ap (λ (x : List A). take a (filled a g e) ++ (table n (λ i. g (a + i)) ++ x)) (drop-drop n a (filled a g e))
        ∙ filled-part a n

-- ---- the invariant of a loop that fills: the list `now`, of which k values of `entry` are filled

pub record Filling {A : Type 0} (g : ℕ → A) (entry : List A) (k : ℕ) (now : List A) : Type 0 where
  pub within : k ≤ length entry
  pub long : length now ≡ length entry
  pub is : now ≡ filled k g entry

module _ {A : Type 0} (g : ℕ → A) (e : List A) where
  pub filling_none : Filling g e 0 e
  filling_none = record { within = zero-le; long = refl; is = sym (filled_none g e) }

module _ {A : Type 0} {g : ℕ → A} {e : List A} {k : ℕ} {l : List A} (f : Filling g e k l) where
  pub filling_more : {x : A} → k < length e → x ≡ g k → Filling g e (k + 1) (set l k x)
  filling_more h q =
      record {
        within = omega arith;
        long = length-set l k _ ∙ f.long;
        is = rw (q, f.is) (filled_more g e k h);
      }

  pub filling_all : length e ≤ k → l ≡ table (length e) g
  filling_all h = f.is ∙ rw (k_is) (filled-all g e)
    where
      k_is : k ≡ length e
      k_is = omega (arith, f.within)

  -- what is not filled yet is as it was
  pub filling_rest : (i : ℕ) (d : A) → k ≤ i → get_or l i d ≡ get_or e i d
  filling_rest i d h = rw f.is (get_or-filled-rest g e k i d h)

  pub filling_part : (n : ℕ) {l' : List A} → k + n ≤ length e → l' ≡ take k l ++ (table n (λ i. g (k + i)) ++ drop (k + n) l) → Filling g e (k + n) l'
  filling_part n {l'} h q =
      let now : l' ≡ filled (k + n) g e = q ∙ rw f.is (filled-part g e k n) in
      record { within = h; long = rw now (length-filled g e (k + n) h); is = now }

  -- filled as far as a count that the loop was given
  pub filling_front : {count : ℕ} → k ≡ count → l ≡ overwritten (table count g) e
  filling_front {count} h =
      f.is ∙ ap (λ n. filled n g e) h ∙ ap (λ n. table count g ++ drop n e) (sym (length-table count g))
