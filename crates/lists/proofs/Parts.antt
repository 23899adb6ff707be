-- A part of a list, n values from index a on, as a slice's part is lent: what it reads, what it is as a table, and what
-- becomes of the whole. Assumes nothing.
use mathlib.Core.Path.{◌≡◌, refl, sym, ap, ap₂, ◌∙◌, subst⁻¹}
use mathlib.Core.Bool.{Bool, true, false, cond}
use mathlib.Core.List.{List, [], ◌∷◌, ◌++◌, append-nil}
use Prim.Native.Nat.{ℕ, zero, suc, ◌+◌, ◌-◌, ◌≤◌, ◌<◌}
use native.Mathlib.Nat.{le_refl}
use native.Mathlib.Decide.{dec_lt}
use native.Mathlib.Omega.{arith}
use borrow.Author.Tests.{lt-ltb, le-ltb}
use borrow.Rule.Slice.PartMut.{put_mid}
use lib.Dec.{ltb}
use lib.ListN.{length, get_or, take, drop, length-take, length-drop, get_or-eq_default}
use lib.Seq.{take-suc, take_all, take_at, take-add, drop_at, drop-length, get_or-take, get_or-drop, length-take-le}
use Rattle.lists.specs.Lists.{table}

-- the count that the machine computes for a part
pub part_count : (a n : ℕ) → a + n - a ≡ n
part_count a n = omega arith

module _ {A : Type 0} where
  pub part_length : (a n : ℕ) (l : List A) → n ≤ length l - a → length (take n (drop a l)) ≡ n
  part_length a n l h = simp (length-take, length-drop) (omega arith)

  pub part_at : (a n : ℕ) (l : List A) (i : ℕ) (d : A) → i < n → get_or (take n (drop a l)) i d ≡ get_or l (a + i) d
  part_at a n l i d h = get_or-take n (drop a l) i d h ∙ get_or-drop a l i d

  -- .. at any index: the default past its end
  pub part_or : (a n : ℕ) (l : List A) (i : ℕ) (d : A) → get_or (take n (drop a l)) i d ≡ cond (ltb i n) (get_or l (a + i) d) d
  part_or a n l i d = by (dec_lt i n)
    where
      by : Dec (i < n) → get_or (take n (drop a l)) i d ≡ cond (ltb i n) (get_or l (a + i) d) d
      by (yes h) = rw (lt-ltb i n h) (part_at a n l i d h)
      by (no h) =
          let past : length (take n (drop a l)) ≤ i = rw (length-take n (drop a l)) (omega (arith, h)) in
          rw (le-ltb i n (omega (arith, h))) (get_or-eq_default (take n (drop a l)) d past)

  -- what holds of the default and of every value holds of every value of a part
  pub part_by : (P : A → Type 0) (d : A) → P d → (a n : ℕ) (l : List A) → ((i : ℕ) → P (get_or l i d)) → (i : ℕ) → P (get_or (take n (drop a l)) i d)
  part_by P d other a n l h i = subst⁻¹ P (part_or a n l i d) (either (ltb i n))
    where
      either : (t : Bool) → P (cond t (get_or l (a + i) d) d)
      either true = h (a + i)
      either false = other

  -- an empty list has only empty parts
  pub part_none : (l : List A) (a n : ℕ) → length l ≡ 0 → l ≡ take n (drop a l)
  part_none [] zero zero h = refl
  part_none [] zero (suc n) h = refl
  part_none [] (suc a) zero h = refl
  part_none [] (suc a) (suc n) h = refl
  part_none (x ∷ l) a n h = absurd (omega arith)

  -- value by value
  pub part_table : (l : List A) (a n : ℕ) (d : A) → a + n ≤ length l → take n (drop a l) ≡ table n (λ i. get_or l (a + i) d)
  unfolding table
  part_table l a zero d h = refl
  part_table l a (suc n) d h =
      take-suc (drop a l) n d (omega (arith, length-drop a l))
      ∙ ap₂ (λ (t : List A) (x : A). t ++ (x ∷ [])) (part_table l a n d (omega arith)) (get_or-drop a l n d)

  -- a part that ends where the list does is all that follows
  pub rest_all : (a : ℕ) (l : List A) → take (length l - a) (drop a l) ≡ drop a l
  rest_all a l = take_all (length l - a) (drop a l) (simp length-drop (le_refl (length l - a)))

  -- the end of a front
  pub drop-take : (n k : ℕ) (l : List A) → n ≤ k → k ≤ length l → drop n (take k l) ≡ take (k - n) (drop n l)
  drop-take n k l h m =
      let whole : k ≡ n + (k - n) = omega arith in
      ap (drop n) (ap (λ (i : ℕ). take i l) whole ∙ take-add n (k - n) l)
      ∙ drop_at (take n l) (take (k - n) (drop n l)) n (length-take-le n l (omega arith))

-- a list of two halves, its first one overwritten and its second one lent
module _ {A : Type 0} {m : ℕ} (first work : List A) (size : length first ≡ m) where
  abbrev pub halves : List A
  halves = first ++ drop m work

  -- what is lent
  pub second-half : take (length halves - m) (drop m halves) ≡ drop m work
  second-half = rest_all m halves ∙ drop_at first (drop m work) m size

  -- and come back
  pub second_back : (ahead : List A) → put_mid m (length halves - m) halves ahead ≡ first ++ ahead
  second_back ahead =
      ap₂ (λ (l r : List A). l ++ (ahead ++ r)) (take_at first (drop m work) m size)
      (ap (λ (n : ℕ). drop n (drop m halves)) (sym (length-drop m halves)) ∙ drop-length (drop m halves))
      ∙ ap (λ (r : List A). first ++ r) (append-nil ahead)
