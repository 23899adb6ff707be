-- Values laid into a list at an offset, and more laid behind them. Assumes nothing.
use mathlib.Core.Path.{◌≡◌, sym, ap, ap₂, ◌∙◌}
use mathlib.Core.List.{List, [], ◌∷◌, ◌++◌, append-nil, append_assoc}
use Prim.Native.Nat.{ℕ, suc, ◌+◌, ◌≤◌, ◌<◌}
use native.Mathlib.Nat.{add-zero, zero-add}
use native.Mathlib.Numerals.{add-one}
use native.Mathlib.Omega.{arith}
use lib.ListN.{length, take, drop, set, length-append, length-drop, take-append-drop}
use lib.Seq.{length-take-le, take_at, drop-drop, set_split, drop-append-add, append_snoc}
use Rattle.lists.specs.Lists.{overwritten}
use Rattle.lists.specs.Placed.{placed}

module _ {A : Type 0} (buffer : List A) where
  front_length : (o : ℕ) (new : List A) → o ≤ length buffer → length (take o buffer ++ new) ≡ o + length new
  front_length o new h = length-append (take o buffer) new ∙ ap (λ (n : ℕ). n + length new) (length-take-le o buffer h)

  pub placed-none : (o : ℕ) → buffer ≡ placed o [] buffer
  placed-none o =
      sym (take-append-drop o buffer)
      ∙ ap₂ (λ (l : List A) (n : ℕ). l ++ drop n buffer) (sym (append-nil (take o buffer))) (sym (add-zero o))

  pub placed_one : (o : ℕ) (x : A) → o < length buffer → set buffer o x ≡ placed o (x ∷ []) buffer
  placed_one o x h =
      set_split buffer o x h
      ∙ sym (append_snoc (take o buffer) x (drop (suc o) buffer))
      ∙ ap (λ (n : ℕ). take o buffer ++ (x ∷ []) ++ drop n buffer) (sym (add-one o))

  pub placed-length : (o : ℕ) (new : List A) → o + length new ≤ length buffer → length (placed o new buffer) ≡ length buffer
  placed-length o new h =
      length-append (take o buffer ++ new) (drop (o + length new) buffer)
      ∙ omega (arith, front_length o new (omega arith), length-drop (o + length new) buffer)

  pub placed-more : (o : ℕ) (new more : List A) → o + length new + length more ≤ length buffer →
      placed (o + length new) more (placed o new buffer) ≡ placed o (new ++ more) buffer
  placed-more o new more h =
      let front : length (take o buffer ++ new) ≡ o + length new = front_length o new (omega arith) in
      ap₂ (λ (f b : List A). f ++ more ++ b)
      (take_at (take o buffer ++ new) (drop (o + length new) buffer) (o + length new) front)
      (ap (λ (n : ℕ). drop (n + length more) (placed o new buffer)) (sym front)
      ∙ drop-append-add (take o buffer ++ new) (drop (o + length new) buffer) (length more)
      ∙ drop-drop (length more) (o + length new) buffer)
      ∙ ap₂ (λ (f : List A) (n : ℕ). f ++ drop n buffer) (append_assoc (take o buffer) new more) (together o)
    where
      together : (o : ℕ) → o + length new + length more ≡ o + length (new ++ more)
      together o = omega (arith, length-append new more)

  pub placed-front : (new : List A) → placed 0 new buffer ≡ overwritten new buffer
  placed-front new = ap (λ (n : ℕ). new ++ drop n buffer) (zero-add (length new))

  -- the front of an overwritten list is what it was overwritten with
  pub take-overwritten : (new : List A) {n : ℕ} → length new ≡ n → take n (overwritten new buffer) ≡ new
  take-overwritten new {n} e = take_at new (drop (length new) buffer) n e
