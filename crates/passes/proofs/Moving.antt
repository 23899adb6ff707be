-- The answer of a search for a moving pair among n: from the first one k, and back. Assumes nothing.
use mathlib.Core.Path.{◌≡◌, refl, sym, ◌∙◌}
use mathlib.Core.Bool.{Bool, true, false, cond}
use Prim.Native.Nat.{ℕ, ◌≤◌, ◌<◌}
use native.Mathlib.Nat.{le_refl}
use borrow.Author.Tests.{lt-ltb, le-ltb, ltb-true, ltb-false}
use lib.Dec.{ltb}
use Rattle.lists.specs.Lists.{below}
use Rattle.std.specs.Prelude.{Option, Some, None, is_some}

module _ (n k : ℕ) where
  -- whether there is one
  pub some_is : is_some (below n k) ≡ ltb k n
  some_is = go (ltb k n)
    where
      go : (t : Bool) → is_some (cond t (Some k) None) ≡ t
      go true = refl
      go false = refl

  pub nothing_is : k ≡ n → None ≡ below n k
  nothing_is e = rw (e, le-ltb n n (le_refl n))

  pub at-is : {j : ℕ} → k ≡ j → j < n → Some j ≡ below n k
  at-is {j} e h = rw (e, lt-ltb j n h)

  -- what the answer r says, by its case
  module _ {r : Option ℕ} (e : r ≡ below n k) where
    pub nothing-moves : r ≡ None → n ≤ k
    nothing-moves q = go (ltb k n) (ltb-false k n) (sym e ∙ q)
      where
        go : (t : Bool) → (t ≡ false → n ≤ k) → cond t (Some k) None ≡ None → n ≤ k
        go true h p = cc
        go false h p = h refl

    pub one-moves : {j : ℕ} → r ≡ Some j → k < n
    one-moves {j} q = go (ltb k n) (ltb-true k n) (sym e ∙ q)
      where
        go : (t : Bool) → (t ≡ true → k < n) → cond t (Some k) None ≡ Some j → k < n
        go true h p = h refl
        go false h p = cc

    pub first-is : {j : ℕ} → r ≡ Some j → k ≡ j
    first-is q = let p = at-is refl (one-moves q) in cc
