-- The table of kinds, row by row. Assumes nothing.
use mathlib.Core.Path.{◌≡◌}
use mathlib.Core.Bool.{true}
use Prim.Native.Nat.{ℕ, zero, suc}
use native.Mathlib.Omega.{arith}
use lib.ListN.{length}
use borrow.Author.Tests.{ltb-true}
use Rattle.model.specs.Tape.{kinds, known}

-- what holds of the kind of each row holds of every known kind
module _ (P : ℕ → Type 0) (p₀ : P 0) (p₁ : P 1) (p₂ : P 2) (p₃ : P 3) (p₄ : P 4) (p₅ : P 5) (p₆ : P 6) where
  pub each_kind : (n : ℕ) → known n ≡ true → P n
  unfolding kinds
  each_kind zero k = p₀
  each_kind (suc zero) k = p₁
  each_kind (suc (suc zero)) k = p₂
  each_kind (suc (suc (suc zero))) k = p₃
  each_kind (suc (suc (suc (suc zero)))) k = p₄
  each_kind (suc (suc (suc (suc (suc zero))))) k = p₅
  each_kind (suc (suc (suc (suc (suc (suc zero)))))) k = p₆
  each_kind (suc (suc (suc (suc (suc (suc (suc n))))))) k =
      absurd (omega (arith, ltb-true (suc (suc (suc (suc (suc (suc (suc n))))))) (length kinds) k))
