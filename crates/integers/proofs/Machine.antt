-- Signed machine arithmetic: an operation on numbers that fit their width, whose result fits it, is the operation on whole
-- numbers. A signed local is its bits, and `to_z w (of_z w z)` is what the machine reads back from those of z.
use mathlib.Core.Path.{◌≡◌, ap, ◌∙◌}
use mathlib.Core.Bool.{true, false}
use Prim.Native.Nat.{◌^◌, ◌≤◌, ◌<◌}
use native.Mathlib.Nat.{lt_of_le_of_lt, le_refl, le-suc}
use lib.IntN.{ℤ, pos, negsuc, nat_abs}
use lib.Signed.{mag, lt_z, ◌≤ℤ◌, ◌<ℤ◌}
use mir.Syntax.{Width}
use mir.Val.{to_z, of_z, SFits, hbits}
use mir.ValLaws.{to_z-of_z}
use Rattle.integers.proofs.Order.{lt_z-true, lt_z-false}

mag-≤ : (z : ℤ) → mag z ≤ nat_abs z
mag-≤ (pos n) = le_refl n
mag-≤ (negsuc n) = le-suc n

module _ (w : Width) where
  pub fits : {z : ℤ} → nat_abs z < 2 ^ hbits w → SFits w z
  fits {z} h = record { sfits = lt_of_le_of_lt (mag-≤ z) h }

  -- ---- the result of a call, as the next operation reads it: from its range (`.ok`), its equation (`.ensures`) and what
  -- its own arguments are

  module _ {r : ℤ} (ok : mag r < 2 ^ hbits w) where
    pub read : to_z w (of_z w r) ≡ r
    read = to_z-of_z w r (record { sfits = ok })

    pub called : {a x : ℤ} (f : ℤ → ℤ) → r ≡ f a → a ≡ x → to_z w (of_z w r) ≡ f x
    called f e p = read ∙ e ∙ ap f p

  -- ---- tests

  module _ {a b : ℤ} (fa : SFits w a) (fb : SFits w b) where
    pub <-read : lt_z (to_z w (of_z w a)) (to_z w (of_z w b)) ≡ true → a <ℤ b
    <-read h = lt_z-true (rw (to_z-of_z w a fa, to_z-of_z w b fb) at h)

    pub ≥-read : lt_z (to_z w (of_z w a)) (to_z w (of_z w b)) ≡ false → b ≤ℤ a
    ≥-read h = lt_z-false (rw (to_z-of_z w a fa, to_z-of_z w b fb) at h)
