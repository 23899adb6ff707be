-- The quotient by a positive natural number b, rounded toward zero: its sign and its size. What it has in common with the
-- nearest whole number is in Rounded.
use mathlib.Core.Path.{◌≡◌, refl, sym}
use Prim.Native.Nat.{ℕ, zero, suc, ◌/◌}
use native.Mathlib.Nat.{zero-div}
use lib.IntN.{ℤ, pos, negsuc, nat_abs, neg_ℤ, neg_ℤ-neg_ℤ}
use Rattle.integers.specs.Whole.{quotient}
use Rattle.integers.proofs.Absolute.{nat_abs-neg}

pub quotient-neg : (x : ℤ) (b : ℕ) → quotient (neg_ℤ x) (pos b) ≡ neg_ℤ (quotient x (pos b))
quotient-neg (pos zero) b = rw zero-div
quotient-neg (pos (suc n)) b = refl
quotient-neg (negsuc n) b = sym (neg_ℤ-neg_ℤ (pos (suc n / b)))

pub nat_abs-quotient : (x : ℤ) (b : ℕ) → nat_abs (quotient x (pos b)) ≡ nat_abs x / b
nat_abs-quotient (pos n) b = refl
nat_abs-quotient (negsuc n) b = nat_abs-neg (pos (suc n / b))
