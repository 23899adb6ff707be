-- The share of a change that an extrapolated number adds, by a fixed-point factor: its size and its sign. Assumes nothing.
use mathlib.Core.Path.{◌≡◌, refl}
use Prim.Native.Nat.{ℕ, suc, ◌*◌, ◌/◌, ◌^◌, ◌≤◌}
use native.Mathlib.Nat.{mul-le-mul, div-le_of_le-mul}
use native.Mathlib.Omega.{arith}
use lib.IntN.{ℤ, pos, negsuc, nat_abs, neg_ℤ, ◌*ℤ◌}
use lib.Signed.{◌<ℤ◌, ◌≤ℤ◌}
use Rattle.std.proofs.lemmas.Int.{ints}
use Rattle.integers.specs.Whole.{quotient}
use Rattle.integers.proofs.Quotient.{quotient-neg}

pub product_most : (k m : ℕ) → k ≤ 130560 → m ≤ 2 ^ 46 → k * m ≤ 130560 * 2 ^ 46
product_most k m h l = mul-le-mul h l

pub share_most : (k m : ℕ) → k ≤ 130560 → m ≤ 2 ^ 46 → k * m / 70368744177664 ≤ 130560
share_most k m h l = div-le_of_le-mul 70368744177664 (omega (arith, product_most k m h l))

-- the quotient by its size
pub share-down : (x : ℤ) (m : ℕ) → x <ℤ pos 0 → quotient (x *ℤ pos m) (pos 70368744177664) ≡ neg_ℤ (pos (nat_abs x * m / 70368744177664))
share-down (pos n) m h = absurd (omega (arith, ints))
share-down (negsuc n) m h = quotient-neg (pos (suc n * m)) 70368744177664

pub share-up : (x : ℤ) (m : ℕ) → pos 0 ≤ℤ x → quotient (x *ℤ pos m) (pos 70368744177664) ≡ pos (nat_abs x * m / 70368744177664)
share-up (pos n) m h = refl
share-up (negsuc n) m h = absurd h.le
