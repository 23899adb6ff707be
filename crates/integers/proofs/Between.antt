-- A number c that lies between 0 and d, whatever the sign of d. It is said by one product, as 0 ≤ c (d − c).
use Prim.Native.Nat.{ℕ, zero, suc, ◌*◌, ◌≤◌, zero-le}
use native.Mathlib.Nat.{le_of_mul-le-mul_left, zero-lt-suc}
use lib.IntN.{ℤ, pos, negsuc, nat_abs, neg_ℤ, neg_ℤ-neg_ℤ, ◌-ℤ◌, ◌*ℤ◌}
use lib.Signed.{◌≤ℤ◌}
use Rattle.integers.specs.Whole.{square}
use Rattle.integers.proofs.Parts.{parts, whole, by-≤, of-≤}
use Rattle.integers.proofs.Order.{≤ℤ-trans, pos→≤, 0≤pos, neg_ℤ-mono}
use Rattle.integers.proofs.Absolute.{≤-abs, nat_abs-product, square-nat_abs}

-- it is no longer than d
module _ (c d : ℤ) (h : pos 0 ≤ℤ (c *ℤ (d -ℤ c))) where
  below_product : square c ≤ℤ (c *ℤ d)
  below_product = by-≤ (search parts depth 12) (omega (whole, of-≤ h (search parts depth 12)))

  pub between_nat_abs : nat_abs c ≤ nat_abs d
  between_nat_abs =
      shorter (nat_abs c) (nat_abs d) (rw nat_abs-product at (pos→≤ (≤ℤ-trans (rw (square-nat_abs c) at below_product) (≤-abs (c *ℤ d)))))
    where
      shorter : (m n : ℕ) → m * m ≤ m * n → m ≤ n
      shorter zero n l = zero-le
      shorter (suc m) n l = le_of_mul-le-mul_left l (zero-lt-suc m)

-- and has its sign
pub between_nonneg : (c d : ℤ) → pos 0 ≤ℤ (c *ℤ (d -ℤ c)) → pos 0 ≤ℤ d → pos 0 ≤ℤ c
between_nonneg (pos n) d h k = 0≤pos n
between_nonneg (negsuc n) (pos m) h k = absurd (omega (whole, of-≤ h (search parts depth 12)))
between_nonneg (negsuc n) (negsuc m) h k = absurd k.le

pub between_nonpos : (c d : ℤ) → pos 0 ≤ℤ (c *ℤ (d -ℤ c)) → d ≤ℤ pos 0 → c ≤ℤ pos 0
between_nonpos c d h k =
    rw (neg_ℤ-neg_ℤ c) at (neg_ℤ-mono (between_nonneg (neg_ℤ c) (neg_ℤ d) turned (neg_ℤ-mono k)))
  where
    turned : pos 0 ≤ℤ (neg_ℤ c *ℤ (neg_ℤ d -ℤ neg_ℤ c))
    turned = by-≤ (search parts depth 12) (omega (whole, of-≤ h (search parts depth 12)))
