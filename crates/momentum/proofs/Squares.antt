-- Squares: of a number below 2²⁹, and how large a number with a small square is. Assumes nothing.
use Prim.Native.Nat.{ℕ, ◌*◌, ◌^◌, ◌≤◌, ◌<◌}
use native.Mathlib.Nat.{mul-le-mul}
use native.Mathlib.Decide.{dec_lt}
use native.Mathlib.Omega.{arith}

pub square-most : (t : ℕ) → t < 2 ^ 29 → t * t ≤ 2 ^ 58
square-most t h = let l : t ≤ 2 ^ 29 = omega arith in omega (arith, mul-le-mul l l)

pub below-2³¹ : (r n : ℕ) → r * r ≤ n → n < 2 ^ 62 → r < 2 ^ 31
below-2³¹ r n h k = by (dec_lt r (2 ^ 31))
  where
    by : Dec (r < 2 ^ 31) → r < 2 ^ 31
    by (yes l) = l
    by (no g) =
        let l : 2 ^ 31 ≤ r = omega (arith, g) in
        let q : 2 ^ 31 * 2 ^ 31 ≤ r * r = mul-le-mul l l in
        absurd (omega arith)
