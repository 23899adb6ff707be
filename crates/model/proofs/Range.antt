-- The range of readings and image values: from 0 to the upper end of the widest box. How a reading or an end of the box is
-- made is known here, in the tables of values and where it is computed; every other law follows from these. Assumes nothing.
use Prim.Native.Nat.{ℕ, ◌^◌, ◌≤◌, ◌<◌}
use native.Mathlib.Omega.{arith}
use lib.IntN.{pos, nat_abs}
use lib.Dec.{lit≤}
use lib.Signed.{◌≤ℤ◌}
use Rattle.integers.proofs.Order.{≤→pos, 0≤pos}
use Rattle.model.specs.Grid.{limit, reading_of, low_end, high_end}

-- the largest value
abbrev pub widest : ℕ
widest = nat_abs (high_end 255)

pub widest_fits : widest ≤ 2 ^ 16
unfolding high_end
widest_fits = lit≤ tt

-- .. which no weight passes
pub weight-reach : limit.weight ≤ widest
unfolding high_end
weight-reach = lit≤ tt

module _ (s : ℕ) where
  pub reading-least : pos 0 ≤ℤ reading_of s
  unfolding reading_of
  reading-least = 0≤pos _

  pub reading-size : s < 256 → nat_abs (reading_of s) ≤ widest
  unfolding reading_of high_end
  reading-size h = omega arith

module _ (low : ℕ) where
  pub low-least : pos 0 ≤ℤ low_end low
  unfolding low_end
  low-least = 0≤pos _

  pub low-size : low < 256 → nat_abs (low_end low) ≤ widest
  unfolding low_end high_end
  low-size h = omega arith

pub high-size : (high : ℕ) → high < 256 → nat_abs (high_end high) ≤ widest
unfolding high_end
high-size high h = omega arith

pub ends-ordered : {low high : ℕ} → low ≤ high → low_end low ≤ℤ high_end high
unfolding low_end high_end
ends-ordered h = ≤→pos (omega arith)
