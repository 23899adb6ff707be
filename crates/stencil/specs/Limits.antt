-- Limits on the numbers of one pixel or pair, within which no machine operation overflows.
use Rattle.std.specs.Prelude.{ℕ, ◌^◌, ◌≤◌, ℤ, nat_abs}

-- the largest size of a value, a number of a flow or a weight
abbrev pub most : ℕ
most = 2 ^ 20

-- a pair's weight, its number f and its pixels' values x and y
pub record PairLimits (weight f x y : ℤ) : Type 0 where
  pub weight_most : nat_abs weight ≤ most
  pub flow_most : nat_abs f ≤ most
  pub first_most : nat_abs x ≤ most
  pub second_most : nat_abs y ≤ most

-- a pixel's reading b and the numbers of its pairs
pub record PixelLimits (b below right above left : ℤ) : Type 0 where
  pub reading_most : nat_abs b ≤ most
  pub below_most : nat_abs below ≤ most
  pub right_most : nat_abs right ≤ most
  pub above_most : nat_abs above ≤ most
  pub left_most : nat_abs left ≤ most
