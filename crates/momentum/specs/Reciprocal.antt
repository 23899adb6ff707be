-- A fixed-point reciprocal, and a number extrapolated by one.
use Rattle.std.specs.Prelude.{ℕ, ◌+◌, ◌*◌, ◌^◌, ◌≤◌, ◌<◌, ℤ, pos, ◌+ℤ◌, ◌-ℤ◌, ◌*ℤ◌}
use Rattle.integers.specs.Whole.{quotient}

-- m is a / b in units of 2⁻⁴⁶, rounded down, and one more
pub record Reciprocal (a b m : ℕ) : Type 0 where
  pub above : a * 2 ^ 46 < m * b
  pub near : m * b ≤ a * 2 ^ 46 + b

-- a number ahead of now, by the change since earlier times m / 2⁴⁶, rounded toward zero
abbrev pub ahead_of : ℕ → ℤ → ℤ → ℤ
ahead_of m earlier now = now +ℤ quotient ((now -ℤ earlier) *ℤ pos m) (pos 70368744177664)
