-- Finite sums.
use Rattle.std.specs.Prelude.{ℕ, zero, suc, ℤ, pos, ◌+ℤ◌}

-- g 0 + g 1 + .. + g (n − 1)
unfoldable pub total : ℕ → (ℕ → ℤ) → ℤ
total zero g = pos 0
total (suc n) g = total n g +ℤ g n
