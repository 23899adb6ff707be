-- How large a slack can be, so that sums of slacks are known to fit.
use Rattle.std.specs.Prelude.{ℕ, ◌*◌, nat_abs}
use Rattle.model.specs.Grid.{high_end}

-- The most slack that check or run gives for each pixel: price and floor have each the data term of a pixel and, twice, the
-- terms of two pairs, and the size of none of these is over the square of the largest image value, 65,535 (proved in
-- proofs/Sizes.antt)
abbrev pub most_slack : ℕ
most_slack = 10 * (nat_abs (high_end 255) * nat_abs (high_end 255))
