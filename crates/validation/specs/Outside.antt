-- The first value outside a range, given by its two ends in sub-units, and the row of 9 for it. With the ends of the box the verdict of a price is the model's
-- (proofs/UnderTerms.antt).
use Rattle.std.specs.Prelude.{◌||◌, List, ℕ, ltb, ℤ, length}
use Rattle.std.specs.Int.Signed.{lt_z}
use Rattle.lists.specs.Lists.{at, first_where}
use Rattle.model.specs.Verdict.{Row, row}

-- The first value outside the range, or the number of values where there is none (SPECIFICATION 6.3)
abbrev pub first_outside_range : ℤ → ℤ → List ℤ → ℕ
first_outside_range low high values = first_where (length values) (λ i. lt_z (at values i) low || lt_z high (at values i))

-- 9: a value outside the range, at the first index
abbrev pub outside_row : ℤ → ℤ → List ℤ → Row
outside_row low high values = row (ltb (first_outside_range low high values) (length values)) 9 (first_outside_range low high values)
