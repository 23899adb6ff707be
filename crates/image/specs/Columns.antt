-- A row of the image of a flow, from the parts of the flow that hold the numbers of its pairs: with the row below, with the
-- row above, and across the row. Past a part's end a number is 0, so a part that is empty counts for nothing.
use Rattle.std.specs.Prelude.{List, ◌∷◌, ℕ, ℤ, pos, ◌+ℤ◌, ◌-ℤ◌, get_or}
use Rattle.integers.specs.Whole.{clamp}
use Rattle.lists.specs.Lists.{at}
use Rattle.model.specs.Grid.{reading_of}

-- the pixel at column c, from its sample and the numbers of its pairs to the right and left
abbrev pub column_value : ℤ → ℤ → ℕ → List ℤ → List ℤ → ℕ → ℤ → ℤ → ℤ
column_value low high sample below above c right left =
    clamp low high (reading_of sample -ℤ ((at below c +ℤ right) -ℤ (at above c +ℤ left)))

-- the number to the left of column c is that to the right of the column before
abbrev pub row_value : ℤ → ℤ → List ℕ → List ℤ → List ℤ → List ℤ → ℕ → ℤ
row_value low high samples below above across c =
    column_value low high (get_or samples c 0) below above c (at across c) (at (pos 0 ∷ across) c)
