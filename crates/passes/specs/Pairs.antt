-- What a pass makes of pair j, from the pair's weight and number and the values x j of its first and y j of its second pixel.
-- A run has these values in two buffers; on a raster they are the image's values at the pair's pixels. That this is crate
-- `model`'s is proved in proofs/Model.antt.
use Rattle.std.specs.Prelude.{Bool, List, ℕ, ℤ, ◌-ℤ◌, ◌*ℤ◌, get_or}
use Rattle.integers.specs.Whole.{abs}
use Rattle.lists.specs.Lists.{at}
use Rattle.layout.specs.declared.Shape.{Shape}
use Rattle.layout.specs.Runs.{first_pixel, second_pixel}
use Rattle.momentum.specs.Reciprocal.{ahead_of}
use Rattle.stencil.specs.Pair.{step_value, moves}

-- the values of an image at the pixels of pair j
abbrev pub first_value : Shape → List ℤ → ℕ → ℤ
first_value s image j = at image (first_pixel s j)

abbrev pub second_value : Shape → List ℤ → ℕ → ℤ
second_value s image j = at image (second_pixel s j)

-- the weight of pair j: its own in a part that may be empty, and then the one that stands for all
abbrev pub weight_at : ℤ → List ℤ → ℕ → ℤ
weight_at weight weights j = get_or weights j weight

-- the number of pair j after a step that adds this share of its fall
abbrev pub step_at : (ℤ → ℤ) → (ℕ → ℤ) → (ℕ → ℤ) → (ℕ → ℤ) → (ℕ → ℤ) → ℕ → ℤ
step_at share weight flow x y j = step_value share (weight j) (flow j) (x j) (y j)

-- the number ahead of it, by a fixed-point factor m, from its number and a step on the numbers ahead so far
abbrev pub ahead_at : (ℤ → ℤ) → (ℕ → ℤ) → ℕ → (ℕ → ℤ) → (ℕ → ℤ) → (ℕ → ℤ) → (ℕ → ℤ) → ℕ → ℤ
ahead_at share weight m flow ahead x y j = ahead_of m (flow j) (step_at share weight ahead x y j)

-- whether a step would change it
abbrev pub moves_at : (ℤ → ℤ) → (ℕ → ℤ) → (ℕ → ℤ) → (ℕ → ℤ) → (ℕ → ℤ) → ℕ → Bool
moves_at share weight flow x y j = moves share (weight j) (flow j) (x j) (y j)

-- its weight times the size of its fall
abbrev pub variation_at : (ℕ → ℤ) → (ℕ → ℤ) → (ℕ → ℤ) → ℕ → ℤ
variation_at weight x y j = weight j *ℤ abs (x j -ℤ y j)

-- its number times its fall
abbrev pub product_at : (ℕ → ℤ) → (ℕ → ℤ) → (ℕ → ℤ) → ℕ → ℤ
product_at flow x y j = flow j *ℤ (x j -ℤ y j)
