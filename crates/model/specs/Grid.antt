-- The grid of document 01 as a problem: sizes, readings, box and pairs (docs/SPECIFICATION.md, section 1). `Terms`, declared
-- in src/lib.rt, are the numbers of a job without its rounds: width, height, weight W, and the box's ends low and high
-- (SPECIFICATION 1.10).
use Rattle.std.specs.Prelude.{Bool, not, ◌&&◌, List, ◌++◌, ℕ, ◌+◌, ◌-◌, ◌*◌, leb, ℤ, pos, nat_abs, get_or}
use Rattle.std.specs.Int.Signed.{lt_z}
pub use Rattle.model.specs.declared.Terms.{Terms}
use Rattle.lists.specs.Lists.{table, chain}
use Rattle.model.specs.Problem.{Pair, Problem}

-- The limits of a job's terms and rounds: the largest width or height, the most pixels, the largest weight, in sub-units, and
-- the most quick rounds (SPECIFICATION 1.1, 1.5, 3.4)
pub record Limits : Type 0 where
  pub side : ℕ
  pub pixels : ℕ
  pub weight : ℕ
  pub quick : ℕ

abbrev pub limit : Limits
limit = record { side = 4096; pixels = 1048576; weight = 65280; quick = 4096 }

-- Width and height are each 1 to 4,096, their product at most 1,048,576 (SPECIFICATION 1.1)
unfoldable pub size_allowed : ℕ → ℕ → Bool
size_allowed w h = leb 1 w && leb w limit.side && (leb 1 h && leb h limit.side) && leb (w * h) limit.pixels

-- A weight is 0 to 65,280 sub-units: the terms' weight W, and the weight of each pair (SPECIFICATION 1.5)
unfoldable pub weight_allowed : ℕ → Bool
weight_allowed weight = leb weight limit.weight

-- A number of a weight buffer is a weight: not below 0, and within that limit (SPECIFICATION 1.5, 6.2)
unfoldable pub pair_weight_allowed : ℤ → Bool
pair_weight_allowed z = not (lt_z z (pos 0)) && weight_allowed (nat_abs z)

-- The weight of pair j: its own in the buffer, or, where none is lent (length 0), the terms' (SPECIFICATION 1.5)
unfoldable pub weight_of : Terms → List ℤ → ℕ → ℕ
weight_of t weights j = nat_abs (get_or weights j (pos t.weight))

-- The box is low to high, low at most high (each is a level, 0 to 255: a byte by its type) (SPECIFICATION 1.6)
unfoldable pub box_allowed : ℕ → ℕ → Bool
box_allowed low high = leb low high

-- A sub-unit is 1/256 level. Code s covers a whole level (its quantization interval), from 256 × s to 256 × s + 255, and
-- is read at its centre, B = 256 × s + 128 (the midpoint) (SPECIFICATION 1.4)
unfoldable pub reading_of : ℕ → ℤ
reading_of s = pos (256 * s + 128)

-- Image values run over the levels of the box: from the first sub-unit of the lowest to the last of the highest
-- (SPECIFICATION 1.6)
unfoldable pub low_end : ℕ → ℤ
low_end low = pos (256 * low)

unfoldable pub high_end : ℕ → ℤ
high_end high = pos (256 * high + 255)

-- Pixels run row by row: pixel (row, column) has number row × width + column (SPECIFICATION 1.2)
abbrev pub pixel : ℕ → ℕ → ℕ → ℕ
pixel w row column = row * w + column

-- Pairs: every (pixel, pixel below), in row order of the upper pixel .. (SPECIFICATION 1.7)
unfoldable pub vertical_pairs : ℕ → ℕ → List Pair
vertical_pairs w h = table (w * (h - 1)) (λ i. record { first = i; second = i + w })

-- .. then every (pixel, pixel to its right), in row order of the left one
unfoldable pub horizontal_pairs : ℕ → ℕ → List Pair
horizontal_pairs w h =
    chain h (λ row. table (w - 1) (λ column. record { first = pixel w row column; second = pixel w row column + 1 }))

unfoldable pub grid_pairs : ℕ → ℕ → List Pair
grid_pairs w h = vertical_pairs w h ++ horizontal_pairs w h

-- The problem of a raster: its samples, and its pairs' weights (SPECIFICATION 1.10)
abbrev pub grid : Terms → List ℕ → List ℤ → Problem
grid t samples weights =
    record {
      pixels = t.width * t.height;
      reading = λ i. reading_of (get_or samples i 0);
      low = low_end t.low;
      high = high_end t.high;
      pairs = grid_pairs t.width t.height;
      weight = weight_of t weights;
    }
