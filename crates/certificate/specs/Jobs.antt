-- The jobs, flows and images at which the statements are tried.
use Rattle.std.specs.Prelude.{List, [], ◌∷◌, ℕ, ℤ, pos, get_or}
use Rattle.lists.specs.Lists.{at}
use Rattle.model.specs.Problem.{Problem}
use Rattle.model.specs.Grid.{low_end, high_end, grid_pairs, grid}
use Rattle.model.specs.Values.{one, pair}

-- 2 by 1, samples 0 and 2, with a weight and a box
abbrev pub scan_two_by_one : ℕ → ℕ → ℕ → Problem
scan_two_by_one weight low high =
    grid (record { width = 2; height = 1; weight = weight; low = low; high = high }) (0 ∷ 2 ∷ []) []

-- 2 by 2, samples 0 2 in both rows, with a weight
abbrev pub scan_two_by_two : ℕ → Problem
scan_two_by_two weight =
    grid (record { width = 2; height = 2; weight = weight; low = 0; high = 255 }) (0 ∷ 2 ∷ 0 ∷ 2 ∷ []) []

-- A row with a weight and samples
abbrev pub scan_row : ℕ → ℕ → List ℕ → Problem
scan_row weight width samples =
    grid (record { width = width; height = 1; weight = weight; low = 0; high = 255 }) samples []

-- 3 by 3, samples 0 2 0, 2 1 2 and 0 1 0, weight 1
abbrev pub scan_three_by_three : Problem
scan_three_by_three =
    grid (record { width = 3; height = 3; weight = 1; low = 0; high = 255 })
    (0 ∷ 2 ∷ 0 ∷ 2 ∷ 1 ∷ 2 ∷ 0 ∷ 1 ∷ 0 ∷ [])
    []

-- 4 by 1, weight 1, readings 0, 5, 9 and 13: no sample stands for these, but the laws are of any readings
abbrev pub readings_four_by_one : Problem
readings_four_by_one =
    record {
      pixels = 4;
      reading = λ i. pos (get_or (0 ∷ 5 ∷ 9 ∷ 13 ∷ []) i 0);
      low = low_end 0;
      high = high_end 255;
      pairs = grid_pairs 4 1;
      weight = λ _. 1;
    }

-- 3 by 1, samples 0 2 4, weight 256
abbrev pub scan_three_by_one : Problem
scan_three_by_one = scan_row 256 3 (0 ∷ 2 ∷ 4 ∷ [])

-- 3 by 1, samples 0 0 2, weight 1, with the pair weights 0 and 258
abbrev pub scan_joint : Problem
scan_joint = grid (record { width = 3; height = 1; weight = 1; low = 0; high = 255 }) (0 ∷ 0 ∷ 2 ∷ []) (pair 0 258)

-- the flow of a 2 by 1 job, that of a 3 by 1 job, and the other image
abbrev pub flow : ℤ → ℕ → ℤ
flow f = at (one f)

abbrev pub flows : ℤ → ℤ → ℕ → ℤ
flows f g = at (f ∷ g ∷ [])

abbrev pub other : ℕ → ℕ → ℕ → ℤ
other a b = at (pair a b)
