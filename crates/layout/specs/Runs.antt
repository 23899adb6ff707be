-- The pairs of a raster as runs, in flow order: the vertical pairs by 4,096, whatever the rows, then the horizontal pairs of
-- each row. That the runs, one after the other, are the pairs of crate `model` is proved in proofs/Runs.antt.
use Rattle.std.specs.Prelude.{cond, List, ℕ, ◌+◌, ◌-◌, ◌*◌, ◌/◌, min, ltb, get_or}
use Rattle.model.specs.declared.Terms.{Terms}
use Rattle.model.specs.Problem.{Pair}
use Rattle.model.specs.Grid.{grid_pairs}
use Rattle.layout.specs.declared.Shape.{Shape}
use Rattle.layout.specs.declared.Run.{Run}

-- the shape of a job
abbrev pub shape_of : Terms → Shape
shape_of t = record { width = t.width; height = t.height }

-- its pixels and its pairs
abbrev pub pixel_count : Shape → ℕ
pixel_count s = s.width * s.height

abbrev pub pair_list : Shape → List Pair
pair_list s = grid_pairs s.width s.height

-- the pixels of pair j
abbrev pub first_pixel : Shape → ℕ → ℕ
first_pixel s j = (get_or (pair_list s) j (record { first = 0; second = 0 })).first

abbrev pub second_pixel : Shape → ℕ → ℕ
second_pixel s j = (get_or (pair_list s) j (record { first = 0; second = 0 })).second

-- ---- the runs

-- how many vertical pairs there are
abbrev pub vertical : Shape → ℕ
vertical s = s.width * (s.height - 1)

-- how many runs they make
abbrev pub column_runs : Shape → ℕ
column_runs s = (vertical s + 4095) / 4096

-- run k of the vertical pairs
abbrev pub column_run : Shape → ℕ → Run
column_run s k =
    record { pair = 4096 * k; count = min 4096 (vertical s - 4096 * k); first = 4096 * k; second = 4096 * k + s.width }

-- the horizontal pairs of row r
abbrev pub row_run : Shape → ℕ → Run
row_run s r =
    record {
      pair = vertical s + r * (s.width - 1);
      count = s.width - 1;
      first = r * s.width;
      second = r * s.width + 1;
    }

-- how many runs there are
abbrev pub run_count : Shape → ℕ
run_count s = column_runs s + s.height

-- run k; past the last one it begins behind the last pair
unfoldable pub run_at : Shape → ℕ → Run
run_at s k = cond (ltb k (column_runs s)) (column_run s k) (row_run s (k - column_runs s))
