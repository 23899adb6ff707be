-- The rows of lent lengths.
use Rattle.std.specs.Prelude.{List, [], ◌∷◌, ℕ}
use Rattle.model.specs.Verdict.{Row}
use Rattle.model.specs.Calls.{exact_row, exact_or_none_row}

-- 4 samples; 5 flow; 19 weights; 6 image: of check and run
abbrev pub length_rows : (pixels pairs samples weights flow image : ℕ) → List Row
length_rows pixels pairs samples weights flow image =
    exact_row 4 samples pixels
    ∷ exact_row 5 flow pairs
    ∷ exact_or_none_row 19 weights pairs
    ∷ exact_row 6 image pixels
    ∷ []

-- .. of price
abbrev pub price_length_rows : (pixels pairs samples weights image : ℕ) → List Row
price_length_rows pixels pairs samples weights image =
    exact_row 4 samples pixels ∷ exact_or_none_row 19 weights pairs ∷ exact_row 6 image pixels ∷ []

-- .. and of write, above 16
abbrev pub write_length_rows : (pixels pairs samples weights flow : ℕ) → List Row
write_length_rows pixels pairs samples weights flow =
    exact_row 4 samples pixels ∷ exact_or_none_row 5 flow pairs ∷ exact_or_none_row 19 weights pairs ∷ []
