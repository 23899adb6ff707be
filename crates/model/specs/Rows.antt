-- The numbers of document 01's table of refusals (SPECIFICATION 6.1).
use Rattle.std.specs.Prelude.{Bool, ◌&&◌, ◌||◌, ℕ, leb}

-- whether a row of the table has this number: 1 to 10 and 12 to 19
abbrev pub has_row : ℕ → Bool
has_row number = leb 1 number && leb number 10 || leb 12 number && leb number 19
