-- The shape by whose rows an image is filled.
use Rattle.std.specs.Prelude.{cond, eqb}
use Rattle.layout.specs.declared.Shape.{Shape}

-- One column as one row, whose pixels and pairs stand in the same order; any other shape as it is
abbrev pub as_one_row : Shape → Shape
as_one_row s = cond (eqb s.width 1) (record { width = s.height; height = 1 }) s
