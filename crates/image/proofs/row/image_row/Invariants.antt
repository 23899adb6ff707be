use mathlib.Core.Path.{◌≡◌}
use mathlib.Core.List.{◌∷◌}
use lib.IntN.{pos}
use Rattle.lists.specs.Lists.{at}
use Rattle.image.specs.Columns.{row_value}
use Rattle.lists.proofs.Fill.{Filling}
use Rattle.image.proofs.row.image_row.Given as goal

abbrev pub invariant-loop-c : goal.invariant-loop-c
invariant-loop-c l =
    Filling (row_value l.fn.ends.low l.fn.ends.high l.samples l.below l.above l.across) l.initial.row l.c l.row × (l.left ≡ at (pos 0 ∷ l.across) l.c)
