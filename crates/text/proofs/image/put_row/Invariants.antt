-- The loop's invariant: the values up to the column have been written.
use mathlib.Core.Bool.{cond}
use mathlib.Core.List.{List}
use Prim.Native.Nat.{ℕ, ◌+◌, ◌*◌, ◌≤◌}
use lib.Dec.{eqb}
use lib.IntN.{ℤ}
use Rattle.lists.specs.Lists.{at, chain}
use Rattle.model.specs.Text.{signed_decimal}
use Rattle.model.specs.Program.{field}
use Rattle.output.specs.Put.{Put}
use Rattle.text.proofs.image.put_row.Given as goal

-- the values of the row
abbrev pub values : List ℤ → ℕ → List ℕ
values row column = cond (eqb column 0) (signed_decimal (at row column)) (field (signed_decimal (at row column)))

abbrev pub invariant-loop-column : goal.invariant-loop-column
invariant-loop-column l =
    record {
      written : Put l.o (chain l.column (values l.row)) l.initial.output l.next l.output;
      upper_bound : l.next ≤ l.o + 22 * l.column;
    }
