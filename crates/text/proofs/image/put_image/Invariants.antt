-- The loop's invariant: the lines of the rows up to this one have been written.
use mathlib.Core.List.{List}
use Prim.Native.Nat.{ℕ, ◌+◌, ◌*◌, ◌≤◌}
use lib.IntN.{ℤ}
use Rattle.lists.specs.Lists.{at, chain}
use Rattle.model.specs.Program.{row_text}
use Rattle.output.specs.Put.{Put}
use Rattle.text.proofs.image.put_image.Given as goal

-- the line of each row
abbrev pub rows : List ℤ → ℕ → ℕ → List ℕ
rows image width row = row_text width (λ column. at image (row * width + column))

abbrev pub invariant-loop-row : goal.invariant-loop-row
invariant-loop-row l =
    record {
      written : Put l.o (chain l.row (rows l.image l.width)) l.initial.output l.next l.output;
      upper_bound : l.next ≤ l.o + l.row * (22 * l.width + 1);
    }
