-- The line of a row that is lent as a part of the image. Assumes nothing.
use mathlib.Core.Path.{◌≡◌, ap, ◌∙◌}
use mathlib.Core.Bool.{cond}
use mathlib.Core.List.{List, ◌++◌}
use Prim.Native.Nat.{ℕ, ◌+◌, ◌-◌, ◌≤◌}
use native.Mathlib.Omega.{arith}
use lib.Dec.{eqb}
use lib.IntN.{ℤ, pos}
use lib.ListN.{length, take, drop}
use Rattle.lists.specs.Lists.{at}
use Rattle.lists.proofs.Chains.{chain-cong}
use Rattle.lists.proofs.Parts.{part_at, part_length}
use Rattle.model.specs.Text.{ascii, signed_decimal}
use Rattle.model.specs.Program.{field, row_text}

-- a value's text, with a space in front of it but for the first of its row
abbrev value_text : ℕ → ℤ → List ℕ
value_text column value = cond (eqb column 0) (signed_decimal value) (field (signed_decimal value))

module _ (image : List ℤ) (start width : ℕ) (h : start + width ≤ length image) where
  abbrev row : List ℤ
  row = take (start + width - start) (drop start image)

  pub row_size : length row ≡ width
  row_size = part_length start (start + width - start) image (omega arith) ∙ omega arith

  pub row_part : row_text (length row) (at row) ≡ row_text width (λ column. at image (start + column))
  row_part =
      ap (λ (n : ℕ). row_text n (at row)) row_size
      ∙ ap (λ (l : List ℕ). l ++ ascii "\n")
      (chain-cong width (λ column inside. ap (value_text column) (part_at start (start + width - start) image column (pos 0) (omega arith))))
