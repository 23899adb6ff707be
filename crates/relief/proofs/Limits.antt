-- The text by the length of the input. Assumes nothing.
use mathlib.Core.Bool.{false}
use mathlib.Core.Path.{◌≡◌, refl}
use mathlib.Core.List.{List}
use Prim.Native.Nat.{ℕ, ◌≤◌, ◌<◌}
use lib.ListN.{length}
use borrow.Author.Tests.{lt-ltb, le-ltb}
use Rattle.model.specs.Calls.{refusal}
use Rattle.model.specs.Tape.{parse}
use Rattle.model.specs.Program.{refusal_text, read_text, tables, program_text}

module _ (input : List ℕ) where
  pub too_long : 65536 < length input → refusal_text (refusal 17 0) ≡ program_text input
  unfolding program_text
  too_long h = rw (lt-ltb 65536 (length input) h, program_text) refl

  pub not-too_long : length input ≤ 65536 → read_text (parse input (tables false)) ≡ program_text input
  unfolding program_text
  not-too_long h = rw (le-ltb 65536 (length input) h, program_text) refl
