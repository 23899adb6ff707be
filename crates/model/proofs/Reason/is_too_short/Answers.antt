-- every other reason has another number
use mathlib.Core.Path.{◌≡◌, refl}
use mathlib.Core.Bool.{false}
use Prim.Native.Nat.{ℕ}
use native.Mathlib.Omega.{arith}
use borrow.Author.Rules.{rules}
use Rattle.model.specs.declared.Reason.{Reason}
use Rattle.model.specs.declared.Reason.TheVariants.{Size, Weight, Levels, SampleCount, FlowCount, ImageCount, WorkCount, BeyondWeight, OutsideBox, QuickRounds, UnknownKind, CutRecord, OutOfOrder, TrailingByte, ShortBuffer, LongInput, MissingRecord, WeightCount, Other}
use Rattle.model.specs.Verdict.{number_of}
use Rattle.model.specs.Rows.{has_row}
use Rattle.model.specs.Tape.{too_short}
use Rattle.model.proofs.Reason.is_too_short.Goals as goal

-- a number that no row has is neither 13 nor 18
no_row : (number : ℕ) → has_row number ≡ false → false ≡ too_short number
no_row number none = grind arith

others : (r : Reason) → (r ≡ CutRecord → ⊥) → (r ≡ MissingRecord → ⊥) → false ≡ too_short (number_of r)
others Size a b = refl
others Weight a b = refl
others Levels a b = refl
others SampleCount a b = refl
others FlowCount a b = refl
others ImageCount a b = refl
others WorkCount a b = refl
others BeyondWeight a b = refl
others OutsideBox a b = refl
others QuickRounds a b = refl
others UnknownKind a b = refl
others CutRecord a b = absurd (a refl)
others OutOfOrder a b = refl
others TrailingByte a b = refl
others ShortBuffer a b = refl
others LongInput a b = refl
others MissingRecord a b = absurd (b refl)
others WeightCount a b = refl
others (Other other) a b = no_row other.number other.no_row

pub returns-in_default : goal.returns-in_default
returns-in_default c = others c.args.self (search rules) (search rules)
