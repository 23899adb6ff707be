use native.Mathlib.Omega.{arith}
use mathlib.Core.Path.{ap, ◌∙◌}
use mathlib.Core.List.{◌∷◌}
use Prim.Native.Nat.{ℕ}
use lib.Dec.{lit<}
use lib.IntN.{pos, nat_abs}
use mir.Syntax.{w64}
use mir.Val.{SFits}
use mir.ValLaws.{to_z-of_z}
use Rattle.integers.proofs.Machine.{<-read, ≥-read, fits}
use Rattle.model.specs.Text.{decimal}
use Rattle.output.proofs.Puts.{put_as, put_within}
use Rattle.text.proofs.Digits.{below_zero, from_zero}
use Rattle.text.proofs.number.I64Decimal.put.Goals as goal

zero-fits : SFits w64 (pos 0)
zero-fits = fits w64 (lit< tt)

pub returns-then-self-lt0-clause-put : goal.returns-then-self-lt0-clause-put
returns-then-self-lt0-clause-put c =
    put_as
    (ap (λ (n : ℕ). 45 ∷ decimal n) (c.unsigned_abs-magnitude.ensures.value ∙ ap nat_abs (to_z-of_z w64 _ c.ranges.self))
    ∙ below_zero c.args.self (<-read w64 c.ranges.self zero-fits c.if-self-lt0.true))
    (put_within c.put_byte-next.ensures c.put.ensures.put (omega arith))

pub returns-else-self-lt0-clause-put : goal.returns-else-self-lt0-clause-put
returns-else-self-lt0-clause-put c =
    put_as
    (ap decimal (c.unsigned_abs-magnitude.ensures.value ∙ ap nat_abs (to_z-of_z w64 _ c.ranges.self))
    ∙ from_zero c.args.self (≥-read w64 c.ranges.self zero-fits c.if-self-lt0.false))
    c.put-else-self-lt0.ensures.put
