use native.Mathlib.Omega.{arith}
use borrow.Author.Rules.{rules}
use mathlib.Core.Path.{◌≡◌, ap}
use lib.IntN.{ℤ}
use mir.Syntax.{w64}
use mir.Val.{to_z, of_z}
use Rattle.model.specs.Text.{ascii, signed_decimal}
use Rattle.model.specs.Program.{field}
use Rattle.output.proofs.Puts.{put_as, put_within}
use Rattle.text.proofs.line.put_numbers.Goals as goal

pub returns-clause-put : goal.returns-clause-put
unfolding ascii signed_decimal
returns-clause-put c =
    let read : to_z w64 (of_z w64 c.args.figures.floor) ≡ c.args.figures.floor = search rules in
    put_within
    (put_within
    (put_within (put_within c.put_field-first.ensures.put c.put_field-second.ensures.put (omega arith))
    (put_as (ap (λ (z : ℤ). field (signed_decimal z)) read) c.put_field-third.ensures.put) (omega arith))
    c.put_field-fourth.ensures.put (omega arith))
    c.put_byte.ensures (omega arith)
