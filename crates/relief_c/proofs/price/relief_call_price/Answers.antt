use borrow.Author.Rules.{rules}
use mathlib.Core.Path.{◌≡◌}
use mir.Syntax.{w64}
use mir.Val.{to_z, of_z}
use Rattle.relief_c.proofs.PlainNumbers.{same}
use Rattle.relief_c.proofs.price.relief_call_price.Goals as goal

pub returns-clause-answer_numbers : goal.returns-clause-answer_numbers
returns-clause-answer_numbers c =
    let n = c.of-n in
    let bits : to_z w64 (of_z w64 n.result.floor) ≡ n.result.floor = search rules in
    same c.price.ensures.result_value bits n.ensures
