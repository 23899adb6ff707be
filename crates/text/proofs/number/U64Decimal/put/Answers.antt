use mathlib.Core.Path.{◌∙◌}
use Rattle.output.proofs.Puts.{put_as}
use Rattle.text.proofs.Digits.{digits_decimal}
use Rattle.text.proofs.number.U64Decimal.put.Goals as goal

pub returns-clause-put : goal.returns-clause-put
returns-clause-put c =
    put_as (c.decimal-k.ensures.digits ∙ digits_decimal c.decimal-k.result c.args.self c.decimal-k.ensures.len) c.put_bytes.ensures
