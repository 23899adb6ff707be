use mathlib.Core.Path.{subst}
use Rattle.model.specs.Plain.{WriteNumbers}
use Rattle.relief_c.proofs.write.relief_call_write.Goals as goal

pub returns-clause-write_numbers : goal.returns-clause-write_numbers
returns-clause-write_numbers c =
    let n = c.of-n in
    subst (WriteNumbers n.result.number n.result.place n.result.count) c.write.ensures.result_value n.ensures
