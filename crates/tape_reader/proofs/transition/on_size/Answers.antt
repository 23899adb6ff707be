use borrow.Author.Rules.{rules}
use Rattle.model.specs.Verdict.{first_refusal}
use Rattle.tape_reader.proofs.transition.on_size.Goals as goal

pub returns : goal.returns
unfolding first_refusal
returns c = search rules
