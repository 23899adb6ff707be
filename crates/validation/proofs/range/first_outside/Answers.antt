use borrow.Author.Rules.{rules}
use Rattle.model.specs.Calls.{first_over, first_beyond}
use Rattle.validation.proofs.range.first_outside.Goals as goal

pub returns : goal.returns
unfolding first_over first_beyond
returns c = c.first_index.ensures _ (λ i b l h. search rules)
