use borrow.Author.Rules.{rules}
use Rattle.model.specs.Tape.{kinds}
use Rattle.tape_records.proofs.parse.layout_of.Goals as goal

pub returns-in-2 : goal.returns-in-2
unfolding kinds
returns-in-2 c = rw c.in-2.is (search rules)

pub returns-in-4 : goal.returns-in-4
unfolding kinds
returns-in-4 c = rw c.in-4.is (search rules)

pub returns-in-6 : goal.returns-in-6
unfolding kinds
returns-in-6 c = rw c.in-6.is (search rules)
