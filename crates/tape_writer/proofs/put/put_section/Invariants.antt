use Rattle.model.specs.Tape.{encoded}
use Rattle.tape_writer.proofs.Puts.{Written}
use Rattle.tape_writer.proofs.put.put_section.Given as goal

abbrev pub invariant-loop-number : goal.invariant-loop-number
invariant-loop-number g l = Written (λ number. encoded (g.S.Section.entry number)) l.numbers l.o l.initial.output l.number-index l.next l.output
