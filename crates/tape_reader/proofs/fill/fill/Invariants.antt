use Prim.Native.Nat.{◌+◌, ◌*◌}
use Rattle.lists.proofs.Fill.{Filling}
use Rattle.tape_reader.proofs.fill.fill.Given as goal

abbrev pub invariant-loop-j : goal.invariant-loop-j
invariant-loop-j g l = Filling (λ j. g.S.Section.number l.tape (l.fn.records.start + g.S.Section.LENGTH * j)) l.initial.buffer l.j l.buffer
