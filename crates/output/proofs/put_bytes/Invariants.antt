use Prim.Native.Nat.{◌≤◌}
use lib.ListN.{length, take}
use Rattle.output.specs.Put.{Put}
use Rattle.output.proofs.put_bytes.Given as goal

abbrev pub invariant-loop-i : goal.invariant-loop-i
invariant-loop-i l = (l.i ≤ length l.bytes) × Put l.o (take l.i l.bytes) l.initial.output l.next l.output
