-- What has been read before the reader's offset, of the tape that it holds; the measure is the number of bytes from there on.
use mathlib.Core.Path.{◌≡◌}
use Prim.Native.Nat.{◌-◌}
use lib.ListN.{length}
use Rattle.tape_reader.specs.Scan.{Reached}
use Rattle.tape_reader.proofs.scan.scan_tape.Given as goal

abbrev pub invariant-records : goal.invariant-records
invariant-records l = (l.reader.tape.now ≡ l.tape) × Reached l.tape l.lent l.state l.reader.at

abbrev pub decreases-records : goal.decreases-records
decreases-records l = length l.tape - l.reader.at
