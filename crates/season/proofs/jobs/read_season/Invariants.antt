use Rattle.std.proofs.Common.{length}
use Rattle.stream.specs.Jobs.{lent_in}
use Rattle.season.specs.Jobs.{left}
use Rattle.season.proofs.Loop.{SameLengths, Invariant, Taken}
use Rattle.season.proofs.jobs.read_season.Given as goal

abbrev pub invariant-loop-next : goal.invariant-loop-next
invariant-loop-next g l =
    (k : Invariant (lent_in (length l.fn.samples) (length l.fn.weights) (length l.fn.flow)) l.buffer l.s)
    × SameLengths l.fn.buffer l.fn.samples l.fn.weights l.fn.flow l.fn.image l.fn.work l.buffer l.samples l.weights l.flow l.image l.work
    × Taken (g.R.Read.remaining l.fn.stdin) (g.R.Read.remaining l.stdin) k.input l.s.window

abbrev pub decreases-loop-next : goal.decreases-loop-next
decreases-loop-next g l = left l.s
