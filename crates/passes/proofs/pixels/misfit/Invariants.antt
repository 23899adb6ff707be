use mathlib.Core.Path.{◌≡◌}
use lib.IntN.{pos}
use Rattle.integers.specs.Sum.{total}
use Rattle.passes.proofs.Totals.{misfit_at}
use Rattle.passes.proofs.pixels.misfit.Given as goal

abbrev pub invariant-loop-i : goal.invariant-loop-i
invariant-loop-i l = pos l.sum ≡ total l.i (misfit_at l.image l.samples)
