use mathlib.Core.Path.{◌≡◌}
use lib.IntN.{pos}
use Rattle.integers.specs.Sum.{total}
use Rattle.lists.specs.Lists.{at}
use Rattle.passes.specs.Pairs.{weight_at, variation_at}
use Rattle.passes.proofs.sums.variation_run.Given as goal

abbrev pub invariant-loop-j : goal.invariant-loop-j
invariant-loop-j l = pos l.sum ≡ total l.j (variation_at (weight_at l.weights.all l.weights.own.now) (at l.values.first.now) (at l.values.second.now))
