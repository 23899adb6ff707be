use mathlib.Core.Path.{◌≡◌}
use Rattle.integers.specs.Sum.{total}
use Rattle.lists.specs.Lists.{at}
use Rattle.passes.specs.Pairs.{product_at}
use Rattle.passes.proofs.sums.product_run.Given as goal

abbrev pub invariant-loop-j : goal.invariant-loop-j
invariant-loop-j l = l.sum ≡ total l.j (product_at (at l.flow) (at l.values.first.now) (at l.values.second.now))
