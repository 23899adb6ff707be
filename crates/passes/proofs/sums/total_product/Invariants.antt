use Rattle.lists.specs.Lists.{at}
use Rattle.passes.specs.Pairs.{product_at, first_value, second_value}
use Rattle.passes.proofs.Runs.{Summed}
use Rattle.passes.proofs.sums.total_product.Given as goal

abbrev pub invariant-loop-k : goal.invariant-loop-k
invariant-loop-k l = Summed l.s (product_at (at l.flow) (first_value l.s l.image) (second_value l.s l.image)) l.k l.sum
