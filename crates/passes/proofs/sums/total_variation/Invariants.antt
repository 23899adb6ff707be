use lib.IntN.{pos}
use Rattle.passes.specs.Pairs.{weight_at, variation_at, first_value, second_value}
use Rattle.passes.proofs.Runs.{Summed}
use Rattle.passes.proofs.sums.total_variation.Given as goal

abbrev pub invariant-loop-k : goal.invariant-loop-k
invariant-loop-k l = Summed l.s (variation_at (weight_at l.each.all l.each.own.now) (first_value l.s l.image) (second_value l.s l.image)) l.k (pos l.sum)
