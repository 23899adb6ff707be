-- What quick rounds keep, whatever share of a fall their steps add: P within the limit of weights, and R within three times
-- that. Assumes nothing.
use mathlib.Core.Path.{subst}
use mathlib.Core.List.{List}
use Prim.Native.Nat.{ℕ, zero, suc, ◌*◌, zero-le}
use lib.IntN.{ℤ, pos}
use lib.ListN.{replicate}
use Rattle.model.specs.declared.Terms.{Terms}
use Rattle.lists.specs.Lists.{at}
use Rattle.model.specs.Problem.{pair_count}
use Rattle.model.specs.Grid.{limit, grid}
use Rattle.model.specs.Rounds.{step, next_momentum, Quick, quick_start, quick_round, quick_rounds}
use Rattle.model.specs.Accepted.{TermsAllowed, WeightsAllowed}
use Rattle.lists.proofs.Tables.{table-constant}
use Rattle.model.proofs.Root.{momentum_least}
use Rattle.passes.specs.Limits.{Within}
use Rattle.passes.proofs.Elements.{within-table}
use Rattle.momentum.proofs.Bounds.{extrapolate-bound, momentum-low}
use Rattle.solver.proofs.Passes.{step-within}

zeros_within : (n w : ℕ) → Within w (replicate n (pos 0))
zeros_within n w = subst (Within w) (table-constant n (pos 0)) (within-table n (λ _. pos 0) (λ _ _. zero-le))

module _ (share : ℤ → ℤ) (t : Terms) (samples : List ℕ) (weights : List ℤ) (limits : TermsAllowed t) (own : WeightsAllowed t weights) where
  pub iterate-within : (k : ℕ) → Within limit.weight (quick_rounds share (grid t samples weights) k).iterate
  unfolding quick_rounds quick_start quick_round
  iterate-within zero = zeros_within (pair_count (grid t samples weights)) limit.weight
  iterate-within (suc k) = step-within t samples weights limits own share (quick_rounds share (grid t samples weights) k).extrapolated

  pub ahead_within : (k : ℕ) → Within (3 * limit.weight) (quick_rounds share (grid t samples weights) k).extrapolated
  unfolding quick_rounds quick_start quick_round
  ahead_within zero = zeros_within (pair_count (grid t samples weights)) (3 * limit.weight)
  ahead_within (suc k) =
      let s : Quick = quick_rounds share (grid t samples weights) k in
      let low = momentum-low share (grid t samples weights) k in
      within-table (pair_count (grid t samples weights)) _ (λ j _.
      extrapolate-bound s.momentum (next_momentum s.momentum) limit.weight (at s.iterate j)
      (at (step share (grid t samples weights) s.extrapolated) j) low (momentum_least s.momentum low) (iterate-within k j)
      (step-within t samples weights limits own share s.extrapolated j))
