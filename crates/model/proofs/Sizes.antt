-- A step, and every quick round's P and R, have a number for each pair. Assumes nothing.
use mathlib.Core.Path.{◌≡◌}
use mathlib.Core.List.{List}
use Prim.Native.Nat.{ℕ, zero, suc}
use lib.IntN.{ℤ, pos}
use lib.ListN.{length, length-replicate}
use Rattle.lists.specs.Lists.{at}
use Rattle.model.specs.Problem.{Problem, pair_count}
use Rattle.model.specs.Rounds.{stepped, step, Quick, quick_start, quick_round, quick_rounds}
use Rattle.lists.proofs.Tables.{length-table}

module _ (share : ℤ → ℤ) (p : Problem) where
  pub step-size : (flow : List ℤ) → length (step share p flow) ≡ pair_count p
  unfolding step
  step-size flow = length-table (pair_count p) (stepped share p (at flow))

  -- a round
  module _ (s : Quick) where
    pub round_iterate : length (quick_round share p s).iterate ≡ pair_count p
    unfolding quick_round
    round_iterate = step-size s.extrapolated

    pub round_ahead : length (quick_round share p s).extrapolated ≡ pair_count p
    unfolding quick_round
    round_ahead = length-table (pair_count p) _

  -- k rounds
  pub iterate-size : (k : ℕ) → length (quick_rounds share p k).iterate ≡ pair_count p
  unfolding quick_rounds quick_start
  iterate-size zero = length-replicate (pair_count p) (pos 0)
  iterate-size (suc k) = round_iterate (quick_rounds share p k)

  pub ahead-size : (k : ℕ) → length (quick_rounds share p k).extrapolated ≡ pair_count p
  unfolding quick_rounds quick_start
  ahead-size zero = length-replicate (pair_count p) (pos 0)
  ahead-size (suc k) = round_ahead (quick_rounds share p k)
