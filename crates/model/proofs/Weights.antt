-- The weights of an allowed job's pairs: each is a number of the weight buffer, or the terms' weight, and no larger than
-- 65,280. Assumes nothing.
use mathlib.Core.Path.{◌≡◌, ap, ◌∙◌}
use mathlib.Core.List.{List, []}
use Prim.Native.Nat.{ℕ, zero, suc, ◌*◌, ◌≤◌}
use native.Mathlib.Omega.{arith}
use lib.IntN.{ℤ, pos, nat_abs, ◌+ℤ◌}
use lib.ListN.{get_or}
use lib.Signed.{◌≤ℤ◌}
use Rattle.integers.specs.Sum.{total}
use Rattle.integers.proofs.Order.{0≤pos, pos-nat_abs-nonneg}
use Rattle.integers.proofs.Absolute.{nat_abs-upto}
use Rattle.model.specs.Problem.{weight_sum}
use Rattle.model.specs.Grid.{limit, Terms, weight_of, grid}
use Rattle.model.specs.Calls.{pairs_of}
use Rattle.model.specs.Accepted.{WeightsAllowed}
use Rattle.lists.proofs.Tables.{get_or-by}

module _ (t : Terms) (weights : List ℤ) where
  -- the number that stands for pair j's weight
  abbrev pub standing : ℕ → ℤ
  standing j = get_or weights j (pos t.weight)

  module _ (w : WeightsAllowed t weights) where
    -- it is the weight itself
    pub weight_is : (j : ℕ) → pos (weight_of t weights j) ≡ standing j
    unfolding weight_of
    weight_is j =
        pos-nat_abs-nonneg (get_or-by (λ z. pos 0 ≤ℤ z) weights (pos t.weight) (pos 0) (0≤pos t.weight) (λ i l. (w.range i l).0) j)

    pub weight_most : t.weight ≤ limit.weight → (j : ℕ) → weight_of t weights j ≤ limit.weight
    unfolding weight_of
    weight_most h =
        get_or-by (λ z. nat_abs z ≤ limit.weight) weights (pos t.weight) (pos 0) h (λ i l. nat_abs-upto (w.range i l).0 (w.range i l).1)

-- Without a buffer the sum of the weights is weight × pairs
pub uniform_sum : (t : Terms) (samples : List ℕ) → weight_sum (grid t samples []) ≡ pos (t.weight * pairs_of t)
unfolding weight_sum weight_of total
uniform_sum t samples = constant (pairs_of t) t.weight
  where
    constant : (m w : ℕ) → total m (λ _. pos w) ≡ pos (w * m)
    constant zero w = ap pos (omega arith)
    constant (suc m) w = ap (λ (s : ℤ). s +ℤ pos w) (constant m w) ∙ ap pos (omega arith)
