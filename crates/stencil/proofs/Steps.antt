-- A stepped number's size. Assumes nothing.
use mathlib.Core.Path.{sym, ap, ◌∙◌, subst}
use Prim.Native.Nat.{◌≤◌}
use native.Mathlib.Nat.{le_of_eq}
use lib.IntN.{ℤ, nat_abs, neg_ℤ, ◌+ℤ◌, ◌-ℤ◌}
use Rattle.integers.proofs.Order.{≤ℤ-trans, neg_ℤ-mono}
use Rattle.integers.proofs.Absolute.{nat_abs-neg, ≤-abs, bounds→nat_abs}
use Rattle.integers.proofs.Clamp.{Place, below, above, inside, clamp-place}
use Rattle.stencil.specs.Pair.{step_value}

-- it is no larger than the weight
pub step-most : (share : ℤ → ℤ) (weight f x y : ℤ) → nat_abs (step_value share weight f x y) ≤ nat_abs weight
unfolding step_value
step-most share weight f x y = by (clamp-place (neg_ℤ weight) weight (f +ℤ share (x -ℤ y)))
  where
    by : {z v : ℤ} → Place (neg_ℤ weight) weight z v → nat_abs v ≤ nat_abs weight
    by (below l e) = le_of_eq (ap nat_abs e ∙ nat_abs-neg weight)
    by (above l k e) = le_of_eq (ap nat_abs e)
    by {z} (inside l k e) =
        subst (λ (v : ℤ). nat_abs v ≤ nat_abs weight) (sym e)
        (bounds→nat_abs z (≤ℤ-trans (neg_ℤ-mono (≤-abs weight)) l) (≤ℤ-trans k (≤-abs weight)))
