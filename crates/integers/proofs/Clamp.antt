-- The clamp: its three cases, its bounds, that it is the projection onto the interval, that it scales, and that a clamped
-- step goes toward where it aims and no further.
use mathlib.Core.Path.{◌≡◌}
use mathlib.Core.Logic.{inl, inr}
use Prim.Native.Nat.{ℕ, zero, suc, ◌≤◌}
use native.Mathlib.Nat.{le_refl}
use lib.IntN.{ℤ, pos, nat_abs, neg_ℤ, ◌+ℤ◌, ◌-ℤ◌, ◌*ℤ◌, zero-*ℤ}
use lib.Signed.{◌≤ℤ◌, ◌<ℤ◌}
use Rattle.integers.specs.Whole.{clamp}
use Rattle.integers.proofs.Parts.{parts, whole, by-≤, of-≤}
use Rattle.integers.proofs.Order.{≤ℤ-trans, ≤ℤ-total, <ℤ→≤ℤ, true-lt_z, false-lt_z, *ℤ-gaps, *ℤ-mono, *ℤ-strict, 0≤pos, 0<pos}
use Rattle.integers.proofs.Absolute.{nat_abs-neg, bounds→nat_abs, nat_abs→lower, nat_abs→upper}
use Rattle.integers.proofs.Between.{between_nat_abs}

-- ---- the three cases

module _ (lo hi z : ℤ) where
  pub clamp-below : z <ℤ lo → clamp lo hi z ≡ lo
  unfolding clamp
  clamp-below h = rw (true-lt_z h)

  pub clamp-above : lo ≤ℤ z → hi <ℤ z → clamp lo hi z ≡ hi
  unfolding clamp
  clamp-above h k = rw (false-lt_z h, true-lt_z k)

  pub clamp-inside : lo ≤ℤ z → z ≤ℤ hi → clamp lo hi z ≡ z
  unfolding clamp
  clamp-inside h k = rw (false-lt_z h, false-lt_z k)

-- where z lies, and what its clamped value x is there
pub data Place (lo hi z x : ℤ) : Type 0 where
  below : z <ℤ lo → x ≡ lo → Place lo hi z x
  above : lo ≤ℤ z → hi <ℤ z → x ≡ hi → Place lo hi z x
  inside : lo ≤ℤ z → z ≤ℤ hi → x ≡ z → Place lo hi z x

pub clamp-place : (lo hi z : ℤ) → Place lo hi z (clamp lo hi z)
clamp-place lo hi z =
    elim (≤ℤ-total lo z) [
      | inl h ↦ elim (≤ℤ-total z hi) [ inl k ↦ inside h k (clamp-inside lo hi z h k) | inr k ↦ above h k (clamp-above lo hi z h k) ]
      | inr h ↦ below h (clamp-below lo hi z h)
    ]

-- ---- what holds of any x that is z clamped

module _ {lo hi z x : ℤ} where
  place-≥ : lo ≤ℤ hi → Place lo hi z x → lo ≤ℤ x
  place-≥ o (below h e) = by-≤ (search parts depth 12) (omega whole)
  place-≥ o (above h k e) = by-≤ (search parts depth 12) (omega whole)
  place-≥ o (inside h k e) = by-≤ (search parts depth 12) (omega whole)

  place-≤ : lo ≤ℤ hi → Place lo hi z x → x ≤ℤ hi
  place-≤ o (below h e) = by-≤ (search parts depth 12) (omega whole)
  place-≤ o (above h k e) = by-≤ (search parts depth 12) (omega whole)
  place-≤ o (inside h k e) = by-≤ (search parts depth 12) (omega whole)

  place-toward : {y : ℤ} → lo ≤ℤ y → y ≤ℤ hi → Place lo hi z x → pos 0 ≤ℤ ((y -ℤ x) *ℤ (x -ℤ z))
  place-toward l u (below h e) = rw e (*ℤ-gaps l (<ℤ→≤ℤ h))
  place-toward l u (above h k e) = rw e (by-≤ (search parts depth 12) (omega (whole, of-≤ (*ℤ-gaps u (<ℤ→≤ℤ k)) (search parts depth 12))))
  place-toward l u (inside h k e) = rw e (by-≤ (search parts depth 12) (omega whole))

  place-scale : (k : ℕ) → Place lo hi z x → clamp (pos k *ℤ lo) (pos k *ℤ hi) (pos k *ℤ z) ≡ pos k *ℤ x
  place-scale zero p = rw (zero-*ℤ lo, zero-*ℤ hi, zero-*ℤ z, zero-*ℤ x) (clamp-inside _ _ _ (0≤pos 0) (0≤pos 0))
  place-scale (suc k) (below h e) = rw e (clamp-below _ _ _ (*ℤ-strict (0<pos k) h))
  place-scale (suc k) (above h l e) = rw e (clamp-above _ _ _ (*ℤ-mono (0≤pos (suc k)) h) (*ℤ-strict (0<pos k) l))
  place-scale (suc k) (inside h l e) = rw e (clamp-inside _ _ _ (*ℤ-mono (0≤pos (suc k)) h) (*ℤ-mono (0≤pos (suc k)) l))

-- ---- the laws

module _ (lo hi z : ℤ) where
  pub clamp-≥ : lo ≤ℤ hi → lo ≤ℤ clamp lo hi z
  clamp-≥ o = place-≥ o (clamp-place lo hi z)

  pub clamp-≤ : lo ≤ℤ hi → clamp lo hi z ≤ℤ hi
  clamp-≤ o = place-≤ o (clamp-place lo hi z)

  -- x = clamp lo hi z is the point of the interval next to z: seen from x, no point y of it lies on the side of z
  pub clamp-variational : {y : ℤ} → lo ≤ℤ y → y ≤ℤ hi → pos 0 ≤ℤ ((y -ℤ clamp lo hi z) *ℤ (clamp lo hi z -ℤ z))
  clamp-variational l u = place-toward l u (clamp-place lo hi z)

  pub clamp-scale : (k : ℕ) → clamp (pos k *ℤ lo) (pos k *ℤ hi) (pos k *ℤ z) ≡ pos k *ℤ clamp lo hi z
  clamp-scale k = place-scale k (clamp-place lo hi z)

  -- between ends that are at most k in size
  pub clamp-size : {k : ℕ} → nat_abs lo ≤ k → nat_abs hi ≤ k → nat_abs (clamp lo hi z) ≤ k
  clamp-size {k} l u = by (clamp-place lo hi z)
    where
      by : {x : ℤ} → Place lo hi z x → nat_abs x ≤ k
      by (below h e) = rw e l
      by (above h i e) = rw e u
      by (inside h i e) = rw e (bounds→nat_abs z (≤ℤ-trans (nat_abs→lower lo l) h) (≤ℤ-trans i (nat_abs→upper hi u)))

pub nat_abs-clamp : (w : ℕ) (z : ℤ) → nat_abs (clamp (neg_ℤ (pos w)) (pos w) z) ≤ w
nat_abs-clamp w z = clamp-size (neg_ℤ (pos w)) (pos w) z (rw nat_abs-neg (le_refl w)) (le_refl w)

-- ---- a step d from f within the interval, clamped: the change lies between 0 and d

module _ (lo hi f d : ℤ) (l : lo ≤ℤ f) (u : f ≤ℤ hi) where
  pub clamp-step : pos 0 ≤ℤ ((clamp lo hi (f +ℤ d) -ℤ f) *ℤ (d -ℤ (clamp lo hi (f +ℤ d) -ℤ f)))
  clamp-step = turned (clamp lo hi (f +ℤ d)) (clamp-variational lo hi (f +ℤ d) l u)
    where
      turned : (g : ℤ) → pos 0 ≤ℤ ((f -ℤ g) *ℤ (g -ℤ (f +ℤ d))) → pos 0 ≤ℤ ((g -ℤ f) *ℤ (d -ℤ (g -ℤ f)))
      turned g k = by-≤ (search parts depth 12) (omega (whole, of-≤ k (search parts depth 12)))

  pub nat_abs-clamp-step : nat_abs (clamp lo hi (f +ℤ d) -ℤ f) ≤ nat_abs d
  nat_abs-clamp-step = between_nat_abs (clamp lo hi (f +ℤ d) -ℤ f) d clamp-step
