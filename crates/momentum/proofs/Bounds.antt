-- Quick rounds stay within bounds: T from 65,536 to 65,536 × (rounds + 1), and R within three times the weights, though
-- it may pass them once. Assumes nothing.
use mathlib.Core.Path.{◌≡◌, sym, ap, ◌∙◌, subst}
use Prim.Native.Nat.{ℕ, zero, suc, ◌+◌, ◌-◌, ◌*◌, ◌≤◌, ◌<◌}
use native.Mathlib.Nat.{div-le_of_le-mul, mul-le-mul_right, le_trans}
use native.Mathlib.Omega.{arith}
use lib.IntN.{ℤ, pos, nat_abs, ◌+ℤ◌, ◌-ℤ◌, ◌*ℤ◌}
use Rattle.integers.specs.Whole.{quotient}
use Rattle.integers.proofs.Parts.{parts, whole, by-≡}
use Rattle.integers.proofs.Absolute.{nat_abs-sum, nat_abs-difference, nat_abs-product}
use Rattle.integers.proofs.Quotient.{nat_abs-quotient}
use Rattle.model.specs.Problem.{Problem}
use Rattle.model.specs.Rounds.{extrapolate, quick_start, quick_round, quick_rounds}
use Rattle.model.proofs.Root.{momentum-grows, momentum_least}
use Rattle.momentum.specs.Reciprocal.{Reciprocal}
use Rattle.momentum.proofs.Reciprocals.{quotient-exact}

pub excess : (t : ℕ) → 65536 ≤ t → pos t -ℤ pos 65536 ≡ pos (t - 65536)
excess t h = by-≡ (search parts depth 12) (omega whole)

-- R at one pair: within three times what bounds the two flows
pub extrapolate-bound : (t next w : ℕ) (earlier now : ℤ) → 65536 ≤ t → t ≤ next → nat_abs earlier ≤ w → nat_abs now ≤ w →
    nat_abs (extrapolate t next earlier now) ≤ 3 * w
unfolding extrapolate
extrapolate-bound t next w earlier now h l e n =
    let x : ℤ = now -ℤ earlier in
    let a : ℤ = pos t -ℤ pos 65536 in
    let d : nat_abs x ≤ 2 * w = omega (arith, nat_abs-difference now earlier) in
    let q : nat_abs (quotient (a *ℤ x) (pos next)) ≤ nat_abs x =
    subst (λ (k : ℕ). k ≤ nat_abs x) (sym (nat_abs-quotient (a *ℤ x) next))
    (div-le_of_le-mul next (subst (λ (k : ℕ). k ≤ next * nat_abs x) (sym (nat_abs-product a x))
    (mul-le-mul_right (nat_abs x) (subst (λ (z : ℤ). nat_abs z ≤ next) (sym (excess t h)) (omega arith)))))
    in
    omega (arith, nat_abs-sum now (quotient (a *ℤ x) (pos next)))

-- and by the reciprocal of its quotient
pub extrapolate-is : (t next m : ℕ) (earlier now : ℤ) → 65536 ≤ t → zero < next → Reciprocal (t - 65536) next m →
    nat_abs (now -ℤ earlier) * next < 70368744177664 →
    now +ℤ quotient ((now -ℤ earlier) *ℤ pos m) (pos 70368744177664) ≡ extrapolate t next earlier now
unfolding extrapolate
extrapolate-is t next m earlier now h p r small =
    ap (λ (z : ℤ). now +ℤ z)
    (quotient-exact (t - 65536) next m (now -ℤ earlier) p r small
    ∙ ap (λ (z : ℤ). quotient (z *ℤ (now -ℤ earlier)) (pos next)) (sym (excess t h)))

module _ (share : ℤ → ℤ) (p : Problem) where
  pub momentum-low : (k : ℕ) → 65536 ≤ (quick_rounds share p k).momentum
  unfolding quick_rounds quick_start quick_round
  momentum-low zero = omega arith
  momentum-low (suc k) = le_trans (momentum-low k) (momentum_least (quick_rounds share p k).momentum (momentum-low k))

  pub momentum-high : (k : ℕ) → (quick_rounds share p k).momentum ≤ 65536 * (k + 1)
  unfolding quick_rounds quick_start quick_round
  momentum-high zero = omega arith
  momentum-high (suc k) = omega (arith, momentum-high k, momentum-grows (quick_rounds share p k).momentum)
