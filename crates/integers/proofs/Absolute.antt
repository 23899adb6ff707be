-- The absolute value: of sums and products, what a bound on it says, and the pair law, by which a flow within its weight
-- pulls at most as hard as the weight.
use mathlib.Core.Path.{◌≡◌, refl, sym, ap, ap₂, ◌∙◌}
use Prim.Native.Nat.{ℕ, zero, suc, ◌+◌, ◌*◌, ◌≤◌}
use native.Mathlib.Nat.{mul-le-mul_right}
use lib.IntN.{ℤ, pos, negsuc, nat_abs, neg_ℤ, ◌+ℤ◌, ◌-ℤ◌, ◌*ℤ◌}
use lib.Signed.{◌≤ℤ◌}
use Rattle.integers.specs.Whole.{square, abs}
use Rattle.integers.proofs.Parts.{parts, whole, by-≡, by-≤, of-≤, nat_abs-parts}
use Rattle.integers.proofs.Ring.{*ℤ-neg_ℤ, neg_ℤ-*ℤ}
use Rattle.integers.proofs.Order.{≤ℤ-trans, ≤→pos, pos-nat_abs-nonneg}

pub nat_abs-neg : (x : ℤ) → nat_abs (neg_ℤ x) ≡ nat_abs x
nat_abs-neg (pos zero) = refl
nat_abs-neg (pos (suc n)) = refl
nat_abs-neg (negsuc n) = refl

pub nat_abs-product : (x y : ℤ) → nat_abs (x *ℤ y) ≡ nat_abs x * nat_abs y
nat_abs-product (pos a) (pos b) = refl
nat_abs-product (pos a) (negsuc b) = nat_abs-neg (pos (a * suc b))
nat_abs-product (negsuc a) (pos b) = nat_abs-neg (pos (suc a * b))
nat_abs-product (negsuc a) (negsuc b) = refl

pub square-nat_abs : (x : ℤ) → square x ≡ pos (nat_abs x * nat_abs x)
square-nat_abs (pos n) = refl
square-nat_abs (negsuc n) = refl

pub nat_abs-square : (x : ℤ) → nat_abs (square x) ≡ nat_abs x * nat_abs x
nat_abs-square x = nat_abs-product x x

pub abs-nonpos : {x : ℤ} → x ≤ℤ pos 0 → abs x ≡ neg_ℤ x
abs-nonpos {x = pos n} h = by-≡ (search parts depth 12) (omega whole)
abs-nonpos {x = negsuc n} h = refl

-- ---- a bound on the absolute value is a bound on both sides

pub ≤-abs : (x : ℤ) → x ≤ℤ abs x
≤-abs x = by-≤ (search parts depth 12) (omega (whole, nat_abs-parts x))

pub neg-≤-abs : (x : ℤ) → neg_ℤ x ≤ℤ abs x
neg-≤-abs x = by-≤ (search parts depth 12) (omega (whole, nat_abs-parts x))

module _ (x : ℤ) {k : ℕ} where
  pub nat_abs→upper : nat_abs x ≤ k → x ≤ℤ pos k
  nat_abs→upper h = by-≤ (search parts depth 12) (omega (whole, nat_abs-parts x))

  pub nat_abs→lower : nat_abs x ≤ k → neg_ℤ (pos k) ≤ℤ x
  nat_abs→lower h = by-≤ (search parts depth 12) (omega (whole, nat_abs-parts x))

pub bounds→nat_abs : (x : ℤ) {k : ℕ} → neg_ℤ (pos k) ≤ℤ x → x ≤ℤ pos k → nat_abs x ≤ k
bounds→nat_abs (pos n) h l = omega whole
bounds→nat_abs (negsuc n) h l = omega (whole, of-≤ h (search parts depth 12))

-- a number from 0 to k
pub nat_abs-upto : {x : ℤ} {k : ℕ} → pos 0 ≤ℤ x → x ≤ℤ pos k → nat_abs x ≤ k
nat_abs-upto {x} n u = bounds→nat_abs x (by-≤ (search parts depth 12) (omega (whole, of-≤ n (search parts depth 12)))) u

pub nat_abs-sum : (x y : ℤ) → nat_abs (x +ℤ y) ≤ nat_abs x + nat_abs y
nat_abs-sum x y =
    bounds→nat_abs (x +ℤ y)
    (by-≤ (search parts depth 12) (omega (whole, nat_abs-parts x, nat_abs-parts y)))
    (by-≤ (search parts depth 12) (omega (whole, nat_abs-parts x, nat_abs-parts y)))

pub nat_abs-difference : (x y : ℤ) → nat_abs (x -ℤ y) ≤ nat_abs x + nat_abs y
nat_abs-difference x y = rw (← nat_abs-neg y) (nat_abs-sum x (neg_ℤ y))

-- two numbers of 0 .. k are at most k apart
pub nat_abs-within : {x y : ℤ} {k : ℕ} → pos 0 ≤ℤ x → x ≤ℤ pos k → pos 0 ≤ℤ y → y ≤ℤ pos k → nat_abs (x -ℤ y) ≤ k
nat_abs-within {x} {y} x₀ x₁ y₀ y₁ =
    bounds→nat_abs (x -ℤ y) (by-≤ (search parts depth 12) (omega whole)) (by-≤ (search parts depth 12) (omega whole))

-- ---- the pair law

module _ (f d : ℤ) (w : ℕ) where
  pub pair-≤ : nat_abs f ≤ w → (f *ℤ d) ≤ℤ (pos w *ℤ abs d)
  pair-≤ h = ≤ℤ-trans (≤-abs (f *ℤ d)) (≤→pos (rw nat_abs-product (mul-le-mul_right (nat_abs d) h)))

  -- and just as hard where the flow is at that end of its range to which the difference points
  pub pair-top : f ≡ pos w → pos 0 ≤ℤ d → f *ℤ d ≡ pos w *ℤ abs d
  pair-top e h = ap₂ ◌*ℤ◌ e (sym (pos-nat_abs-nonneg h))

  pub pair-bottom : f ≡ neg_ℤ (pos w) → d ≤ℤ pos 0 → f *ℤ d ≡ pos w *ℤ abs d
  pair-bottom e h = rw e (neg_ℤ-*ℤ (pos w) d ∙ sym (*ℤ-neg_ℤ (pos w) d) ∙ ap (λ t. pos w *ℤ t) (sym (abs-nonpos h)))
