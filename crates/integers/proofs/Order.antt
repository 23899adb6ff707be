-- The order of whole numbers: its laws, how it goes with sum, negation and product, and the tests that decide it.
use mathlib.Core.Path.{◌≡◌, refl, ap}
use mathlib.Core.Logic.{◌⊎◌, inl, inr, ◌≢◌}
use mathlib.Core.Bool.{Bool, true, false, not}
use Prim.Native.Nat.{ℕ, zero, suc, ◌+◌, ◌*◌, ◌≤◌}
use native.Mathlib.Nat.{mul-le-mul_left, le_dest}
use native.Mathlib.Omega.{arith}
use lib.Dec.{T, eqb→eq, eqb_refl}
use lib.IntN.{ℤ, pos, negsuc, nat_abs, neg_ℤ, ◌+ℤ◌, ◌-ℤ◌, ◌*ℤ◌}
use lib.Signed.{le_z, lt_z, ◌≤ℤ◌, ◌<ℤ◌, le_z_yes, lt_z_yes, lt_z_no, pos-nat_abs, yes_non_neg, clash_ℤ}
use Rattle.integers.specs.Whole.{square, same_z}
use Rattle.integers.proofs.Parts.{parts, whole, by-≡, by-≤, by-<, of-≤, of-<}

-- ---- an order

pub ≡→≤ℤ : {a b : ℤ} → a ≡ b → a ≤ℤ b
≡→≤ℤ h = by-≤ (search parts depth 12) (omega whole)

pub <ℤ→≤ℤ : {a b : ℤ} → a <ℤ b → a ≤ℤ b
<ℤ→≤ℤ h = by-≤ (search parts depth 12) (omega whole)

pub ≤ℤ-trans : {a b c : ℤ} → a ≤ℤ b → b ≤ℤ c → a ≤ℤ c
≤ℤ-trans h k = by-≤ (search parts depth 12) (omega whole)

pub ≤ℤ-antisym : {a b : ℤ} → a ≤ℤ b → b ≤ℤ a → a ≡ b
≤ℤ-antisym h k = by-≡ (search parts depth 12) (omega whole)

pub ≤ℤ-total : (a b : ℤ) → a ≤ℤ b ⊎ b <ℤ a
≤ℤ-total a b = go (lt_z b a) lt_z_yes lt_z_no
  where
    go : (t : Bool) → (T t → b <ℤ a) → (T (not t) → a ≤ℤ b) → a ≤ℤ b ⊎ b <ℤ a
    go true f g = inr (f tt)
    go false f g = inl (g tt)

-- ---- sum, difference, negation

pub +ℤ-mono : {a b c d : ℤ} → a ≤ℤ b → c ≤ℤ d → (a +ℤ c) ≤ℤ (b +ℤ d)
+ℤ-mono h k = by-≤ (search parts depth 12) (omega whole)

pub -ℤ-mono : {a b c d : ℤ} → a ≤ℤ b → d ≤ℤ c → (a -ℤ c) ≤ℤ (b -ℤ d)
-ℤ-mono h k = by-≤ (search parts depth 12) (omega whole)

pub neg_ℤ-mono : {a b : ℤ} → a ≤ℤ b → neg_ℤ b ≤ℤ neg_ℤ a
neg_ℤ-mono h = by-≤ (search parts depth 12) (omega whole)

pub ≤→gap : {a b : ℤ} → a ≤ℤ b → pos 0 ≤ℤ (b -ℤ a)
≤→gap h = by-≤ (search parts depth 12) (omega whole)

pub gap→≤ : {a b : ℤ} → pos 0 ≤ℤ (b -ℤ a) → a ≤ℤ b
gap→≤ h = by-≤ (search parts depth 12) (omega (whole, of-≤ h (search parts depth 12)))

-- ---- natural numbers

pub ≤→pos : {m n : ℕ} → m ≤ n → pos m ≤ℤ pos n
≤→pos h = by-≤ (search parts depth 12) (omega whole)

pub pos→≤ : {m n : ℕ} → pos m ≤ℤ pos n → m ≤ n
pos→≤ h = omega whole

pub 0≤pos : (n : ℕ) → pos 0 ≤ℤ pos n
0≤pos n = by-≤ (search parts depth 12) (omega whole)

pub 0<pos : (n : ℕ) → pos 0 <ℤ pos (suc n)
0<pos n = by-< (search parts depth 12) (omega whole)

pub pos-nat_abs-nonneg : {x : ℤ} → pos 0 ≤ℤ x → pos (nat_abs x) ≡ x
pos-nat_abs-nonneg {x} h = pos-nat_abs x (yes_non_neg h)

-- ---- product

-- (b − a)(d − c) is not negative
gaps : {a b c d : ℕ} → a ≤ b → c ≤ d → b * c + a * d ≤ b * d + a * c
gaps {a} {b} {c} {d} h k =
    let (s, e) = le_dest h in omega (arith, mul-le-mul_left s k, ap (λ t. t * c) e, ap (λ t. t * d) e)

pub *ℤ-gaps : {a b c d : ℤ} → a ≤ℤ b → c ≤ℤ d → pos 0 ≤ℤ ((b -ℤ a) *ℤ (d -ℤ c))
*ℤ-gaps h k = by-≤ (search parts depth 12) (omega (whole, gaps (of-≤ h (search parts depth 12)) (of-≤ k (search parts depth 12))))

pub *ℤ-nonneg : {a b : ℤ} → pos 0 ≤ℤ a → pos 0 ≤ℤ b → pos 0 ≤ℤ (a *ℤ b)
*ℤ-nonneg h k = by-≤ (search parts depth 12) (omega (whole, of-≤ (*ℤ-gaps h k) (search parts depth 12)))

pub *ℤ-nonpos : {a b : ℤ} → a ≤ℤ pos 0 → b ≤ℤ pos 0 → pos 0 ≤ℤ (a *ℤ b)
*ℤ-nonpos h k = by-≤ (search parts depth 12) (omega (whole, of-≤ (*ℤ-gaps h k) (search parts depth 12)))

pub *ℤ-mono : {c a b : ℤ} → pos 0 ≤ℤ c → a ≤ℤ b → (c *ℤ a) ≤ℤ (c *ℤ b)
*ℤ-mono h k = by-≤ (search parts depth 12) (omega (whole, of-≤ (*ℤ-gaps h k) (search parts depth 12)))

pub *ℤ-strict : {c a b : ℤ} → pos 0 <ℤ c → a <ℤ b → (c *ℤ a) <ℤ (c *ℤ b)
*ℤ-strict h k =
    by-< (search parts depth 12) (omega (whole, gaps (of-< h (search parts depth 12)) (of-< k (search parts depth 12))))

pub square-nonneg : (x : ℤ) → pos 0 ≤ℤ square x
square-nonneg (pos n) = 0≤pos (n * n)
square-nonneg (negsuc n) = 0≤pos (suc n * suc n)

pub square-zero : {x : ℤ} → square x ≡ pos 0 → x ≡ pos 0
square-zero {x = pos zero} h = refl
square-zero {x = pos (suc n)} h = absurd (omega whole)
square-zero {x = negsuc n} h = absurd (omega whole)

pub square-positive : {x : ℤ} → x ≢ pos 0 → pos 1 ≤ℤ square x
square-positive {x = pos zero} h = absurd (h refl)
square-positive {x = pos (suc n)} h = ≤→pos (omega arith)
square-positive {x = negsuc n} h = ≤→pos (omega arith)

-- ---- the tests

true→T : {t : Bool} → t ≡ true → T t
true→T h = rw h tt

T→true : {t : Bool} → T t → t ≡ true
T→true {t = true} u = refl
T→true {t = false} u = absurd u

-- a test fails where it cannot pass, and one that failed did not pass
fails : (t : Bool) → (T t → ⊥) → t ≡ false
fails true f = absurd (f tt)
fails false f = refl

failed : {t : Bool} → t ≡ false → T t → ⊥
failed h u = rw h at u

module _ {a b : ℤ} where
  pub le_z-true : le_z a b ≡ true → a ≤ℤ b
  le_z-true h = le_z_yes (true→T h)

  pub true-le_z : a ≤ℤ b → le_z a b ≡ true
  true-le_z h = T→true h.le

  pub le_z-false : le_z a b ≡ false → b <ℤ a
  le_z-false h = elim (≤ℤ-total a b) [ inl k ↦ absurd (failed h k.le) | inr k ↦ k ]

  pub false-le_z : b <ℤ a → le_z a b ≡ false
  false-le_z h = fails (le_z a b) (λ t. clash_ℤ h (le_z_yes t))

  pub lt_z-true : lt_z a b ≡ true → a <ℤ b
  lt_z-true h = lt_z_yes (true→T h)

  pub true-lt_z : a <ℤ b → lt_z a b ≡ true
  true-lt_z h = T→true h.lt

  pub lt_z-false : lt_z a b ≡ false → b ≤ℤ a
  lt_z-false h = elim (≤ℤ-total b a) [ inl k ↦ k | inr k ↦ absurd (failed h k.lt) ]

  pub false-lt_z : b ≤ℤ a → lt_z a b ≡ false
  false-lt_z h = fails (lt_z a b) (λ t. clash_ℤ (lt_z_yes t) h)

same_z-eq : (a b : ℤ) → T (same_z a b) → a ≡ b
same_z-eq (pos a) (pos b) t = ap pos (eqb→eq a b t)
same_z-eq (pos a) (negsuc b) t = absurd t
same_z-eq (negsuc a) (pos b) t = absurd t
same_z-eq (negsuc a) (negsuc b) t = ap negsuc (eqb→eq a b t)

same_z-refl : (a : ℤ) → T (same_z a a)
same_z-refl (pos a) = eqb_refl a
same_z-refl (negsuc a) = eqb_refl a

module _ {a b : ℤ} where
  pub same_z-true : same_z a b ≡ true → a ≡ b
  same_z-true h = same_z-eq a b (true→T h)

  pub true-same_z : a ≡ b → same_z a b ≡ true
  true-same_z h = rw h (T→true (same_z-refl b))

  pub same_z-false : same_z a b ≡ false → a ≢ b
  same_z-false h e = failed h (true→T (true-same_z e))

  pub false-same_z : a ≢ b → same_z a b ≡ false
  false-same_z h = fails (same_z a b) (λ t. h (same_z-eq a b t))
