-- Quotients by b of a number whose size is first raised by h, with the number's sign: rounded toward zero for h = 0, to the
-- nearest with halves toward zero for the largest h below b / 2. One set of laws for all of them: size, zero, sign, and what
-- a step gains that is no longer than such a quotient.
use mathlib.Core.Path.{◌≡◌, refl, sym, ap, ◌∙◌, subst}
use mathlib.Core.Bool.{Bool, true, false, cond}
use mathlib.Core.Logic.{inl, inr}
use Prim.Native.Nat.{ℕ, zero, suc, ◌+◌, ◌-◌, ◌*◌, ◌/◌, ◌%◌, ◌≤◌, ◌<◌}
use native.Mathlib.Nat.{div-mul-le_self, div-add-mod', mod-lt, div-eq_of_lt, div-eq_of_lt-le, add-div_right, mul-le-mul_right, mul-le-mul_left, le_trans, lt-div-mul-add, add-zero}
use native.Mathlib.Omega.{arith}
use borrow.Author.Tests.{ltb-true, ltb-false}
use lib.Dec.{ltb}
use lib.IntN.{ℤ, pos, negsuc, nat_abs, neg_ℤ, ◌+ℤ◌, ◌-ℤ◌, ◌*ℤ◌, *ℤ_comm}
use lib.Signed.{◌≤ℤ◌, ◌<ℤ◌, shr_z}
use Rattle.integers.specs.Whole.{square, quotient, nearest}
use Rattle.integers.proofs.Parts.{parts, whole, by-≡, by-≤, of-<}
use Rattle.integers.proofs.Order.{pos→≤, ≡→≤ℤ, 0≤pos, *ℤ-nonneg, *ℤ-nonpos, pos-nat_abs-nonneg, neg_ℤ-mono, ≤ℤ-total, <ℤ→≤ℤ}
use Rattle.integers.proofs.Absolute.{nat_abs-neg, nat_abs-product, square-nat_abs}
use Rattle.integers.proofs.Between.{between_nat_abs, between_nonneg, between_nonpos}

abbrev pub rounded : ℕ → ℕ → ℤ → ℤ
rounded h b (pos n) = pos ((n + h) / b)
rounded h b (negsuc n) = neg_ℤ (pos ((suc n + h) / b))

-- ---- the two roundings

pub quotient-rounded : (x : ℤ) (b : ℕ) → quotient x (pos b) ≡ rounded 0 b x
quotient-rounded (pos n) b = ap (λ (m : ℕ). pos (m / b)) (sym (add-zero n))
quotient-rounded (negsuc n) b = ap (λ (m : ℕ). neg_ℤ (pos (m / b))) (sym (add-zero (suc n)))

-- h is the largest number below half of b
module _ (h b : ℕ) (lower : 2 * h < b) (upper : b ≤ 2 * h + 2) where
  further : (n : ℕ) → b < 2 * (n % b) → (n + h) / b ≡ n / b + 1
  further n l =
      div-eq_of_lt-le b (omega (arith, div-add-mod' n b)) (omega (arith, div-add-mod' n b, mod-lt n {m = b} (omega arith)))

  nearer : (n : ℕ) → 2 * (n % b) ≤ b → (n + h) / b ≡ n / b
  nearer n l = div-eq_of_lt-le b (omega (arith, div-add-mod' n b)) (omega (arith, div-add-mod' n b))

  -- the size, by the test on the remainder r
  size : (n : ℕ) {r : ℕ} → r ≡ n % b → (t : Bool) → ltb b (2 * r) ≡ t → (n + h) / b ≡ cond t (n / b + 1) (n / b)
  size n e true q = further n (subst (λ (r : ℕ). b < 2 * r) e (ltb-true b _ q))
  size n e false q = nearer n (subst (λ (r : ℕ). 2 * r ≤ b) e (ltb-false b _ q))

  pub nearest-rounded : (x : ℤ) → nearest x b ≡ rounded h b x
  unfolding nearest
  nearest-rounded (pos n) = go (ltb b (2 * (n % b))) refl
    where
      go : (t : Bool) → ltb b (2 * (n % b)) ≡ t → cond t (pos (n / b + 1)) (pos (n / b)) ≡ pos ((n + h) / b)
      go true q = ap pos (sym (size n refl true q))
      go false q = ap pos (sym (size n refl false q))
  nearest-rounded (negsuc n) = go (ltb b (2 * nat_abs (neg_ℤ (pos (suc n % b))))) refl
    where
      one_more : (q : ℕ) → neg_ℤ (pos q) +ℤ neg_ℤ (pos 1) ≡ neg_ℤ (pos (q + 1))
      one_more q = by-≡ (search parts depth 12) (omega whole)

      go : (t : Bool) → ltb b (2 * nat_abs (neg_ℤ (pos (suc n % b)))) ≡ t →
          cond t (neg_ℤ (pos (suc n / b)) +ℤ neg_ℤ (pos 1)) (neg_ℤ (pos (suc n / b))) ≡ neg_ℤ (pos ((suc n + h) / b))
      go true q = one_more (suc n / b) ∙ ap (λ (m : ℕ). neg_ℤ (pos m)) (sym (size (suc n) (nat_abs-neg (pos (suc n % b))) true q))
      go false q = ap (λ (m : ℕ). neg_ℤ (pos m)) (sym (size (suc n) (nat_abs-neg (pos (suc n % b))) false q))

-- the nearest by an even b = 2 h + 2 as a quotient rounded down, of the number raised by h, and by one more below zero
module _ (h : ℕ) where
  half_rounded : (x : ℤ) → nearest x (2 * h + 2) ≡ rounded h (2 * h + 2) x
  half_rounded = nearest-rounded h (2 * h + 2) (omega arith) (omega arith)

  pub nearest-up : (x : ℤ) → pos 0 ≤ℤ x → nearest x (2 * h + 2) ≡ shr_z (x +ℤ pos h) (2 * h + 2)
  nearest-up (pos n) l = half_rounded (pos n)
  nearest-up (negsuc n) l = absurd l.le

  pub nearest-down : (x : ℤ) → x <ℤ pos 0 → nearest x (2 * h + 2) ≡ shr_z (x +ℤ pos (h + 1)) (2 * h + 2)
  nearest-down (pos n) l = absurd (omega (whole, of-< l (search parts depth 12)))
  nearest-down (negsuc n) l = half_rounded (negsuc n) ∙ by (ltb h n) refl
    where
      -- raised, it is no longer below zero ..
      up : n ≤ h → negsuc n +ℤ pos (h + 1) ≡ pos (h - n)
      up k = by-≡ (search parts depth 12) (omega whole)

      -- .. or it is
      still : h < n → negsuc n +ℤ pos (h + 1) ≡ negsuc (n - (h + 1))
      still k = by-≡ (search parts depth 12) (omega whole)

      by : (t : Bool) → ltb h n ≡ t → neg_ℤ (pos ((suc n + h) / (2 * h + 2))) ≡ shr_z (negsuc n +ℤ pos (h + 1)) (2 * h + 2)
      by true q =
          let k : h < n = ltb-true h n q in
          let whole-more : suc n + h ≡ n - (h + 1) + (2 * h + 2) = omega arith in
          let e : (suc n + h) / (2 * h + 2) ≡ suc ((n - (h + 1)) / (2 * h + 2)) =
          ap (λ (m : ℕ). m / (2 * h + 2)) whole-more ∙ add-div_right (n - (h + 1)) (omega arith) ∙ omega arith
          in
          rw (still k) (ap (λ (m : ℕ). neg_ℤ (pos m)) e)
      by false q =
          let k : n ≤ h = ltb-false h n q in
          rw (up k, div-eq_of_lt {n = suc n + h} {m = 2 * h + 2} (omega arith), div-eq_of_lt {n = h - n} {m = 2 * h + 2} (omega arith)) refl

-- ---- size, zero and sign

module _ (h b : ℕ) where
  pub nat_abs-rounded : (x : ℤ) → nat_abs (rounded h b x) ≡ (nat_abs x + h) / b
  nat_abs-rounded (pos n) = refl
  nat_abs-rounded (negsuc n) = nat_abs-neg (pos ((suc n + h) / b))

  pub nat_abs-rounded-≤ : (x : ℤ) → nat_abs (rounded h b x) * b ≤ nat_abs x + h
  nat_abs-rounded-≤ x = rw nat_abs-rounded (div-mul-le_self (nat_abs x + h) b)

  pub zero-rounded : (x : ℤ) → 0 < b → rounded h b x ≡ pos 0 → nat_abs x + h < b
  zero-rounded x l e =
      omega (whole, rw (sym (nat_abs-rounded x) ∙ ap nat_abs e) at (lt-div-mul-add {a = nat_abs x + h} l))

  pub rounded_nonneg : (x : ℤ) → pos 0 ≤ℤ x → pos 0 ≤ℤ rounded h b x
  rounded_nonneg (pos n) l = 0≤pos ((n + h) / b)
  rounded_nonneg (negsuc n) l = absurd l.le

  pub rounded_nonpos : (x : ℤ) → h < b → x ≤ℤ pos 0 → rounded h b x ≤ℤ pos 0
  rounded_nonpos (pos zero) k l = ≡→≤ℤ (ap pos (div-eq_of_lt (omega arith)))
  rounded_nonpos (pos (suc n)) k l = absurd (omega (whole, pos→≤ l))
  rounded_nonpos (negsuc n) k l = neg_ℤ-mono (0≤pos ((suc n + h) / b))

-- ---- what a step gains that is no longer than the quotient by b = g + h: at least g × its square

self-≤-square : (n : ℕ) → n ≤ n * n
self-≤-square zero = omega arith
self-≤-square (suc n) = omega arith

module _ (h g : ℕ) (x e : ℤ) (positive : 0 < g) (between : pos 0 ≤ℤ (e *ℤ (rounded h (g + h) x -ℤ e))) where
  goes_along : pos 0 ≤ℤ (x *ℤ e)
  goes_along =
      elim (≤ℤ-total (pos 0) x) [
        | inl k ↦ *ℤ-nonneg k (between_nonneg e (rounded h (g + h) x) between (rounded_nonneg h (g + h) x k))
        | inr k ↦
            *ℤ-nonpos (<ℤ→≤ℤ k)
            (between_nonpos e (rounded h (g + h) x) between (rounded_nonpos h (g + h) x (omega arith) (<ℤ→≤ℤ k)))
      ]

  length-≤ : nat_abs e * (g + h) ≤ nat_abs x + h
  length-≤ =
      le_trans (mul-le-mul_right (g + h) (between_nat_abs e (rounded h (g + h) x) between)) (nat_abs-rounded-≤ h (g + h) x)

  pub step-gain : (pos g *ℤ square e) ≤ℤ (e *ℤ x)
  step-gain =
      rw (*ℤ_comm e x, square-nat_abs e, ← pos-nat_abs-nonneg goes_along, nat_abs-product x e)
      (by-≤ (search parts depth 12)
      (omega (whole, mul-le-mul_right (nat_abs e) length-≤, mul-le-mul_left h (self-≤-square (nat_abs e)))))
