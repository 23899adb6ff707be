-- The laws of finite sums: term by term, two sums, order and bounds, and one term against the whole.
use mathlib.Core.Path.{◌≡◌, refl, sym, ap, ap₂, ◌∙◌}
use mathlib.Core.Logic.{inl, inr}
use mathlib.Core.Bool.{Bool, true, false, cond}
use Prim.Native.Nat.{ℕ, zero, suc, ◌+◌, ◌*◌, ◌≤◌, ◌<◌, zero-le}
use native.Mathlib.Nat.{le_refl, le_of_suc-le-suc, eq-or-lt_of_le, add-zero, add-suc}
use native.Mathlib.Omega.{arith}
use lib.Dec.{eqb}
use lib.IntN.{ℤ, pos, nat_abs, neg_ℤ, ◌+ℤ◌, ◌-ℤ◌, ◌*ℤ◌, +ℤ_idl, +ℤ_idr, +ℤ_assoc, neg_ℤ-+ℤ, *ℤ_comm, *ℤ-zero}
use lib.Signed.{◌≤ℤ◌, ≤ℤ_refl}
use borrow.Author.Tests.{eq-eqb, ne_eqb}
use Rattle.integers.specs.Sum.{total}
use Rattle.integers.proofs.Ring.{*ℤ-+ℤ, +ℤ-swap}
use Rattle.integers.proofs.Order.{+ℤ-mono, ≤ℤ-antisym}
use Rattle.integers.proofs.Absolute.{nat_abs-sum}

pub total-zero : (g : ℕ → ℤ) → total 0 g ≡ pos 0
unfolding total
total-zero g = refl

pub total-suc : (n : ℕ) (g : ℕ → ℤ) → total (suc n) g ≡ total n g +ℤ g n
unfolding total
total-suc n g = refl

-- what holds below n + 1 holds below n
below_suc {ℓ} : {P : ℕ → Type ℓ} {n : ℕ} → ((i : ℕ) → i < suc n → P i) → (i : ℕ) → i < n → P i
below_suc h i l = h i (omega arith)

-- ---- term by term

pub total-cong : (n : ℕ) {g h : ℕ → ℤ} → ((i : ℕ) → i < n → g i ≡ h i) → total n g ≡ total n h
unfolding total
total-cong zero e = refl
total-cong (suc n) e = ap₂ ◌+ℤ◌ (total-cong n (below_suc e)) (e n (le_refl (suc n)))

pub total-zeros : (n : ℕ) → total n (λ i. pos 0) ≡ pos 0
unfolding total
total-zeros zero = refl
total-zeros (suc n) = rw (total-zeros n)

pub total-+ℤ : (n : ℕ) (g h : ℕ → ℤ) → total n (λ i. g i +ℤ h i) ≡ total n g +ℤ total n h
unfolding total
total-+ℤ zero g h = refl
total-+ℤ (suc n) g h = rw (total-+ℤ n g h) (+ℤ-swap (total n g) (total n h) (g n) (h n))

pub total-neg_ℤ : (n : ℕ) (g : ℕ → ℤ) → total n (λ i. neg_ℤ (g i)) ≡ neg_ℤ (total n g)
unfolding total
total-neg_ℤ zero g = refl
total-neg_ℤ (suc n) g = rw (total-neg_ℤ n g) (sym (neg_ℤ-+ℤ (total n g) (g n)))

pub total--ℤ : (n : ℕ) (g h : ℕ → ℤ) → total n (λ i. g i -ℤ h i) ≡ total n g -ℤ total n h
total--ℤ n g h = total-+ℤ n g (λ i. neg_ℤ (h i)) ∙ ap (λ t. total n g +ℤ t) (total-neg_ℤ n h)

pub total-*ℤ : (n : ℕ) (c : ℤ) (g : ℕ → ℤ) → total n (λ i. c *ℤ g i) ≡ c *ℤ total n g
unfolding total
total-*ℤ zero c g = sym (*ℤ-zero c)
total-*ℤ (suc n) c g = rw (total-*ℤ n c g) (sym (*ℤ-+ℤ c (total n g) (g n)))

pub total-*ℤʳ : (n : ℕ) (g : ℕ → ℤ) (c : ℤ) → total n (λ i. g i *ℤ c) ≡ total n g *ℤ c
total-*ℤʳ n g c = total-cong n (λ i l. *ℤ_comm (g i) c) ∙ total-*ℤ n c g ∙ *ℤ_comm c (total n g)

-- ---- two sums

pub total-append : (n m : ℕ) (g : ℕ → ℤ) → total (n + m) g ≡ total n g +ℤ total m (λ i. g (n + i))
unfolding total
total-append n zero g = rw add-zero (sym (+ℤ_idr (total n g)))
total-append n (suc m) g = rw (add-suc, total-append n m g) (+ℤ_assoc (total n g) (total m (λ i. g (n + i))) (g (n + m)))

pub total-exchange : (n m : ℕ) (g : ℕ → ℕ → ℤ) → total n (λ i. total m (λ j. g i j)) ≡ total m (λ j. total n (λ i. g i j))
unfolding total
total-exchange zero m g = sym (total-zeros m)
total-exchange (suc n) m g = rw (total-exchange n m g) (sym (total-+ℤ m (λ j. total n (λ i. g i j)) (g n)))

-- ---- order

pub total_mono : (n : ℕ) {g h : ℕ → ℤ} → ((i : ℕ) → i < n → g i ≤ℤ h i) → total n g ≤ℤ total n h
unfolding total
total_mono zero l = ≤ℤ_refl (pos 0)
total_mono (suc n) l = +ℤ-mono (total_mono n (below_suc l)) (l n (le_refl (suc n)))

pub nat_abs-total : (n : ℕ) (g : ℕ → ℤ) {c : ℕ} → ((i : ℕ) → i < n → nat_abs (g i) ≤ c) → nat_abs (total n g) ≤ n * c
unfolding total
nat_abs-total zero g l = zero-le
nat_abs-total (suc n) g l = omega (arith, nat_abs-sum (total n g) (g n), nat_abs-total n g (below_suc l), l n (le_refl (suc n)))

-- ---- one term: a sum in which only the term at k counts

module _ (k : ℕ) (g : ℕ → ℤ) where
  total-skip : (n : ℕ) → n ≤ k → total n (λ i. cond (eqb k i) (g i) (pos 0)) ≡ pos 0
  total-skip n h = total-cong n (λ i l. rw (ne_eqb k i (omega arith))) ∙ total-zeros n

  pub total-pick : (n : ℕ) → k < n → total n (λ i. cond (eqb k i) (g i) (pos 0)) ≡ g k
  unfolding total
  total-pick zero h = absurd (omega arith)
  total-pick (suc n) h =
      elim (eq-or-lt_of_le (le_of_suc-le-suc h)) [
        | inl e ↦ rw (total-skip n (omega arith), eq-eqb k n e) (+ℤ_idl (g n) ∙ ap g (sym e))
        | inr l ↦ rw (total-pick n l, ne_eqb k n (omega arith)) (+ℤ_idr (g k))
      ]

-- ---- terms that are not negative

cond-≤ : (t : Bool) {x : ℤ} → pos 0 ≤ℤ x → cond t x (pos 0) ≤ℤ x
cond-≤ true {x} h = ≤ℤ_refl x
cond-≤ false h = h

module _ {g : ℕ → ℤ} (n : ℕ) (l : (i : ℕ) → i < n → pos 0 ≤ℤ g i) where
  pub total-nonneg : pos 0 ≤ℤ total n g
  total-nonneg = rw (total-zeros n) at (total_mono n l)

  pub term-≤-total : {k : ℕ} → k < n → g k ≤ℤ total n g
  term-≤-total {k} h = rw (total-pick k g n h) at (total_mono n (λ i m. cond-≤ (eqb k i) (l i m)))

  pub total-zero-term : total n g ≡ pos 0 → {k : ℕ} → k < n → g k ≡ pos 0
  total-zero-term e {k} h = ≤ℤ-antisym (rw e at (term-≤-total h)) (l k h)
