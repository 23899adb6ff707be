-- The Cauchy–Schwarz inequality for finite sums of whole numbers, and its form for signs e j of −1, 0 and 1, in which
-- only the terms with e j ≢ 0 count.
use mathlib.Core.Path.{◌≡◌, sym, ap, ap₂, ◌∙◌}
use Prim.Native.Nat.{ℕ, zero, suc, ◌<◌}
use lib.IntN.{ℤ, pos, ◌+ℤ◌, ◌-ℤ◌, ◌*ℤ◌, *ℤ_comm}
use lib.Signed.{◌≤ℤ◌, ≤ℤ_refl}
use Rattle.integers.specs.Whole.{square}
use Rattle.integers.specs.Sum.{total}
use Rattle.integers.proofs.Parts.{parts, whole, by-≤, of-≤}
use Rattle.integers.proofs.Ring.{*ℤ-assoc, *ℤ-swap, square-+ℤ, square--ℤ, +ℤ-*ℤ-+ℤ}
use Rattle.integers.proofs.Order.{square-nonneg}
use Rattle.integers.proofs.Total.{total-cong, total-+ℤ, total--ℤ, total-*ℤ, total-*ℤʳ, total-nonneg}

-- The sum of the squares of e j t − x j s is not negative. Taken at s = e m and t = x m, it is what the inequality gains
-- when the terms at m come in.
square-of_cross : (e x s t : ℤ) → square (e *ℤ t -ℤ x *ℤ s) ≡ e *ℤ e *ℤ (t *ℤ t) -ℤ pos 2 *ℤ (e *ℤ x *ℤ (t *ℤ s)) +ℤ x *ℤ x *ℤ (s *ℤ s)
square-of_cross e x s t = square--ℤ (e *ℤ t) (x *ℤ s) ∙ rw (*ℤ-swap e t e t, *ℤ-swap e t x s, *ℤ-swap x s x s)

-- one step of the induction: S, A and B are the sums so far, and u, p and q the new products e x, e e and x x
one_more : (S A B u p q : ℤ) → square S ≤ℤ (A *ℤ B) → pos 0 ≤ℤ (A *ℤ q -ℤ pos 2 *ℤ (S *ℤ u) +ℤ B *ℤ p) → square u ≡ p *ℤ q → square (S +ℤ u) ≤ℤ ((A +ℤ p) *ℤ (B +ℤ q))
one_more S A B u p q h k e = rw (square-+ℤ S u, +ℤ-*ℤ-+ℤ A p B q, e, *ℤ_comm p B) (sums (A *ℤ q) (S *ℤ u) (B *ℤ p) (p *ℤ q) h k)
  where
    sums : {x y : ℤ} (z w t v : ℤ) → x ≤ℤ y → pos 0 ≤ℤ (z -ℤ pos 2 *ℤ w +ℤ t) → (x +ℤ pos 2 *ℤ w +ℤ v) ≤ℤ (y +ℤ z +ℤ (t +ℤ v))
    sums z w t v h k = by-≤ (search parts depth 12) (omega (whole, of-≤ k (search parts depth 12)))

abbrev dot : ℕ → (ℕ → ℤ) → (ℕ → ℤ) → ℤ
dot m e x = total m (λ j. e j *ℤ x j)

module _ (e x : ℕ → ℤ) where
  total-of_crosses : (m : ℕ) (s t : ℤ) → total m (λ j. square (e j *ℤ t -ℤ x j *ℤ s)) ≡ dot m e e *ℤ (t *ℤ t) -ℤ pos 2 *ℤ (dot m e x *ℤ (t *ℤ s)) +ℤ dot m x x *ℤ (s *ℤ s)
  total-of_crosses m s t =
      total-cong m (λ j l. square-of_cross (e j) (x j) s t)
      ∙ total-+ℤ m _ _
      ∙ ap₂ ◌+ℤ◌ (total--ℤ m _ _ ∙ ap₂ ◌-ℤ◌ (total-*ℤʳ m _ _) (total-*ℤ m (pos 2) _ ∙ ap (λ w. pos 2 *ℤ w) (total-*ℤʳ m _ _))) (total-*ℤʳ m _ _)

  crosses_nonneg : (m : ℕ) → pos 0 ≤ℤ (dot m e e *ℤ (x m *ℤ x m) -ℤ pos 2 *ℤ (dot m e x *ℤ (e m *ℤ x m)) +ℤ dot m x x *ℤ (e m *ℤ e m))
  crosses_nonneg m =
      rw (total-of_crosses m (e m) (x m), *ℤ_comm (x m) (e m)) at (total-nonneg m (λ j l. square-nonneg (e j *ℤ x m -ℤ x j *ℤ e m)))

  pub cauchy_schwarz : (m : ℕ) → square (total m (λ j. e j *ℤ x j)) ≤ℤ (total m (λ j. e j *ℤ e j) *ℤ total m (λ j. x j *ℤ x j))
  unfolding total
  cauchy_schwarz zero = ≤ℤ_refl (pos 0)
  cauchy_schwarz (suc m) =
      one_more (dot m e x) (dot m e e) (dot m x x) (e m *ℤ x m) (e m *ℤ e m) (x m *ℤ x m)
      (cauchy_schwarz m) (crosses_nonneg m) (*ℤ-swap (e m) (x m) (e m) (x m))

-- a sign is its own cube: e takes two more factors e in, and so does e e
module _ (e x : ℤ) (cube : e *ℤ e *ℤ e ≡ e) where
  sign-once : e *ℤ (e *ℤ e *ℤ x) ≡ e *ℤ x
  sign-once = sym (*ℤ-assoc e (e *ℤ e) x) ∙ ap (λ t. t *ℤ x) (*ℤ_comm e (e *ℤ e) ∙ cube)

  sign-twice : square (e *ℤ e *ℤ x) ≡ e *ℤ e *ℤ (x *ℤ x)
  sign-twice = *ℤ-swap (e *ℤ e) x (e *ℤ e) x ∙ ap (λ t. t *ℤ (x *ℤ x)) (sym (*ℤ-assoc (e *ℤ e) e e) ∙ ap (λ t. t *ℤ e) cube)

pub cauchy_schwarz_signs : (e x : ℕ → ℤ) (m : ℕ) → ((j : ℕ) → j < m → e j *ℤ e j *ℤ e j ≡ e j) → square (total m (λ j. e j *ℤ x j)) ≤ℤ (total m (λ j. e j *ℤ e j) *ℤ total m (λ j. e j *ℤ e j *ℤ (x j *ℤ x j)))
cauchy_schwarz_signs e x m h =
    rw (total-cong m (λ j l. sign-once (e j) (x j) (h j l)), total-cong m (λ j l. sign-twice (e j) (x j) (h j l)))
    at (cauchy_schwarz e (λ j. e j *ℤ e j *ℤ x j) m)
