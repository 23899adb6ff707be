-- The squared distance of two images: never negative, the same from either side, and 0 only where they are equal. Assumes
-- nothing.
use mathlib.Core.Path.{◌≡◌, ap, ◌∙◌, sym}
use Prim.Native.Nat.{ℕ}
use lib.IntN.{ℤ, pos, ◌-ℤ◌}
use lib.Signed.{◌≤ℤ◌}
use Rattle.integers.specs.Whole.{square}
use Rattle.integers.proofs.Parts.{parts, whole, by-≡, of-≡}
use Rattle.integers.proofs.Order.{≤ℤ-antisym, square-nonneg, square-zero}
use Rattle.integers.proofs.Ring.{neg_ℤ--ℤ, square-neg_ℤ}
use Rattle.integers.proofs.Total.{total-cong, total-nonneg, total-zero-term}
use Rattle.model.specs.Problem.{Problem, distance}
use Rattle.certificate.proofs.Congruence.{Agree}

module _ (p : Problem) (x y : ℕ → ℤ) where
  pub distance-nonneg : pos 0 ≤ℤ distance p x y
  unfolding distance
  distance-nonneg = total-nonneg p.pixels (λ i _. square-nonneg (x i -ℤ y i))

  pub distance-sym : distance p x y ≡ distance p y x
  unfolding distance
  distance-sym =
      total-cong p.pixels (λ i _. sym (square-neg_ℤ (x i -ℤ y i)) ∙ ap square (neg_ℤ--ℤ (x i) (y i)))

  pub distance-zero : distance p x y ≤ℤ pos 0 → Agree p.pixels x y
  unfolding distance
  distance-zero none i l =
      apart (x i) (y i)
      (total-zero-term p.pixels (λ i _. square-nonneg (x i -ℤ y i)) (≤ℤ-antisym none distance-nonneg) l)
    where
      apart : (a b : ℤ) → square (a -ℤ b) ≡ pos 0 → a ≡ b
      apart a b h = let z : a -ℤ b ≡ pos 0 = square-zero h in by-≡ (search parts depth 12) (omega (whole, of-≡ z (search parts depth 12)))
