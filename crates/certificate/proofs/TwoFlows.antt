-- Two flows of one problem: the distance law of each against the other's image, added. For any pair system. Assumes
-- nothing.
use mathlib.Core.Path.{◌≡◌, subst}
use Prim.Native.Nat.{ℕ}
use lib.IntN.{ℤ, pos, ◌+ℤ◌, ◌*ℤ◌}
use lib.Signed.{◌≤ℤ◌}
use Rattle.integers.proofs.Parts.{parts, whole, by-≤, of-≤}
use Rattle.model.specs.Problem.{Problem, Feasible, price, image, slack, distance}
use Rattle.model.specs.Demand.{WithinSlacks}
use Rattle.certificate.proofs.Lagrangian.{Sound, image-in_box}
use Rattle.certificate.proofs.Metric.{distance-sym, distance-zero}
use Rattle.certificate.proofs.Distance.{distance-law}

-- 2 × squared distance ≤ sum of the slacks
pub twice_the_distance : (p : Problem) → Sound p → (f g : ℕ → ℤ) → Feasible p f → Feasible p g →
    (pos 2 *ℤ distance p (image p f) (image p g)) ≤ℤ (slack p f +ℤ slack p g)
twice_the_distance p sound f g within also =
    let x : ℕ → ℤ = image p f in
    let y : ℕ → ℤ = image p g in
    added (price p x) (price p y) (distance p x y) (slack p f) (slack p g)
    (distance-law p sound f within y (image-in_box p sound g))
    (subst (λ (d : ℤ). (price p y +ℤ d) ≤ℤ (price p x +ℤ slack p g)) (distance-sym p y x)
    (distance-law p sound g also x (image-in_box p sound f)))
  where
    added : (a b d s r : ℤ) → (a +ℤ d) ≤ℤ (b +ℤ s) → (b +ℤ d) ≤ℤ (a +ℤ r) → (pos 2 *ℤ d) ≤ℤ (s +ℤ r)
    added a b d s r h k = by-≤ (search parts depth 12) (omega (whole, of-≤ h (search parts depth 12), of-≤ k (search parts depth 12)))

-- .. so where both slacks are 0, the images are equal
pub within-slacks : (p : Problem) (x y : ℕ → ℤ) (s r : ℤ) → (pos 2 *ℤ distance p x y) ≤ℤ (s +ℤ r) → WithinSlacks p x y s r
within-slacks p x y s r h =
    record { near = h; equal = λ none neither. distance-zero p x y (squeeze (distance p x y) s r none neither h) }
  where
    squeeze : (d s r : ℤ) → s ≡ pos 0 → r ≡ pos 0 → (pos 2 *ℤ d) ≤ℤ (s +ℤ r) → d ≤ℤ pos 0
    squeeze d s r h k q = by-≤ (search parts depth 12) (omega (whole, of-≤ q (search parts depth 12)))
