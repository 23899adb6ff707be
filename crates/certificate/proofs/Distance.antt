-- Demand 3 for any pair system: the distance law, what slack 0 says, and the slack by pairs. Assumes nothing.
use mathlib.Core.Path.{◌≡◌, sym, ap, ◌∙◌, subst}
use Prim.Native.Nat.{ℕ}
use lib.IntN.{ℤ, pos, ◌+ℤ◌, ◌-ℤ◌, ◌*ℤ◌}
use lib.Signed.{◌≤ℤ◌}
use Rattle.integers.specs.Whole.{abs}
use Rattle.integers.specs.Sum.{total}
use Rattle.integers.proofs.Parts.{parts, whole, by-≡, by-≤, of-≤}
use Rattle.integers.proofs.Order.{≤ℤ-trans}
use Rattle.integers.proofs.Total.{total--ℤ}
use Rattle.model.specs.Problem.{Problem, pair_count, fall, misfit, price, Feasible, image, floor, slack, InBox, distance}
use Rattle.certificate.proofs.Lagrangian.{Sound, floor-is, below_price, image-in_box, minimum}
use Rattle.certificate.proofs.Congruence.{Agree}
use Rattle.certificate.proofs.Metric.{distance-nonneg, distance-zero}

-- The slack by pairs: 2 × the sum over pairs of weight × |fall| − flow × fall
pub slack-by-pairs : (p : Problem) (f : ℕ → ℤ) →
    slack p f
    ≡ pos 2 *ℤ total (pair_count p) (λ j. pos (p.weight j) *ℤ abs (fall p (image p f) j) -ℤ f j *ℤ fall p (image p f) j)
unfolding slack price floor
slack-by-pairs p f =
    let m : ℕ = pair_count p in
    let d : ℕ → ℤ = fall p (image p f) in
    let a : ℤ = total m (λ j. pos (p.weight j) *ℤ abs (d j)) in
    let b : ℤ = total m (λ j. f j *ℤ d j) in
    difference (misfit p (image p f)) a b
    ∙ ap (λ (s : ℤ). pos 2 *ℤ s) (sym (total--ℤ m (λ j. pos (p.weight j) *ℤ abs (d j)) (λ j. f j *ℤ d j)))
  where
    difference : (c a b : ℤ) → (c +ℤ pos 2 *ℤ a) -ℤ (c +ℤ pos 2 *ℤ b) ≡ pos 2 *ℤ (a -ℤ b)
    difference c a b = by-≡ (search parts depth 12) (omega whole)

module _ (p : Problem) (sound : Sound p) (f : ℕ → ℤ) (within : Feasible p f) where
  -- The floor, with the squared distance, is at most the price of every image of the box
  pub floor-distance : (y : ℕ → ℤ) → InBox p y → (floor p f +ℤ distance p (image p f) y) ≤ℤ price p y
  floor-distance y inside =
      subst (λ (a : ℤ). (a +ℤ distance p (image p f) y) ≤ℤ price p y) (sym (floor-is p f))
      (≤ℤ-trans (minimum p sound f y inside) (below_price p f y within))

  pub floor-below : (y : ℕ → ℤ) → InBox p y → floor p f ≤ℤ price p y
  floor-below y inside = drop-distance (floor p f) (distance p (image p f) y) (price p y) (distance-nonneg p (image p f) y) (floor-distance y inside)
    where
      drop-distance : (a d b : ℤ) → pos 0 ≤ℤ d → (a +ℤ d) ≤ℤ b → a ≤ℤ b
      drop-distance a d b h k = by-≤ (search parts depth 12) (omega (whole, of-≤ k (search parts depth 12)))

  -- The slack is never negative
  pub slack-nonneg : pos 0 ≤ℤ slack p f
  unfolding slack
  slack-nonneg = gap (price p (image p f)) (floor p f) (floor-below (image p f) (image-in_box p sound f))
    where
      gap : (a b : ℤ) → b ≤ℤ a → pos 0 ≤ℤ (a -ℤ b)
      gap a b h = by-≤ (search parts depth 12) (omega whole)

  -- price + squared distance ≤ other price + slack
  pub distance-law : (y : ℕ → ℤ) → InBox p y → (price p (image p f) +ℤ distance p (image p f) y) ≤ℤ (price p y +ℤ slack p f)
  unfolding slack
  distance-law y inside = rearranged (price p (image p f)) (distance p (image p f) y) (price p y) (floor p f) (floor-distance y inside)
    where
      rearranged : (a d b c : ℤ) → (c +ℤ d) ≤ℤ b → (a +ℤ d) ≤ℤ (b +ℤ (a -ℤ c))
      rearranged a d b c h = by-≤ (search parts depth 12) (omega (whole, of-≤ h (search parts depth 12)))

  -- at slack 0, images of equal price are equal
  pub equal-images : (y : ℕ → ℤ) → InBox p y → slack p f ≡ pos 0 → price p (image p f) ≡ price p y → Agree p.pixels (image p f) y
  equal-images y inside none same =
      distance-zero p (image p f) y
      (squeeze (price p (image p f)) (distance p (image p f) y) (price p y) (slack p f) none same (distance-law y inside))
    where
      squeeze : (a d b s : ℤ) → s ≡ pos 0 → a ≡ b → (a +ℤ d) ≤ℤ (b +ℤ s) → d ≤ℤ pos 0
      squeeze a d b s h k q = by-≤ (search parts depth 12) (omega (whole, of-≤ q (search parts depth 12)))
