-- Sizes within limits never overflow 64 bits: on an allowed job every price of an image of the box, and every floor of a
-- flow within the weights, is at most `per_pixel` for each pixel in size, so at most `largest`, and three times that is
-- below 2⁶³. Assumes nothing.
use mathlib.Core.Path.{sym, subst}
use mathlib.Core.List.{List}
use Prim.Native.Nat.{ℕ, ◌*◌, ◌^◌, ◌≤◌, ◌<◌}
use native.Mathlib.Nat.{mul-le-mul, mul-le-mul_right, le_trans}
use native.Mathlib.Omega.{arith}
use lib.IntN.{ℤ, pos, nat_abs, ◌+ℤ◌, ◌-ℤ◌, ◌*ℤ◌}
use lib.ListN.{length, get_or}
use lib.Signed.{◌≤ℤ◌}
use Rattle.integers.specs.Whole.{abs, square}
use Rattle.integers.specs.Sum.{total}
use Rattle.integers.proofs.Order.{≤ℤ-trans}
use Rattle.integers.proofs.Absolute.{nat_abs-product, nat_abs-sum, nat_abs-difference, nat_abs-square, nat_abs-within, nat_abs→upper}
use Rattle.integers.proofs.Clamp.{clamp-≥, clamp-≤}
use Rattle.integers.proofs.Total.{nat_abs-total}
use Rattle.model.specs.Problem.{pair_count, first_of, second_of, fall, misfit, price, Feasible, pull, image, floor, slack, InBox}
use Rattle.model.specs.declared.Terms.{Terms}
use Rattle.model.specs.Grid.{weight_of, reading_of, low_end, high_end, grid_pairs, grid}
use Rattle.model.specs.Accepted.{TermsAllowed, WeightsAllowed}
use Rattle.model.proofs.Range.{widest, widest_fits, weight-reach, reading-least, reading-size, low-least, high-size, ends-ordered}
use Rattle.model.proofs.Weights.{weight_most}
use Rattle.layout.proofs.Pairs.{pair-count, pixels-inside}

-- ---- the bound

-- for each pixel: the data term, and four times that for two pairs, each of them doubled
abbrev pub per_pixel : ℕ
per_pixel = 5 * (widest * widest)

-- .. so for 2²⁰ pixels
abbrev pub largest : ℕ
largest = 1048576 * per_pixel

pub largest-fits : 3 * largest < 2 ^ 63
largest-fits = omega (arith, mul-le-mul widest_fits widest_fits)

pub pairs-most : (w h : ℕ) → length (grid_pairs w h) ≤ 2 * (w * h)
pairs-most w h = omega (arith, pair-count w h)

-- the data term plus twice a sum over pairs, as price and floor are made
two_sums : (n m : ℕ) (s c : ℤ) → nat_abs s ≤ n * (widest * widest) → nat_abs c ≤ m * (widest * widest) → m ≤ 2 * n →
    nat_abs (s +ℤ pos 2 *ℤ c) ≤ n * per_pixel
two_sums n m s c u v k = omega (arith, nat_abs-sum s (pos 2 *ℤ c), nat_abs-product (pos 2) c, mul-le-mul_right (widest * widest) k)

-- An allowed job: allowed terms and pair weights, and the box and the samples are bytes
pub record Allowed (t : Terms) (samples : List ℕ) (weights : List ℤ) : Type 0 where
  pub terms : TermsAllowed t
  pub pair_weights : WeightsAllowed t weights
  pub high_byte : t.high ≤ 255
  pub bytes : (i : ℕ) → get_or samples i 0 ≤ 255

module _ (t : Terms) (samples : List ℕ) (weights : List ℤ) (ok : Allowed t samples weights) where
  -- image values and readings are in the range
  pub value_least : (x : ℕ → ℤ) → InBox (grid t samples weights) x → (i : ℕ) → i < t.width * t.height → pos 0 ≤ℤ x i
  value_least x inside i l = ≤ℤ-trans (low-least t.low) (inside i l).0

  pub value_most : (x : ℕ → ℤ) → InBox (grid t samples weights) x → (i : ℕ) → i < t.width * t.height → x i ≤ℤ pos widest
  value_most x inside i l = ≤ℤ-trans (inside i l).1 (nat_abs→upper (high_end t.high) (high-size t.high (omega (arith, ok.high_byte))))

  reading-bounds : (i : ℕ) → (pos 0 ≤ℤ reading_of (get_or samples i 0)) × (reading_of (get_or samples i 0) ≤ℤ pos widest)
  reading-bounds i =
      let s : ℕ = get_or samples i 0 in
      (reading-least s, nat_abs→upper (reading_of s) (reading-size s (omega (arith, ok.bytes i))))

  weight-size : (j : ℕ) → weight_of t weights j ≤ widest
  weight-size j = le_trans (weight_most t weights ok.pair_weights ok.terms.weight_most j) weight-reach

  module _ (x : ℕ → ℤ) (inside : InBox (grid t samples weights) x) where
    misfit-bound : nat_abs (misfit (grid t samples weights) x) ≤ t.width * t.height * (widest * widest)
    unfolding misfit
    misfit-bound = nat_abs-total (t.width * t.height) _ (λ i l. each i l)
      where
        each : (i : ℕ) → i < t.width * t.height → nat_abs (square (x i -ℤ reading_of (get_or samples i 0))) ≤ widest * widest
        each i l =
            let d : nat_abs (x i -ℤ reading_of (get_or samples i 0)) ≤ widest =
            nat_abs-within (value_least x inside i l) (value_most x inside i l) (reading-bounds i).0 (reading-bounds i).1
            in
            subst (λ (n : ℕ). n ≤ widest * widest) (sym (nat_abs-square (x i -ℤ reading_of (get_or samples i 0)))) (mul-le-mul d d)

    pub fall-bound : (j : ℕ) → j < pair_count (grid t samples weights) → nat_abs (fall (grid t samples weights) x j) ≤ widest
    unfolding fall
    fall-bound j l =
        let n = pixels-inside t.width t.height j (record { first = 0; second = 0 }) l in
        let a : first_of (grid t samples weights) j < t.width * t.height = n.first-in in
        let b : second_of (grid t samples weights) j < t.width * t.height = n.second-in in
        nat_abs-within (value_least x inside _ a) (value_most x inside _ a) (value_least x inside _ b) (value_most x inside _ b)

    -- the data term plus twice a sum over pairs of terms that a weight times a fall bounds
    objective_bound : (c : ℕ → ℤ) → ((j : ℕ) → j < pair_count (grid t samples weights) → nat_abs (c j) ≤ widest * widest) →
        nat_abs (misfit (grid t samples weights) x +ℤ pos 2 *ℤ total (pair_count (grid t samples weights)) c) ≤ t.width * t.height * per_pixel
    objective_bound c every =
        two_sums (t.width * t.height) (pair_count (grid t samples weights)) (misfit (grid t samples weights) x)
        (total (pair_count (grid t samples weights)) c) misfit-bound (nat_abs-total (pair_count (grid t samples weights)) c every)
        (pairs-most t.width t.height)

    price-by-pixels : nat_abs (price (grid t samples weights) x) ≤ t.width * t.height * per_pixel
    unfolding price
    price-by-pixels = objective_bound _ (λ j l.
        subst (λ (n : ℕ). n ≤ widest * widest) (sym (nat_abs-product (pos (weight_of t weights j)) (abs (fall (grid t samples weights) x j))))
        (mul-le-mul (weight-size j) (fall-bound j l)))

    pub price-bound : nat_abs (price (grid t samples weights) x) ≤ largest
    price-bound = le_trans price-by-pixels (mul-le-mul_right per_pixel ok.terms.pixels_most)

  pub image-inside : (f : ℕ → ℤ) → InBox (grid t samples weights) (image (grid t samples weights) f)
  unfolding image
  image-inside f i l =
      let z : ℤ = reading_of (get_or samples i 0) -ℤ pull (grid t samples weights) f i in
      let o : low_end t.low ≤ℤ high_end t.high = ends-ordered ok.terms.box in
      (clamp-≥ (low_end t.low) (high_end t.high) z o, clamp-≤ (low_end t.low) (high_end t.high) z o)

  module _ (f : ℕ → ℤ) (within : Feasible (grid t samples weights) f) where
    floor-by-pixels : nat_abs (floor (grid t samples weights) f) ≤ t.width * t.height * per_pixel
    unfolding floor
    floor-by-pixels = objective_bound (image (grid t samples weights) f) (image-inside f) _ (λ j l.
        subst (λ (n : ℕ). n ≤ widest * widest) (sym (nat_abs-product (f j) (fall (grid t samples weights) (image (grid t samples weights) f) j)))
        (mul-le-mul (le_trans (within j l) (weight-size j))
        (fall-bound (image (grid t samples weights) f) (image-inside f) j l)))

    pub floor-bound : nat_abs (floor (grid t samples weights) f) ≤ largest
    floor-bound = le_trans floor-by-pixels (mul-le-mul_right per_pixel ok.terms.pixels_most)

    pub slack-by-pixels : nat_abs (slack (grid t samples weights) f) ≤ t.width * t.height * (2 * per_pixel)
    unfolding slack
    slack-by-pixels =
        let x : ℕ → ℤ = image (grid t samples weights) f in
        omega (arith, price-by-pixels x (image-inside f), floor-by-pixels, nat_abs-difference (price (grid t samples weights) x) (floor (grid t samples weights) f))
