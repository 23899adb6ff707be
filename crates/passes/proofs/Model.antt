-- What the passes compute is what the model defines, on document 01's grid. Assumes nothing.
use mathlib.Core.Path.{◌≡◌, sym, ap, ap₂}
use mathlib.Core.Bool.{not}
use mathlib.Core.List.{List}
use mathlib.Core.Logic.{⊎_elim}
use Prim.Native.Nat.{ℕ, ◌*◌, ◌≤◌, ◌<◌, zero-le}
use native.Mathlib.Omega.{arith}
use lib.IntN.{ℤ, pos, nat_abs, neg_ℤ, ◌+ℤ◌, ◌-ℤ◌, ◌*ℤ◌}
use lib.ListN.{length, get_or}
use lib.Signed.{◌≤ℤ◌}
use Rattle.integers.specs.Whole.{abs, square, clamp, same_z}
use Rattle.integers.specs.Sum.{total}
use Rattle.integers.proofs.Order.{0≤pos}
use Rattle.integers.proofs.Absolute.{nat_abs-upto}
use Rattle.integers.proofs.Total.{total-cong}
use Rattle.lists.specs.Lists.{at, table, first_where}
use Rattle.lists.proofs.Tables.{get_or-by, table-cong}
use Rattle.lists.proofs.First.{first_where-cong}
use Rattle.model.specs.declared.Terms.{Terms}
use Rattle.model.specs.Problem.{pair_count, first_of, second_of, fall, misfit, image}
use Rattle.model.specs.Grid.{limit, reading_of, grid}
use Rattle.model.specs.Rounds.{stepped, step, would_move, first_moving}
use Rattle.model.specs.Calls.{pairs_of, image_of}
use Rattle.model.specs.Accepted.{TermsAllowed, WeightsAllowed}
use Rattle.model.proofs.Answers.{held-image}
use Rattle.model.proofs.Weights.{weight_is}
use Rattle.layout.proofs.Pairs.{pixels-inside}
use Rattle.layout.specs.Runs.{shape_of}
use Rattle.layout.specs.Limits.{ShapeLimits}
use Rattle.stencil.specs.Limits.{most}
use Rattle.stencil.specs.Pair.{step_value}
use Rattle.passes.specs.Limits.{Within, WeightLimits}
use Rattle.passes.specs.Pairs.{first_value, second_value, weight_at, step_at, moves_at, variation_at, product_at}

-- ---- an allowed job is within the limits of the passes

pub shape-limits : {t : Terms} → TermsAllowed t → ShapeLimits (shape_of t)
shape-limits a =
    record {
      width_least = a.width_least;
      width_most = a.width_most;
      height_least = a.height_least;
      pixels_most = a.pixels_most;
    }

module _ (t : Terms) (weights : List ℤ) (own : WeightsAllowed t weights) where
  pub weights-within : Within limit.weight weights
  weights-within =
      get_or-by (λ z. nat_abs z ≤ limit.weight) weights (pos 0) (pos 0) zero-le (λ j l. nat_abs-upto (own.range j l).0 (own.range j l).1)

  pub weight-limits : (weight : ℤ) → nat_abs weight ≤ most → WeightLimits (pairs_of t) weight weights
  weight-limits weight h =
      record {
        lent = λ p. ⊎_elim (λ (z : length weights ≡ 0). absurd (omega arith)) (λ e. e) own.count;
        weight_most = h;
        least = get_or-by (λ z. pos 0 ≤ℤ z) weights (pos 0) (pos 0) (0≤pos 0) (λ j l. (own.range j l).0);
        largest = λ i. omega (arith, weights-within i);
      }

-- ---- the passes over the image of a flow

module _ (t : Terms) (samples : List ℕ) (weights flow : List ℤ) {values : List ℤ} (e : values ≡ image_of t samples flow) where
  value_at : (i : ℕ) → i < t.width * t.height → at values i ≡ image (grid t samples weights) (at flow) i
  value_at = held-image t samples weights flow e

  -- the falls of the flow's image
  pub fall-is : (j : ℕ) → j < pair_count (grid t samples weights) →
      first_value (shape_of t) values j -ℤ second_value (shape_of t) values j ≡ fall (grid t samples weights) (image (grid t samples weights) (at flow)) j
  unfolding fall
  fall-is j l =
      let n = pixels-inside t.width t.height j _ l in
      ap₂ (λ (a b : ℤ). a -ℤ b) (value_at (first_of (grid t samples weights) j) n.first-in) (value_at (second_of (grid t samples weights) j) n.second-in)

  module _ (share : ℤ → ℤ) (own : WeightsAllowed t weights) where
    -- a pair's number after a step
    pub step_is : (j : ℕ) → j < pair_count (grid t samples weights) →
        step_at share (weight_at (pos t.weight) weights) (at flow) (first_value (shape_of t) values) (second_value (shape_of t) values) j ≡ stepped share (grid t samples weights) (at flow) j
    unfolding step_value stepped
    step_is j l = ap₂ (λ (w d : ℤ). clamp (neg_ℤ w) w (at flow j +ℤ share d)) (sym (weight_is t weights own j)) (fall-is j l)

    -- A step on the flow
    pub stepped-is : table (pair_count (grid t samples weights)) (step_at share (weight_at (pos t.weight) weights) (at flow) (first_value (shape_of t) values) (second_value (shape_of t) values))
        ≡ step share (grid t samples weights) flow
    unfolding step
    stepped-is = table-cong (pair_count (grid t samples weights)) step_is

    -- The first pair that would move
    pub moving_is : first_where (pair_count (grid t samples weights)) (moves_at share (weight_at (pos t.weight) weights) (at flow) (first_value (shape_of t) values) (second_value (shape_of t) values))
        ≡ first_moving share (grid t samples weights) (at flow)
    unfolding first_moving would_move
    moving_is = first_where-cong (pair_count (grid t samples weights)) (λ j l. ap (λ (z : ℤ). not (same_z z (at flow j))) (step_is j l))

  -- The sums of price and floor
  pub variation_is : (weight : ℕ → ℤ) → total (pair_count (grid t samples weights)) (variation_at weight (first_value (shape_of t) values) (second_value (shape_of t) values))
      ≡ total (pair_count (grid t samples weights)) (λ j. weight j *ℤ abs (fall (grid t samples weights) (image (grid t samples weights) (at flow)) j))
  variation_is weight = total-cong (pair_count (grid t samples weights)) (λ j l. ap (λ (d : ℤ). weight j *ℤ abs d) (fall-is j l))

  pub product_is : total (pair_count (grid t samples weights)) (product_at (at flow) (first_value (shape_of t) values) (second_value (shape_of t) values))
      ≡ total (pair_count (grid t samples weights)) (λ j. at flow j *ℤ fall (grid t samples weights) (image (grid t samples weights) (at flow)) j)
  product_is = total-cong (pair_count (grid t samples weights)) (λ j l. ap (λ (d : ℤ). at flow j *ℤ d) (fall-is j l))

  pub misfit-is : total (t.width * t.height) (λ i. square (at values i -ℤ reading_of (get_or samples i 0))) ≡ misfit (grid t samples weights) (image (grid t samples weights) (at flow))
  unfolding misfit
  misfit-is = total-cong (t.width * t.height) (λ i l. ap (λ (v : ℤ). square (v -ℤ reading_of (get_or samples i 0))) (value_at i l))
