-- What the passes of a round ask and leave: the image of a flow, then all pairs. Assumes nothing.
use mathlib.Core.Path.{◌≡◌, ap, ◌∙◌, sym, subst}
use mathlib.Core.List.{List, []}
use Prim.Native.Nat.{ℕ, ◌*◌, ◌<◌}
use native.Mathlib.Nat.{le_trans}
use native.Mathlib.Omega.{arith}
use lib.Dec.{lit≤}
use lib.IntN.{ℤ, pos}
use lib.ListN.{length}
use Rattle.integers.proofs.Clamp.{clamp-size, nat_abs-clamp}
use Rattle.model.specs.declared.Terms.{Terms}
use Rattle.lists.specs.Lists.{at}
use Rattle.model.specs.Problem.{pair_count, image}
use Rattle.model.specs.Grid.{limit, weight_of, low_end, high_end, grid_pairs, grid}
use Rattle.model.specs.Rounds.{stepped, step}
use Rattle.model.specs.Calls.{pairs_of, image_of}
use Rattle.lists.proofs.Tables.{length-table}
use Rattle.layout.proofs.Pairs.{grid-count}
use Rattle.model.proofs.Range.{widest_fits, low-size, high-size}
use Rattle.model.proofs.Weights.{weight_most}
use Rattle.layout.specs.Runs.{shape_of}
use Rattle.stencil.specs.Limits.{most}
use Rattle.passes.specs.Limits.{Within, WeightLimits, FlowLimits}
use Rattle.passes.proofs.Elements.{within-table}
use Rattle.image.specs.Limits.{ImageLimits}
use Rattle.model.specs.Accepted.{TermsAllowed, WeightsAllowed}
use Rattle.passes.proofs.Model.{shape-limits, weight-limits}

module _ (t : Terms) (samples : List ℕ) where
  -- a flow's image is within the limits of a pass
  pub image_most : t.low < 256 → t.high < 256 → (flow : List ℤ) → Within most (image_of t samples flow)
  unfolding image_of image
  image_most l u flow =
      within-table (t.width * t.height) (image (grid t samples []) (at flow))
      (λ i _. le_trans (clamp-size (low_end t.low) (high_end t.high) _ (low-size t.low l) (high-size t.high u)) (le_trans widest_fits (lit≤ tt)))

module _ (t : Terms) (samples : List ℕ) (weights : List ℤ) (limits : TermsAllowed t) (own : WeightsAllowed t weights) where
  -- and a step within that of weights
  pub step-within : (share : ℤ → ℤ) (flow : List ℤ) → Within limit.weight (step share (grid t samples weights) flow)
  unfolding step stepped
  step-within share flow =
      within-table (pair_count (grid t samples weights)) (stepped share (grid t samples weights) (at flow)) (λ j _.
      le_trans (nat_abs-clamp (weight_of t weights j) _) (weight_most t weights own limits.weight_most j))

-- an image has a value for each pixel
pub image-size : (t : Terms) (samples : List ℕ) (flow : List ℤ) {values : List ℤ} → values ≡ image_of t samples flow → length values ≡ t.width * t.height
unfolding image_of
image-size t samples flow e = ap length e ∙ length-table (t.width * t.height) (image (grid t samples []) (at flow))

module _ (t : Terms) (samples : List ℕ) {flow values : List ℤ} (limits : TermsAllowed t)
    (flow_length : length flow ≡ length (grid_pairs t.width t.height)) (flow_most : Within most flow)
  where
    pub fill_limits : length samples ≡ t.width * t.height → length values ≡ t.width * t.height →
        ImageLimits values samples flow t.width t.height
    fill_limits s v =
        record {
          width_least = limits.width_least;
          height_least = limits.height_least;
          image_count = v;
          sample_count = s;
          flow_count = flow_length ∙ grid-count t.width t.height;
          flow_most = flow_most;
        }

    pub flow-limits : t.low < 256 → t.high < 256 → values ≡ image_of t samples flow → FlowLimits (shape_of t) flow values
    flow-limits l u e =
        record {
          raster =
              record {
                shape = shape-limits limits;
                image_length = image-size t samples flow e;
                image_most = subst (Within most) (sym e) (image_most t samples l u flow);
              };
          flow_length = flow_length;
          flow_most = flow_most;
        }

-- the weights of the pairs, and the terms' that stands for them where there are none
pub pair_weights : (t : Terms) (weights : List ℤ) → TermsAllowed t → WeightsAllowed t weights → WeightLimits (pairs_of t) (pos t.weight) weights
pair_weights t weights limits own = weight-limits t weights own (pos t.weight) (omega (arith, limits.weight_most))
