-- An allowed job is within the limits of the passes. Assumes nothing.
use mathlib.Core.Path.{◌≡◌, sym, ap, ◌∙◌, subst}
use mathlib.Core.List.{List, []}
use Prim.Native.Nat.{ℕ, ◌≤◌, ◌<◌}
use native.Mathlib.Omega.{arith}
use lib.IntN.{ℤ, pos}
use lib.ListN.{length, get_or}
use lib.Signed.{◌≤ℤ◌}
use mir.Syntax.{w8}
use mir.Val.{Fits}
use Rattle.integers.proofs.Absolute.{nat_abs-upto}
use Rattle.model.specs.declared.Terms.{Terms}
use Rattle.lists.specs.Lists.{at}
use Rattle.model.specs.Problem.{Feasible, image, InBox}
use Rattle.model.specs.Grid.{limit, grid}
use Rattle.model.specs.Calls.{pixels_of, pairs_of, image_of}
use Rattle.model.specs.Accepted.{TermsAllowed, WeightsAllowed}
use Rattle.model.proofs.Weights.{weight_most}
use Rattle.lists.proofs.Tables.{length-table}
use Rattle.model.proofs.Range.{widest_fits}
use Rattle.calls.proofs.Bounds as Bounds
use Rattle.calls.proofs.Bounds.{value_least, value_most, image-inside}
use Rattle.layout.specs.Runs.{shape_of}
use Rattle.stencil.specs.Limits.{most}
use Rattle.passes.specs.Limits.{Within, WeightLimits, RasterLimits, FlowLimits, MisfitLimits}
use Rattle.passes.proofs.Model.{shape-limits, weight-limits}
use Rattle.passes.proofs.Elements.{within-below}
use Rattle.model.proofs.Answers.{held-image}

module _ (t : Terms) (samples : List ℕ) (weights : List ℤ) where
  pub with_bytes : TermsAllowed t → WeightsAllowed t weights → t.high < 256 → ((i : ℕ) → get_or samples i 0 < 256) → Bounds.Allowed t samples weights
  with_bytes a w high bytes = record { terms = a; pair_weights = w; high_byte = omega arith; bytes = λ i. omega (arith, bytes i) }

  -- .. by what a slice of bytes says of its samples
  pub with_codes : TermsAllowed t → WeightsAllowed t weights → t.high < 256 → ((i : ℕ) → Fits w8 (get_or samples i 0)) → Bounds.Allowed t samples weights
  with_codes a w high codes = with_bytes a w high (λ i. (codes i).fits)

  -- a flow within the weights
  pub flow_most : (flow : List ℤ) → length flow ≡ pairs_of t → WeightsAllowed t weights → t.weight ≤ limit.weight → Feasible (grid t samples weights) (at flow) →
      Within most flow
  flow_most flow n w h within = within-below flow (λ j l. omega (arith, within j (rw n at l), weight_most t weights w h j))

  module _ (ok : Bounds.Allowed t samples weights) where
    -- the weights of the pairs, where each counts once without them
    pub own-weights : WeightLimits (pairs_of t) (pos 1) weights
    own-weights = weight-limits t weights ok.pair_weights (pos 1) (omega arith)

    -- an image of the box
    module _ (values : List ℤ) (n : length values ≡ pixels_of t) (inside : InBox (grid t samples weights) (at values)) where
      image_most : Within most values
      image_most = within-below values (λ i l. omega (
        arith,
        widest_fits,
        nat_abs-upto (value_least t samples weights ok (at values) inside i (rw n at l)) (value_most t samples weights ok (at values) inside i (rw n at l)),
      ))

      pub raster-limits : RasterLimits (shape_of t) values
      raster-limits = record { shape = shape-limits ok.terms; image_length = n; image_most = image_most }

      pub misfit-limits : length samples ≡ pixels_of t → MisfitLimits values samples
      misfit-limits m =
          record {
            same_count = n ∙ sym m;
            count_most = rw n ok.terms.pixels_most;
            image_most = image_most;
          }

    -- a flow within the weights, and its image
    module _ (flow : List ℤ) (n : length flow ≡ pairs_of t) (within : Feasible (grid t samples weights) (at flow)) where
      module _ {values : List ℤ} (e : values ≡ image_of t samples flow) where
        pub image-size : length values ≡ pixels_of t
        unfolding image_of
        image-size = ap length e ∙ length-table (pixels_of t) (image (grid t samples []) (at flow))

        pub image-inside-box : InBox (grid t samples weights) (at values)
        image-inside-box i l =
            subst (λ (x : ℤ). ((grid t samples weights).low ≤ℤ x) × (x ≤ℤ (grid t samples weights).high)) (sym (held-image t samples weights flow e i l))
            (image-inside t samples weights ok (at flow) i l)

        pub flow-limits : FlowLimits (shape_of t) flow values
        flow-limits = record { raster = raster-limits values image-size image-inside-box; flow_length = n; flow_most = flow_most flow n ok.pair_weights ok.terms.weight_most within }
