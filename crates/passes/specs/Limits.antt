-- Limits on the numbers of a pass, within which no machine operation overflows.
use Rattle.std.specs.Prelude.{◌≡◌, List, ℕ, ◌^◌, ◌≤◌, ◌<◌, ℤ, pos, nat_abs, length, ◌≤ℤ◌}
use Rattle.model.specs.Grid.{limit}
use Rattle.lists.specs.Lists.{at}
use Rattle.layout.specs.declared.Shape.{Shape}
use Rattle.layout.specs.Runs.{pixel_count, pair_list}
use Rattle.layout.specs.Limits.{ShapeLimits}
use Rattle.stencil.specs.Limits.{most}

-- every number of a buffer is at most k in size
abbrev pub Within : ℕ → List ℤ → Type 0
Within k buffer = (i : ℕ) → nat_abs (at buffer i) ≤ k

-- the weights of `count` pairs: a part that may be empty, and the weight that stands for all of them then
pub record WeightLimits (count : ℕ) (weight : ℤ) (weights : List ℤ) : Type 0 where
  pub lent : 0 < length weights → length weights ≡ count
  pub weight_most : nat_abs weight ≤ most
  pub least : (j : ℕ) → pos 0 ≤ℤ at weights j
  pub largest : Within most weights

-- ---- a run of pairs

-- the values of its first and of its second pixels
pub record ValueLimits (first second : List ℤ) : Type 0 where
  pub same_count : length second ≡ length first
  pub count_most : length first ≤ 4096
  pub first_most : Within most first
  pub second_most : Within most second

-- and its numbers
pub record RunLimits (flow first second : List ℤ) : Type 0 where
  pub values : ValueLimits first second
  pub flow_count : length flow ≡ length first
  pub flow_most : Within most flow

-- ---- all pairs of a raster

-- its image
pub record RasterLimits (s : Shape) (image : List ℤ) : Type 0 where
  pub shape : ShapeLimits s
  pub image_length : length image ≡ pixel_count s
  pub image_most : Within most image

-- and its flow
pub record FlowLimits (s : Shape) (flow image : List ℤ) : Type 0 where
  pub raster : RasterLimits s image
  pub flow_length : length flow ≡ length (pair_list s)
  pub flow_most : Within most flow

-- ---- a quick round, over a run or over all pairs: the flow P, the numbers ahead R, the weights and the factor
pub record AheadLimits (flow ahead : List ℤ) (weight : ℤ) (weights : List ℤ) (m : ℕ) : Type 0 where
  pub same_length : length flow ≡ length ahead
  pub weight_most : nat_abs weight ≤ limit.weight
  pub weights_most : Within limit.weight weights
  pub flow_most : Within limit.weight flow
  pub factor_most : m ≤ 2 ^ 46

-- ---- pixels

-- the pixels' values and their samples
pub record MisfitLimits (image : List ℤ) (samples : List ℕ) : Type 0 where
  pub same_count : length image ≡ length samples
  pub count_most : length image ≤ limit.pixels
  pub image_most : Within most image
