-- Limits on the numbers of a row and on the buffers of a raster, within which no machine operation overflows.
use Rattle.std.specs.Prelude.{◌≡◌, List, ℕ, ◌+◌, ◌-◌, ◌*◌, ◌≤◌, ◌<◌, ℤ, nat_abs, length}
use Rattle.stencil.specs.Limits.{most}
use Rattle.passes.specs.Limits.{Within}

-- column c of a row, from the parts with the rows below and above and the numbers to the right and left
pub record ColumnLimits (below above : List ℤ) (c : ℕ) (right left : ℤ) : Type 0 where
  pub below_reach : 0 < length below → c < length below
  pub above_reach : 0 < length above → c < length above
  pub below_most : Within most below
  pub above_most : Within most above
  pub right_most : nat_abs right ≤ most
  pub left_most : nat_abs left ≤ most

-- a row, its samples and its parts of the flow
pub record RowLimits (row : List ℤ) (samples : List ℕ) (below above across : List ℤ) : Type 0 where
  pub sample_count : length samples ≡ length row
  pub across_count : length across + 1 ≡ length row
  pub below_count : 0 < length below → length below ≡ length row
  pub above_count : 0 < length above → length above ≡ length row
  pub below_most : Within most below
  pub above_most : Within most above
  pub across_most : Within most across

-- a raster of width w and height h, its samples and its flow
pub record ImageLimits (image : List ℤ) (samples : List ℕ) (flow : List ℤ) (w h : ℕ) : Type 0 where
  pub width_least : 1 ≤ w
  pub height_least : 1 ≤ h
  pub image_count : length image ≡ w * h
  pub sample_count : length samples ≡ w * h
  pub flow_count : length flow ≡ w * (h - 1) + h * (w - 1)
  pub flow_most : Within most flow

-- row r of such a raster
pub record ImageRowLimits (image : List ℤ) (samples : List ℕ) (flow : List ℤ) (w h r : ℕ) : Type 0 where
  pub raster : ImageLimits image samples flow w h
  pub row_most : r < h
