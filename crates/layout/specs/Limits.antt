-- Limits on a job's numbers and a raster's size, within which no machine operation overflows.
use Rattle.std.specs.Prelude.{◌*◌, ◌≤◌, ◌<◌}
use Rattle.model.specs.Grid.{limit}
use Rattle.model.specs.declared.Terms.{Terms}
use Rattle.layout.specs.declared.Shape.{Shape}

-- the levels of the box are bytes
pub record ByteLevels (t : Terms) : Type 0 where
  pub low_byte : t.low < 256
  pub high_byte : t.high < 256

-- the size
pub record ShapeLimits (s : Shape) : Type 0 where
  pub width_least : 1 ≤ s.width
  pub width_most : s.width ≤ limit.side
  pub height_least : 1 ≤ s.height
  pub pixels_most : s.width * s.height ≤ limit.pixels
