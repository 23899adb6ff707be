-- The image of a flow.
use Rattle.std.specs.Prelude.{List, ℕ, ◌/◌, ◌%◌, ℤ, ◌-ℤ◌, get_or}
use Rattle.integers.specs.Whole.{clamp}
use Rattle.lists.specs.Lists.{at}
use Rattle.model.specs.Grid.{reading_of}
use Rattle.image.specs.Pull.{gathered}

-- pixel i of the image on a raster of width w and height h
abbrev pub image_value : ℤ → ℤ → List ℕ → List ℤ → ℕ → ℕ → ℕ → ℤ
image_value low high samples flow w h i =
    clamp low high (reading_of (get_or samples i 0) -ℤ gathered w h (at flow) (i / w) (i % w))
