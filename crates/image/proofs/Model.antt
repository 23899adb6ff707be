-- The image of a flow is the model's, on document 01's grid. Assumes nothing.
use mathlib.Core.Path.{◌≡◌, sym, ap, ◌∙◌}
use mathlib.Core.List.{List, []}
use Prim.Native.Nat.{ℕ, ◌*◌, ◌/◌, ◌%◌, ◌<◌}
use native.Mathlib.Nat.{div-add-mod', div-lt_iff_lt-mul, mod-lt}
use native.Mathlib.Omega.{arith}
use lib.IntN.{ℤ, ◌-ℤ◌}
use lib.ListN.{get_or}
use Rattle.integers.specs.Whole.{clamp}
use Rattle.lists.specs.Lists.{at, table}
use Rattle.lists.proofs.Tables.{table-cong}
use Rattle.model.specs.declared.Terms.{Terms}
use Rattle.model.specs.Problem.{pull, image}
use Rattle.model.specs.Grid.{reading_of, low_end, high_end, grid}
use Rattle.model.specs.Calls.{image_of}
use Rattle.layout.specs.declared.Shape.{Shape}
use Rattle.layout.specs.Runs.{shape_of, pixel_count}
use Rattle.stencil.specs.Ends.{BoxEnds}
use Rattle.image.specs.Image.{image_value}
use Rattle.image.proofs.Pull.{pull-gathered}

module _ (t : Terms) (samples : List ℕ) where
  -- pixel i at its row and column
  placed : (i : ℕ) → i < t.width * t.height → (i / t.width < t.height) × (i % t.width < t.width)
  placed i l = ((div-lt_iff_lt-mul broad).1 (omega arith), mod-lt i broad)
    where
      broad : 0 < t.width
      broad = positive t.width l
        where
          positive : (w : ℕ) → i < w * t.height → 0 < w
          positive Prim.Native.Nat.zero b = absurd (omega arith)
          positive (Prim.Native.Nat.suc w) b = omega arith

  -- The image of a flow, clamped to the ends of the box
  pub image-is : (flow : List ℤ) {low high : ℤ} → BoxEnds t low high →
      table (t.width * t.height) (image_value low high samples flow t.width t.height) ≡ image_of t samples flow
  unfolding image_of image
  image-is flow ends = rw (ends.low_is, ends.high_is) (table-cong (t.width * t.height) (λ i l.
      ap (λ (q : ℤ). clamp (low_end t.low) (high_end t.high) (reading_of (get_or samples i 0) -ℤ q))
      (sym (pull-gathered t samples [] (at flow) (i / t.width) (i % t.width) (placed i l).0 (placed i l).1)
      ∙ ap (pull (grid t samples []) (at flow)) (div-add-mod' i t.width))))

  -- .. and so is what `fill_image` leaves, by whatever shape is this job's
  pub image-filled : (flow : List ℤ) {s : Shape} {filled : List ℤ} {low high : ℤ} → s ≡ shape_of t → BoxEnds t low high →
      filled ≡ table (pixel_count s) (image_value low high samples flow s.width s.height) → filled ≡ image_of t samples flow
  image-filled flow shape ends e = rw shape at e ∙ image-is flow ends
