-- A raster of one column has the limits and the image of one of one row. Assumes nothing.
use mathlib.Core.Path.{◌≡◌, refl, sym, ap, ap₂, ◌∙◌, subst⁻¹}
use mathlib.Core.Bool.{Bool, true, false, cond}
use mathlib.Core.List.{List}
use Prim.Native.Nat.{ℕ, ◌+◌, ◌-◌, ◌*◌, ◌<◌}
use native.Mathlib.Nat.{div-one, mod-one, div-eq_of_lt, mod-eq_of_lt}
use native.Mathlib.Omega.{arith}
use borrow.Author.Tests.{eqb-true}
use lib.Dec.{eqb, ltb}
use lib.IntN.{ℤ, pos, ◌-ℤ◌, +ℤ_comm}
use Rattle.lists.specs.Lists.{at, table}
use Rattle.lists.proofs.Tables.{table-cong}
use Rattle.layout.specs.declared.Shape.{Shape}
use Rattle.layout.specs.Runs.{pixel_count}
use Rattle.image.specs.Limits.{ImageLimits}
use Rattle.image.specs.Image.{image_value}
use Rattle.image.specs.Pull.{gathered, right_pair}
use Rattle.image.specs.OneRow.{as_one_row}

-- the pull on pixel i of one column, and of one row
one_row-pull : (h : ℕ) (f : ℕ → ℤ) (i : ℕ) → gathered 1 h f i 0 ≡ gathered h 1 f 0 i
unfolding gathered
one_row-pull h f i =
    let down : i * 1 + 0 ≡ right_pair h 1 0 i = omega arith in
    let up : (i - 1) * 1 + 0 ≡ right_pair h 1 0 (i - 1) = omega arith in
    rw (down, up)
    (ap₂ ◌-ℤ◌ (+ℤ_comm (cond (ltb (i + 1) h) (f (right_pair h 1 0 i)) (pos 0)) (pos 0)) (+ℤ_comm (cond (ltb 0 i) (f (right_pair h 1 0 (i - 1))) (pos 0)) (pos 0)))

one_row-pixel : (low high : ℤ) (samples : List ℕ) (flow : List ℤ) (h i : ℕ) → i < h →
    image_value low high samples flow 1 h i ≡ image_value low high samples flow h 1 i
one_row-pixel low high samples flow h i l = rw (div-one i, mod-one i, div-eq_of_lt l, mod-eq_of_lt l, one_row-pull h (at flow) i)

module _ {image : List ℤ} {samples : List ℕ} {flow : List ℤ} {s t : Shape} (e : t ≡ as_one_row s) (l : ImageLimits image samples flow s.width s.height) where
  -- what holds of the row, where there is one column, and of any other shape as it is
  by-width : (P : Shape → Type 0) → (s.width ≡ 1 → P (record { width = s.height; height = 1 })) → P s → P t
  by-width P one other = subst⁻¹ P e (split (eqb s.width 1) (λ k. one (eqb-true s.width 1 k)))
    where
      split : (b : Bool) → (b ≡ true → P (record { width = s.height; height = 1 })) → P (cond b (record { width = s.height; height = 1 }) s)
      split true f = f refl
      split false f = other

  pub one_row-limits : ImageLimits image samples flow t.width t.height
  one_row-limits = by-width (λ u. ImageLimits image samples flow u.width u.height) row l
    where
      row : s.width ≡ 1 → ImageLimits image samples flow s.height 1
      row one =
          let pixels : s.width * s.height ≡ s.height * 1 = omega (arith, ap (λ (w : ℕ). w * s.height) one) in
          record {
            width_least = l.height_least;
            height_least = omega arith;
            image_count = l.image_count ∙ pixels;
            sample_count = l.sample_count ∙ pixels;
            flow_count = l.flow_count ∙ omega (arith, ap (λ (w : ℕ). w * (s.height - 1) + s.height * (w - 1)) one);
            flow_most = l.flow_most;
          }

  pub one_row-image : (low high : ℤ) →
      table (pixel_count t) (image_value low high samples flow t.width t.height)
      ≡ table (pixel_count s) (image_value low high samples flow s.width s.height)
  one_row-image low high =
      by-width (λ u. table (pixel_count u) (image_value low high samples flow u.width u.height) ≡ table (pixel_count s) (image_value low high samples flow s.width s.height)) row refl
    where
      row : s.width ≡ 1 → table (s.height * 1) (image_value low high samples flow s.height 1) ≡ table (pixel_count s) (image_value low high samples flow s.width s.height)
      row one =
          let pixels : s.height * 1 ≡ s.height = omega arith in
          let same : 1 * s.height ≡ s.height = omega arith in
          rw (one, pixels, same) (table-cong s.height (λ i b. sym (one_row-pixel low high samples flow s.height i b)))
