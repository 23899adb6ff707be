-- A row of a raster in its buffers: the part of an image, and the parts of a flow that hold the numbers of the row's pairs.
-- What they hold is what the image gathers at each pixel of the row. Assumes nothing.
use mathlib.Core.Path.{◌≡◌, refl, sym, ap₂, ◌∙◌}
use mathlib.Core.Bool.{cond}
use mathlib.Core.List.{List, ◌∷◌, ◌++◌, append_assoc}
use mathlib.Core.Logic.{◌⊎◌, inl, inr, ⊎_elim}
use Prim.Native.Nat.{ℕ, zero, suc, ◌+◌, ◌-◌, ◌*◌, ◌/◌, ◌%◌, ◌≤◌, ◌<◌, min}
use native.Mathlib.Nat.{mul_comm, mul-sub, mul-le-mul_right, mul-add-div_right, mul-add-mod_self_right, div-eq_of_lt, mod-eq_of_lt, add-zero}
use native.Mathlib.Decide.{dec_lt}
use native.Mathlib.Omega.{arith}
use borrow.Author.Tests.{lt-ltb, le-ltb}
use lib.Dec.{ltb}
use lib.IntN.{ℤ, pos, ◌+ℤ◌, ◌-ℤ◌}
use lib.ListN.{length, get_or, take, drop}
use lib.Seq.{drop-drop}
use Rattle.lists.specs.Lists.{at, table}
use Rattle.lists.proofs.Tables.{length-table, table-cong}
use Rattle.lists.proofs.Parts.{part_at, part_or, part_length}
use Rattle.lists.proofs.Fill.{Filling, filling_part}
use Rattle.image.specs.Limits.{RowLimits}
use Rattle.passes.proofs.Elements.{part_within}
use Rattle.image.specs.Limits.{ImageLimits, ImageRowLimits}
use Rattle.image.specs.Columns.{row_value}
use Rattle.lists.specs.Placed.{placed}
use Rattle.image.specs.Image.{image_value}
use Rattle.image.specs.Pull.{gathered, right_pair}

-- the part from index a to index e, as `&l[a..e]` lends it
abbrev pub part : {A : Type 0} → ℕ → ℕ → List A → List A
part a e l = take (e - a) (drop a l)

part_number : (a e : ℕ) (l : List ℤ) (c : ℕ) → at (part a e l) c ≡ cond (ltb c (e - a)) (at l (a + c)) (pos 0)
part_number a e l c = part_or a (e - a) l c (pos 0)

length_part : {A : Type 0} (a e : ℕ) (l : List A) → e ≤ length l → length (part a e l) ≡ e - a
length_part a e l h = part_length a (e - a) l (omega arith)

-- two tests that hold together
same_test : (a b c d : ℕ) → (a < b → c < d) → (c < d → a < b) → ltb a b ≡ ltb c d
same_test a b c d f g = by (dec_lt a b)
  where
    by : Dec (a < b) → ltb a b ≡ ltb c d
    by (yes h) = lt-ltb a b h ∙ sym (lt-ltb c d (f h))
    by (no h) = let k : ¬ (c < d) = λ l. h (g l) in le-ltb a b (omega arith) ∙ sym (le-ltb c d (omega arith))

-- ---- where the parts of row r begin and end

-- r rows of t, and one more, are within h of them
pub row_in : (t : ℕ) {r h : ℕ} → r < h → r * t + t ≤ h * t
row_in t l = omega (arith, mul-le-mul_right t l)

module _ (w h r : ℕ) (hr : r < h) where
  end_most : r * w + w ≤ w * h
  end_most = omega (arith, row_in w hr)

  start-most : r * w ≤ w * (h - 1)
  start-most = rw (mul_comm w (h - 1)) (mul-le-mul_right w (omega arith))

  across_end_most : w * (h - 1) + r * (w - 1) + (w - 1) ≤ w * (h - 1) + h * (w - 1)
  across_end_most = let k = row_in (w - 1) hr in omega arith

  vertical-more : w * (h - 1) + w ≡ w * h
  vertical-more = omega (arith, mul-sub w h 1, row_in w hr)

-- A row that is not the last ends within the vertical pairs v, and the last one begins where they end. So the part with
-- the row below, from the row's start to its end but not past v, is a row long or empty
below_kind : (w h r v : ℕ) → v + w ≡ w * h → ((r + 1 < h) × (r * w + w ≤ v)) ⊎ ((h ≤ r + 1) × (v ≤ r * w))
below_kind w h r v e = by (dec_lt (r + 1) h)
  where
    by : Dec (r + 1 < h) → ((r + 1 < h) × (r * w + w ≤ v)) ⊎ ((h ≤ r + 1) × (v ≤ r * w))
    by (yes l) = inl (l, omega (arith, mul-le-mul_right w l))
    by (no l) = let m : h ≤ r + 1 = omega arith in inr (m, omega (arith, mul-le-mul_right w m))

below_test : (w h r v c : ℕ) → c < w → v + w ≡ w * h → ltb c (min (r * w + w) v - r * w) ≡ ltb (r + 1) h
below_test w h r v c hc e =
    same_test c (min (r * w + w) v - r * w) (r + 1) h
    (λ k. ⊎_elim (λ m. m.0) (λ m. omega arith) (below_kind w h r v e))
    (λ k. ⊎_elim (λ m. omega arith) (λ m. omega arith) (below_kind w h r v e))

below_whole : (w h r v : ℕ) → v + w ≡ w * h → 0 < min (r * w + w) v - r * w → min (r * w + w) v - r * w ≡ w
below_whole w h r v e k = ⊎_elim (λ m. omega arith) (λ m. omega arith) (below_kind w h r v e)

above-whole : (w r : ℕ) → 0 < r * w - (r * w - w) → r * w - (r * w - w) ≡ w
above-whole w zero k = omega arith
above-whole w (suc q) k = omega arith

across_test : (a w c : ℕ) → ltb c (a + (w - 1) - a) ≡ ltb (c + 1) w
across_test a w c = same_test c (a + (w - 1) - a) (c + 1) w (λ h. omega arith) (λ h. omega arith)

-- ---- the numbers of row r at column c

module _ (w h r : ℕ) (flow : List ℤ) where
  abbrev pub below_part : List ℤ
  below_part = part (r * w) (min (r * w + w) (w * (h - 1))) flow

  abbrev pub above_part : List ℤ
  above_part = part (r * w - w) (r * w) flow

  abbrev pub across_part : List ℤ
  across_part = part (w * (h - 1) + r * (w - 1)) (w * (h - 1) + r * (w - 1) + (w - 1)) flow

above_at : (w r : ℕ) (flow : List ℤ) (c : ℕ) → c < w → at (part (r * w - w) (r * w) flow) c ≡ cond (ltb 0 r) (at flow ((r - 1) * w + c)) (pos 0)
above_at w zero flow c hc = part_number (0 * w - w) (0 * w) flow c ∙ rw (le-ltb c (0 * w - (0 * w - w)) (omega arith))
above_at w (suc q) flow c hc =
    let start : suc q * w - w ≡ q * w = omega arith in
    let before : suc q - 1 ≡ q = omega arith in
    part_number (suc q * w - w) (suc q * w) flow c
    ∙ rw (lt-ltb c (suc q * w - (suc q * w - w)) (omega arith), lt-ltb 0 (suc q) (omega arith), start, before)

module _ (w h r : ℕ) (hr : r < h) (flow : List ℤ) (c : ℕ) (hc : c < w) where
  below_at : at (below_part w h r flow) c ≡ cond (ltb (r + 1) h) (at flow (r * w + c)) (pos 0)
  below_at =
      part_number (r * w) (min (r * w + w) (w * (h - 1))) flow c
      ∙ rw (below_test w h r (w * (h - 1)) c hc (vertical-more w h r hr))

across_at : (w h r : ℕ) (flow : List ℤ) (c : ℕ) → at (across_part w h r flow) c ≡ cond (ltb (c + 1) w) (at flow (right_pair w h r c)) (pos 0)
across_at w h r flow c =
    let start : w * (h - 1) + r * (w - 1) + c ≡ right_pair w h r c = omega arith in
    part_number (w * (h - 1) + r * (w - 1)) (w * (h - 1) + r * (w - 1) + (w - 1)) flow c
    ∙ rw (across_test (w * (h - 1) + r * (w - 1)) w c, start)

left_at : (w h r : ℕ) (flow : List ℤ) (c : ℕ) → c < w → at (pos 0 ∷ across_part w h r flow) c ≡ cond (ltb 0 c) (at flow (right_pair w h r (c - 1))) (pos 0)
left_at w h r flow zero hc = refl
left_at w h r flow (suc d) hc =
    let before : suc d - 1 ≡ d = omega arith in
    across_at w h r flow d ∙ rw (lt-ltb (d + 1) w (omega arith), lt-ltb 0 (suc d) (omega arith), before)

module _ (w h r : ℕ) (hr : r < h) (flow : List ℤ) (c : ℕ) (hc : c < w) where
  row-gathered : (at (below_part w h r flow) c +ℤ at (across_part w h r flow) c) -ℤ (at (above_part w h r flow) c +ℤ at (pos 0 ∷ across_part w h r flow) c) ≡ gathered w h (at flow) r c
  unfolding gathered
  row-gathered =
      ap₂ ◌-ℤ◌ (ap₂ ◌+ℤ◌ (below_at w h r hr flow c hc) (across_at w h r flow c)) (ap₂ ◌+ℤ◌ (above_at w r flow c hc) (left_at w h r flow c hc))

  pixel-row : (r * w + c) / w ≡ r
  pixel-row = mul-add-div_right (omega arith) r c ∙ rw (div-eq_of_lt hc) (add-zero r)

  pixel-column : (r * w + c) % w ≡ c
  pixel-column = mul-add-mod_self_right r w c ∙ mod-eq_of_lt hc

  sample_at : (samples : List ℕ) → get_or (part (r * w) (r * w + w) samples) c 0 ≡ get_or samples (r * w + c) 0
  sample_at samples = part_at (r * w) (r * w + w - r * w) samples c 0 (omega arith)

  -- a pixel of a row is a pixel of the image
  pub row-is_image : (low high : ℤ) (samples : List ℕ) → row_value low high (part (r * w) (r * w + w) samples) (below_part w h r flow) (above_part w h r flow) (across_part w h r flow) c ≡ image_value low high samples flow w h (r * w + c)
  row-is_image low high samples = rw (row-gathered, sample_at samples, pixel-row, pixel-column)

-- ---- the limits of row r

-- where its parts end, in an image, the samples and a flow of these lengths
pub record RowEnds (w h r image samples flow : ℕ) : Type 0 where
  pub row-end : r * w + w ≤ image
  pub sample_end : r * w + w ≤ samples
  pub below_end : r * w ≤ w * (h - 1)
  pub across_end : w * (h - 1) + r * (w - 1) + (w - 1) ≤ flow

module _ {image : List ℤ} {samples : List ℕ} {flow : List ℤ} {w h r : ℕ} (l : ImageRowLimits image samples flow w h r) where
  pub row_ends : RowEnds w h r (length image) (length samples) (length flow)
  row_ends =
      let m = l.raster in
      let end = end_most w h r l.row_most in
      let start = start-most w h r l.row_most in
      let across = across_end_most w h r l.row_most in
      record { row-end = omega arith; sample_end = omega arith; below_end = start; across_end = omega arith }

  row-length : length (part (r * w) (r * w + w) image) ≡ w
  row-length = let ends = row_ends in length_part (r * w) (r * w + w) image (omega arith) ∙ omega arith

  -- what a row is filled with
  pub row-table : (low high : ℤ) → table (length (part (r * w) (r * w + w) image)) (row_value low high (part (r * w) (r * w + w) samples) (below_part w h r flow) (above_part w h r flow) (across_part w h r flow)) ≡ table w (λ c. image_value low high samples flow w h (r * w + c))
  row-table low high = rw row-length (table-cong w (λ c hc. row-is_image w h r l.row_most flow c hc low high samples))

  pub row-limits : RowLimits (part (r * w) (r * w + w) image) (part (r * w) (r * w + w) samples) (below_part w h r flow) (above_part w h r flow) (across_part w h r flow)
  row-limits =
      let m = l.raster in
      let ends = row_ends in
      let below = length_part (r * w) (min (r * w + w) (w * (h - 1))) flow (omega arith) in
      let above = length_part (r * w - w) (r * w) flow (omega arith) in
      record {
        sample_count = length_part (r * w) (r * w + w) samples (omega arith) ∙ omega (arith, row-length);
        across_count = rw (length_part (w * (h - 1) + r * (w - 1)) (w * (h - 1) + r * (w - 1) + (w - 1)) flow (omega arith)) (omega (arith, row-length));
        below_count = λ k. below ∙ below_whole w h r (w * (h - 1)) (vertical-more w h r l.row_most) (rw below at k) ∙ sym row-length;
        above_count = λ k. above ∙ above-whole w r (rw above at k) ∙ sym row-length;
        below_most = part_within (r * w) (min (r * w + w) (w * (h - 1)) - r * w) flow m.flow_most;
        above_most = part_within (r * w - w) (r * w - (r * w - w)) flow m.flow_most;
        across_most = part_within (w * (h - 1) + r * (w - 1)) (w * (h - 1) + r * (w - 1) + (w - 1) - (w * (h - 1) + r * (w - 1))) flow m.flow_most;
      }

-- a part of w numbers from a on is put back
pub row_put : (a w : ℕ) (g : ℕ → ℤ) (l : List ℤ) {row : List ℤ} → row ≡ table w g → take a l ++ (row ++ drop (a + w - a) (drop a l)) ≡ placed a (table w g) l
row_put a w g l e =
    let k : a + (a + w - a) ≡ a + w = omega arith in
    rw (e, drop-drop (a + w - a) a l, length-table w g, k) (sym (append_assoc (take a l) (table w g) (drop (a + w) l)))

-- a buffer that is filled up to k takes one more row
pub filling_row : {g : ℕ → ℤ} {e : List ℤ} {k : ℕ} {l l' : List ℤ} → Filling g e k l → (w : ℕ) → k + w ≤ length e → l' ≡ placed k (table w (λ i. g (k + i))) l → Filling g e (k + w) l'
filling_row {g} {k} {l} f w h q =
    filling_part f w h ((rw (length-table w (λ i. g (k + i))) at q) ∙ append_assoc (take k l) (table w (λ i. g (k + i))) (drop (k + w) l))

-- the limits of a raster speak of its image's length alone
pub same-raster : {image image' : List ℤ} {samples : List ℕ} {flow : List ℤ} {w h : ℕ} → ImageLimits image samples flow w h → length image' ≡ length image → ImageLimits image' samples flow w h
same-raster l e =
    record {
      width_least = l.width_least;
      height_least = l.height_least;
      image_count = e ∙ l.image_count;
      sample_count = l.sample_count;
      flow_count = l.flow_count;
      flow_most = l.flow_most;
    }
