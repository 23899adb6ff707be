-- The pairs of the grid: how many there are, which two pixels pair j has, and that they lie inside the raster.
-- Assumes nothing.
use mathlib.Core.Path.{◌≡◌, sym, ap, ap₂, ◌∙◌, subst}
use mathlib.Core.List.{◌++◌}
use mathlib.Core.Logic.{◌⊎◌, inl, inr, ⊎_elim}
use Prim.Native.Nat.{ℕ, zero, suc, ◌+◌, ◌-◌, ◌*◌, ◌/◌, ◌%◌, ◌≤◌, ◌<◌}
use native.Mathlib.Nat.{div-add-mod', mod-lt, div-lt_iff_lt-mul, eq-zero-or-pos, mul-le-mul_right}
use native.Mathlib.Decide.{dec_lt}
use native.Mathlib.Omega.{arith}
use lib.ListN.{length, get_or, length-append, get_or-append}
use lib.Seq.{get_or-append-add}
use Rattle.model.specs.Problem.{Pair}
use Rattle.model.specs.Grid.{pixel, vertical_pairs, horizontal_pairs, grid_pairs}
use Rattle.lists.proofs.Tables.{length-table, get_or-table}
use Rattle.lists.proofs.Chains.{length-chain, get_or-chain}

pub vertical-count : (w h : ℕ) → length (vertical_pairs w h) ≡ w * (h - 1)
unfolding vertical_pairs
vertical-count w h = length-table (w * (h - 1)) _

pub horizontal_count : (w h : ℕ) → length (horizontal_pairs w h) ≡ h * (w - 1)
unfolding horizontal_pairs
horizontal_count w h = length-chain (w - 1) _ (λ r. length-table (w - 1) _) h

pub grid-count : (w h : ℕ) → length (grid_pairs w h) ≡ w * (h - 1) + h * (w - 1)
unfolding grid_pairs
grid-count w h = rw length-append (omega (arith, vertical-count w h, horizontal_count w h))

-- There are 2 × width × height − width − height pairs
pub pair-count : (w h : ℕ) → length (grid_pairs w h) ≡ 2 * w * h - w - h
pair-count w h = grid-count w h ∙ sides w h
  where
    one_less : (n : ℕ) → suc n - 1 ≡ n
    one_less n = omega arith

    sides : (w h : ℕ) → w * (h - 1) + h * (w - 1) ≡ 2 * w * h - w - h
    sides zero h = omega arith
    sides (suc w) zero = omega arith
    sides (suc w) (suc h) =
        ap₂ (λ (a b : ℕ). suc w * a + suc h * b) (one_less h) (one_less w) ∙ omega arith

module _ (w h : ℕ) (d : Pair) where
  -- the pair of a pixel and the one below it
  pub vertical-pair : (i : ℕ) → i < w * (h - 1) → get_or (grid_pairs w h) i d ≡ record { first = i; second = i + w }
  unfolding grid_pairs vertical_pairs
  vertical-pair i l =
      get_or-append (vertical_pairs w h) (horizontal_pairs w h) d i (subst (λ (k : ℕ). i < k) (sym (vertical-count w h)) l)
      ∙ get_or-table (w * (h - 1)) _ i d l

  -- the pair of a pixel and the one to its right
  pub horizontal_pair : (row column : ℕ) → row < h → column < w - 1 →
      get_or (grid_pairs w h) (w * (h - 1) + (row * (w - 1) + column)) d
      ≡ record { first = pixel w row column; second = pixel w row column + 1 }
  unfolding grid_pairs horizontal_pairs
  horizontal_pair row column l c =
      ap (λ (k : ℕ). get_or (vertical_pairs w h ++ horizontal_pairs w h) (k + (row * (w - 1) + column)) d) (sym (vertical-count w h))
      ∙ get_or-append-add (vertical_pairs w h) (horizontal_pairs w h) (row * (w - 1) + column) d
      ∙ get_or-chain (w - 1) _ (λ r. length-table (w - 1) _) h row column d l c
      ∙ get_or-table (w - 1) _ column d c

-- a row of w pixels has w − 1 horizontal pairs
along : (q u r k w : ℕ) → q * u + r ≡ k → w ≡ u + 1 → q * w + r ≡ k + q
along q u r k w e f = ap (λ (n : ℕ). q * n + r) f ∙ omega arith

module _ (w h : ℕ) (d : Pair) where
  -- horizontal pair k, counted through all rows: its row is k / (w − 1)
  module _ (k : ℕ) (l : k < h * (w - 1)) where
    pub broad : zero < w - 1
    broad = ⊎_elim (λ (e : w - 1 ≡ 0). absurd (empty e)) (λ p. p) (eq-zero-or-pos (w - 1))
      where
        empty : w - 1 ≡ 0 → ⊥
        empty e = let z : k < h * 0 = subst (λ (n : ℕ). k < h * n) e l in omega arith

    pub row_inside : k / (w - 1) < h
    row_inside = (div-lt_iff_lt-mul broad).1 l

    pub column_inside : k % (w - 1) < w - 1
    column_inside = mod-lt k broad

    pub horizontal_pixel : pixel w (k / (w - 1)) (k % (w - 1)) ≡ k + k / (w - 1)
    horizontal_pixel =
        along (k / (w - 1)) (w - 1) (k % (w - 1)) k w (div-add-mod' k (w - 1)) (omega (arith, broad))

    pub horizontal_at : get_or (grid_pairs w h) (w * (h - 1) + k) d
        ≡ record { first = k + k / (w - 1); second = k + k / (w - 1) + 1 }
    horizontal_at =
        ap (λ (n : ℕ). get_or (grid_pairs w h) (w * (h - 1) + n) d) (sym (div-add-mod' k (w - 1)))
        ∙ horizontal_pair w h d (k / (w - 1)) (k % (w - 1)) row_inside column_inside
        ∙ ap (λ (n : ℕ). record { first = n; second = n + 1 }) horizontal_pixel

-- pair j of the grid is vertical or horizontal
pub vertical-or_horizontal : (w h j : ℕ) → j < length (grid_pairs w h) →
    (j < w * (h - 1)) ⊎ ((k : ℕ) × (k < h * (w - 1)) × (j ≡ w * (h - 1) + k))
vertical-or_horizontal w h j l = split (dec_lt j (w * (h - 1)))
  where
    split : Dec (j < w * (h - 1)) → (j < w * (h - 1)) ⊎ ((k : ℕ) × (k < h * (w - 1)) × (j ≡ w * (h - 1) + k))
    split (yes v) = inl v
    split (no g) =
        let c : w * (h - 1) ≤ j = omega (arith, g) in
        inr (j - w * (h - 1), omega (arith, grid-count w h), omega arith)

-- The pixel at a row and a column lies in the raster
pub pixel-inside : (w h row column : ℕ) → row < h → column < w → pixel w row column < w * h
pixel-inside w h row column r c =
    let q : suc row * w ≤ h * w = mul-le-mul_right w r in
    omega arith

-- Both pixels of every pair lie in the raster
pub record Inside (w h : ℕ) (p : Pair) : Type 0 where
  pub first-in : p.first < w * h
  pub second-in : p.second < w * h

pub pixels-inside : (w h j : ℕ) (d : Pair) → j < length (grid_pairs w h) → Inside w h (get_or (grid_pairs w h) j d)
pixels-inside w h j d l = ⊎_elim down across (vertical-or_horizontal w h j l)
  where
    down : j < w * (h - 1) → Inside w h (get_or (grid_pairs w h) j d)
    down v =
        let e : w * (h - 1) + w ≡ w * h = below h v in
        subst (Inside w h) (sym (vertical-pair w h d j v)) (record { first-in = omega arith; second-in = omega arith })
      where
        below : (h : ℕ) → j < w * (h - 1) → w * (h - 1) + w ≡ w * h
        below zero b = absurd (omega arith)
        below (suc h) b = let e : suc h - 1 ≡ h = omega arith in ap (λ (n : ℕ). w * n + w) e ∙ omega arith

    across : (k : ℕ) × (k < h * (w - 1)) × (j ≡ w * (h - 1) + k) → Inside w h (get_or (grid_pairs w h) j d)
    across (k, b, e) =
        let c = column_inside w h d k b in
        let first = pixel-inside w h (k / (w - 1)) (k % (w - 1)) (row_inside w h d k b) (omega arith) in
        let second = pixel-inside w h (k / (w - 1)) (k % (w - 1) + 1) (row_inside w h d k b) (omega arith) in
        subst (λ (n : ℕ). Inside w h (get_or (grid_pairs w h) n d)) (sym e)
        (subst (Inside w h) (sym (horizontal_at w h d k b))
        (record { first-in = omega (arith, horizontal_pixel w h d k b); second-in = omega (arith, horizontal_pixel w h d k b) }))
