-- The pull that a pass gathers from a pixel's up to four pairs is the model's pull. Assumes nothing.
use mathlib.Core.Path.{◌≡◌, refl, sym, ap, ap₂, ◌∙◌, subst}
use mathlib.Core.Bool.{Bool, cond}
use mathlib.Core.List.{List}
use Prim.Native.Nat.{ℕ, suc, ◌+◌, ◌-◌, ◌*◌, ◌/◌, ◌%◌, ◌≤◌, ◌<◌}
use native.Mathlib.Nat.{mul-le-mul_right, div-add-mod', add-mul-div_left, div-eq_of_lt}
use native.Mathlib.Decide.{ℕ_discrete, dec_lt}
use native.Mathlib.Omega.{arith}
use borrow.Author.Tests.{eq-eqb, ne_eqb, lt-ltb, le-ltb}
use lib.Dec.{eqb, ltb}
use lib.IntN.{ℤ, pos, ◌+ℤ◌, ◌-ℤ◌}
use lib.ListN.{length, get_or}
use Rattle.integers.specs.Sum.{total}
use Rattle.integers.proofs.Total.{total-cong, total-zeros, total-append, total-pick}
use Rattle.model.specs.declared.Terms.{Terms}
use Rattle.model.specs.Problem.{Pair, pull}
use Rattle.model.specs.Grid.{pixel, grid_pairs, grid}
use Rattle.layout.proofs.Pairs.{grid-count, vertical-pair, horizontal_at, horizontal_pixel, column_inside}
use Rattle.image.specs.Pull.{right_pair, gathered}

-- ---- sums in which one term counts, or none

eqb-iff : (a b c d : ℕ) → (a ≡ b → c ≡ d) → (c ≡ d → a ≡ b) → eqb a b ≡ eqb c d
eqb-iff a b c d to from = by (ℕ_discrete a b)
  where
    by : Dec (a ≡ b) → eqb a b ≡ eqb c d
    by (yes e) = eq-eqb a b e ∙ sym (eq-eqb c d (to e))
    by (no n) = ne_eqb a b n ∙ sym (ne_eqb c d (λ e. n (from e)))

module _ (n : ℕ) (at : ℕ → ℕ) (i : ℕ) (g : ℕ → ℤ) where
  -- k is the one index below n at which i stands
  one-term : (k : ℕ) → k < n → at k ≡ i → ((j : ℕ) → j < n → at j ≡ i → j ≡ k) → total n (λ j. cond (eqb (at j) i) (g j) (pos 0)) ≡ g k
  one-term k l here only =
      total-cong n (λ j b. ap (λ (t : Bool). cond t (g j) (pos 0))
      (eqb-iff (at j) i k j (λ e. sym (only j b e)) (λ e. ap at (sym e) ∙ here)))
      ∙ total-pick k g n l

  no_term : ((j : ℕ) → j < n → at j ≡ i → ⊥) → total n (λ j. cond (eqb (at j) i) (g j) (pos 0)) ≡ pos 0
  no_term none =
      total-cong n (λ j b. ap (λ (t : Bool). cond t (g j) (pos 0)) (ne_eqb (at j) i (none j b))) ∙ total-zeros n

-- a pixel's number tells its row and its column
pixel-row : (w r c s d : ℕ) → c < w → d < w → pixel w r c ≡ pixel w s d → r ≤ s
pixel-row w r c s d b k e = by (dec_lt s r)
  where
    by : Dec (s < r) → r ≤ s
    by (no g) = omega (arith, g)
    by (yes l) = let q : suc s * w ≤ r * w = mul-le-mul_right w l in absurd (omega arith)

pixel-injective : (w r c s d : ℕ) → c < w → d < w → pixel w r c ≡ pixel w s d → (r ≡ s) × (c ≡ d)
pixel-injective w r c s d b k e =
    let q : r ≡ s = omega (arith, pixel-row w r c s d b k e, pixel-row w s d r c k b (sym e)) in
    let m : r * w ≡ s * w = ap (λ (n : ℕ). n * w) q in
    (q, omega arith)

-- horizontal pair k joins the pixel at row k / (w − 1) and column k % (w − 1) to the next
pub horizontal_here : (w row column : ℕ) → column < w - 1 →
    row * (w - 1) + column + (row * (w - 1) + column) / (w - 1) ≡ pixel w row column
horizontal_here w row column c =
    let q : (column + (w - 1) * row) / (w - 1) ≡ row = add-mul-div_left column row (omega arith) ∙ ap (λ (n : ℕ). n + row) (div-eq_of_lt c) ∙ omega arith in
    let e : row * (w - 1) + column ≡ column + (w - 1) * row = omega arith in
    ap (λ (n : ℕ). row * (w - 1) + column + n / (w - 1)) e ∙ ap (λ (n : ℕ). row * (w - 1) + column + n) q ∙ along (w - 1) w (omega arith)
  where
    along : (u v : ℕ) → v ≡ u + 1 → row * u + column + row ≡ row * v + column
    along u v e = omega (arith, ap (λ (n : ℕ). row * n) e)

horizontal_only : (w h row column k : ℕ) → column < w → k < h * (w - 1) → k + k / (w - 1) ≡ pixel w row column →
    (column < w - 1) × (k ≡ row * (w - 1) + column)
horizontal_only w h row column k c b e =
    let d : Pair = record { first = 0; second = 0 } in
    let i = pixel-injective w (k / (w - 1)) (k % (w - 1)) row column (omega (arith, column_inside w h d k b)) c (horizontal_pixel w h d k b ∙ e) in (
      subst (λ (n : ℕ). n < w - 1) i.1 (column_inside w h d k b),
      sym (div-add-mod' k (w - 1)) ∙ ap₂ (λ (q r : ℕ). q * (w - 1) + r) i.0 i.1,
    )

-- ---- the four parts of a pull

module _ (w h : ℕ) (f : ℕ → ℤ) (row column : ℕ) (r : row < h) (c : column < w) where
  -- a choice by a test that is decided
  chosen : (a b : ℕ) (s x : ℤ) → (a < b → s ≡ x) → (b ≤ a → s ≡ pos 0) → s ≡ cond (ltb a b) x (pos 0)
  chosen a b s x yes-is no_is = by (dec_lt a b)
    where
      by : Dec (a < b) → s ≡ cond (ltb a b) x (pos 0)
      by (yes l) = yes-is l ∙ ap (λ (t : Bool). cond t x (pos 0)) (sym (lt-ltb a b l))
      by (no g) =
          let l : b ≤ a = omega (arith, g) in
          no_is l ∙ ap (λ (t : Bool). cond t x (pos 0)) (sym (le-ltb a b l))

  below_part : total (w * (h - 1)) (λ j. cond (eqb j (pixel w row column)) (f j) (pos 0)) ≡ cond (ltb (row + 1) h) (f (row * w + column)) (pos 0)
  below_part = chosen (row + 1) h _ _
      (λ l.
      let q : suc row * w ≤ (h - 1) * w = mul-le-mul_right w (omega arith) in
      one-term (w * (h - 1)) (λ j. j) (pixel w row column) f (pixel w row column) (omega arith) refl (λ j _ e. e))
      (λ l.
      let q : (h - 1) * w ≤ row * w = mul-le-mul_right w (omega arith) in
      no_term (w * (h - 1)) (λ j. j) (pixel w row column) f (λ j b e. omega arith))

  above-part : total (w * (h - 1)) (λ j. cond (eqb (j + w) (pixel w row column)) (f j) (pos 0)) ≡ cond (ltb 0 row) (f ((row - 1) * w + column)) (pos 0)
  above-part = chosen 0 row _ _
      (λ l.
      let q : suc (row - 1) * w ≤ (h - 1) * w = mul-le-mul_right w (omega arith) in
      let s : suc (row - 1) * w ≡ row * w = ap (λ (n : ℕ). n * w) (omega arith) in
      one-term (w * (h - 1)) (λ j. j + w) (pixel w row column) f ((row - 1) * w + column) (omega arith) (omega arith) (λ j _ e. omega arith))
      (λ l.
      let z : row * w ≡ 0 * w = ap (λ (n : ℕ). n * w) (omega arith) in
      no_term (w * (h - 1)) (λ j. j + w) (pixel w row column) f (λ j b e. omega arith))

  -- in a row of w pixels column u has a pair to its right where u < w − 1
  within-row : (u : ℕ) → u < w - 1 → row * (w - 1) + u < h * (w - 1)
  within-row u l = let q : suc row * (w - 1) ≤ h * (w - 1) = mul-le-mul_right (w - 1) r in omega arith

  right_part : total (h * (w - 1)) (λ k. cond (eqb (k + k / (w - 1)) (pixel w row column)) (f (w * (h - 1) + k)) (pos 0)) ≡ cond (ltb (column + 1) w) (f (right_pair w h row column)) (pos 0)
  right_part = chosen (column + 1) w _ _
      (λ l.
      one-term (h * (w - 1)) (λ k. k + k / (w - 1)) (pixel w row column) (λ k. f (w * (h - 1) + k)) (row * (w - 1) + column)
      (within-row column (omega arith)) (horizontal_here w row column (omega arith))
      (λ j b e. (horizontal_only w h row column j c b e).1))
      (λ l.
      no_term (h * (w - 1)) (λ k. k + k / (w - 1)) (pixel w row column) (λ k. f (w * (h - 1) + k))
      (λ j b e. omega (arith, (horizontal_only w h row column j c b e).0)))

  left-part : total (h * (w - 1)) (λ k. cond (eqb (k + k / (w - 1) + 1) (pixel w row column)) (f (w * (h - 1) + k)) (pos 0)) ≡ cond (ltb 0 column) (f (right_pair w h row (column - 1))) (pos 0)
  left-part = chosen 0 column _ _
      (λ l.
      one-term (h * (w - 1)) (λ k. k + k / (w - 1) + 1) (pixel w row column) (λ k. f (w * (h - 1) + k)) (row * (w - 1) + (column - 1))
      (within-row (column - 1) (omega arith)) (omega (arith, horizontal_here w row (column - 1) (omega arith)))
      (λ j b e. (horizontal_only w h row (column - 1) j (omega arith) b (omega arith)).1))
      (λ l.
      no_term (h * (w - 1)) (λ k. k + k / (w - 1) + 1) (pixel w row column) (λ k. f (w * (h - 1) + k))
      (λ j b e. first-column j b e l))
    where
      first-column : (j : ℕ) → j < h * (w - 1) → j + j / (w - 1) + 1 ≡ pixel w row column → column ≤ 0 → ⊥
      first-column j b e l =
          let d : Pair = record { first = 0; second = 0 } in
          let i = pixel-injective w (j / (w - 1)) (j % (w - 1) + 1) row column (omega (arith, column_inside w h d j b)) c (omega (arith, horizontal_pixel w h d j b)) in
          omega (arith, i.1)

-- ---- together

-- the flow at the pairs that have pixel i at one end: the vertical ones and the horizontal ones
at-end : (w h : ℕ) (f : ℕ → ℤ) (i : ℕ) (d : Pair) (end : Pair → ℕ) →
    total (length (grid_pairs w h)) (λ j. cond (eqb (end (get_or (grid_pairs w h) j d)) i) (f j) (pos 0))
    ≡ total (w * (h - 1)) (λ j. cond (eqb (end (record { first = j; second = j + w })) i) (f j) (pos 0))
    +ℤ total (h * (w - 1)) (λ k. cond (eqb (end (record { first = k + k / (w - 1); second = k + k / (w - 1) + 1 })) i) (f (w * (h - 1) + k)) (pos 0))
at-end w h f i d end =
    ap (λ (n : ℕ). total n (λ j. cond (eqb (end (get_or (grid_pairs w h) j d)) i) (f j) (pos 0))) (grid-count w h)
    ∙ total-append (w * (h - 1)) (h * (w - 1)) (λ j. cond (eqb (end (get_or (grid_pairs w h) j d)) i) (f j) (pos 0))
    ∙ ap₂ (λ (a b : ℤ). a +ℤ b)
    (total-cong (w * (h - 1)) (λ j l. ap (λ (q : Pair). cond (eqb (end q) i) (f j) (pos 0)) (vertical-pair w h d j l)))
    (total-cong (h * (w - 1)) (λ k l. ap (λ (q : Pair). cond (eqb (end q) i) (f (w * (h - 1) + k)) (pos 0)) (horizontal_at w h d k l)))

-- The pull on the pixel at a row and a column is what its row gathers
pub pull-gathered : (t : Terms) (samples : List ℕ) (weights : List ℤ) (f : ℕ → ℤ) (row column : ℕ) → row < t.height → column < t.width →
    pull (grid t samples weights) f (pixel t.width row column) ≡ gathered t.width t.height f row column
unfolding pull gathered
pull-gathered t samples weights f row column r c =
    let w : ℕ = t.width in
    let h : ℕ = t.height in
    let d : Pair = record { first = 0; second = 0 } in
    ap₂ (λ (a b : ℤ). a -ℤ b)
    (at-end w h f (pixel w row column) d (λ q. q.first) ∙ ap₂ (λ (a b : ℤ). a +ℤ b) (below_part w h f row column r c) (right_part w h f row column r c))
    (at-end w h f (pixel w row column) d (λ q. q.second) ∙ ap₂ (λ (a b : ℤ). a +ℤ b) (above-part w h f row column r c) (left-part w h f row column r c))
