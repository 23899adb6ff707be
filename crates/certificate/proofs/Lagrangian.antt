-- The Lagrangian of a flow: the data term plus 2 × the sum of flow × fall. The flow's image is its minimum over the box,
-- with the squared distance to spare; the floor is that minimum; no price is below it. Assumes nothing.
use mathlib.Core.Path.{◌≡◌, refl, sym, ap, ap₂, ◌∙◌}
use mathlib.Core.Bool.{Bool, true, false, cond}
use Prim.Native.Nat.{ℕ, ◌<◌}
use lib.Dec.{eqb}
use lib.IntN.{ℤ, pos, ◌+ℤ◌, ◌-ℤ◌, ◌*ℤ◌}
use lib.Signed.{◌≤ℤ◌, ≤ℤ_refl}
use Rattle.integers.specs.Whole.{square}
use Rattle.integers.specs.Sum.{total}
use Rattle.integers.proofs.Parts.{parts, whole, by-≡, by-≤, of-≤}
use Rattle.integers.proofs.Ring.{*ℤ--ℤ, -ℤ-*ℤ}
use Rattle.integers.proofs.Order.{+ℤ-mono, *ℤ-mono, 0≤pos}
use Rattle.integers.proofs.Absolute.{pair-≤}
use Rattle.integers.proofs.Clamp.{clamp-≥, clamp-≤, clamp-variational}
use Rattle.integers.proofs.Total.{total-cong, total-+ℤ, total--ℤ, total-*ℤ, total-*ℤʳ, total-exchange, total_mono, total-pick}
use Rattle.model.specs.Problem.{Problem, pair_count, first_of, second_of, fall, misfit, price, Feasible, pull, image, floor, InBox, distance}

-- A pair system is sound if its box is not empty and its pairs are of its pixels
pub record Sound (p : Problem) : Type 0 where
  pub box : p.low ≤ℤ p.high
  pub first-in : (j : ℕ) → j < pair_count p → first_of p j < p.pixels
  pub second-in : (j : ℕ) → j < pair_count p → second_of p j < p.pixels

-- ---- the adjoint law

-- a pixel's value taken out of a choice
choose : (b : Bool) (a x : ℤ) → cond b (a *ℤ x) (pos 0) ≡ cond b a (pos 0) *ℤ x
choose true a x = refl
choose false a x = by-≡ (search parts depth 12) (omega whole)

-- a sum over pairs of flow × the value at one end is a sum over pixels
gather : (n m : ℕ) (end : ℕ → ℕ) → ((j : ℕ) → j < m → end j < n) → (f x : ℕ → ℤ) →
    total m (λ j. f j *ℤ x (end j)) ≡ total n (λ i. total m (λ j. cond (eqb (end j) i) (f j) (pos 0)) *ℤ x i)
gather n m end inside f x =
    total-cong m (λ j l. sym (total-pick (end j) (λ i. f j *ℤ x i) n (inside j l)))
    ∙ total-exchange m n (λ j i. cond (eqb (end j) i) (f j *ℤ x i) (pos 0))
    ∙ total-cong n (λ i l.
    total-cong m (λ j _. choose (eqb (end j) i) (f j) (x i))
    ∙ total-*ℤʳ m (λ j. cond (eqb (end j) i) (f j) (pos 0)) (x i))

-- the flow of the pairs that have pixel i at one end
at-end : (m : ℕ) (f : ℕ → ℤ) → (ℕ → ℕ) → ℕ → ℤ
at-end m f end i = total m (λ j. cond (eqb (end j) i) (f j) (pos 0))

-- Σ flow × fall over pairs is Σ pull × value over pixels: the divergence is the adjoint of the difference operator
pub adjoint : (p : Problem) → Sound p → (f x : ℕ → ℤ) →
    total (pair_count p) (λ j. f j *ℤ fall p x j) ≡ total p.pixels (λ i. pull p f i *ℤ x i)
unfolding fall pull at-end
adjoint p sound f x =
    let n : ℕ = p.pixels in
    let m : ℕ = pair_count p in
    let a : ℕ → ℤ = at-end m f (first_of p) in
    let b : ℕ → ℤ = at-end m f (second_of p) in
    total-cong m (λ j _. *ℤ--ℤ (f j) (x (first_of p j)) (x (second_of p j)))
    ∙ total--ℤ m (λ j. f j *ℤ x (first_of p j)) (λ j. f j *ℤ x (second_of p j))
    ∙ ap₂ (λ (u v : ℤ). u -ℤ v) (gather n m (first_of p) sound.first-in f x) (gather n m (second_of p) sound.second-in f x)
    ∙ sym (total--ℤ n (λ i. a i *ℤ x i) (λ i. b i *ℤ x i))
    ∙ total-cong n (λ i _. sym (-ℤ-*ℤ (a i) (b i) (x i)))

-- ---- the Lagrangian

unfoldable pub lagrangian : Problem → (ℕ → ℤ) → (ℕ → ℤ) → ℤ
lagrangian p f x = misfit p x +ℤ pos 2 *ℤ total (pair_count p) (λ j. f j *ℤ fall p x j)

-- The floor is the Lagrangian at the flow's image
pub floor-is : (p : Problem) (f : ℕ → ℤ) → floor p f ≡ lagrangian p f (image p f)
unfolding floor lagrangian
floor-is p f = refl

-- No price is below the Lagrangian of a flow within the weights
pub below_price : (p : Problem) (f x : ℕ → ℤ) → Feasible p f → lagrangian p f x ≤ℤ price p x
unfolding lagrangian price
below_price p f x within =
    +ℤ-mono (≤ℤ_refl (misfit p x))
    (*ℤ-mono (0≤pos 2) (total_mono (pair_count p) (λ j l. pair-≤ (f j) (fall p x j) (p.weight j) (within j l))))

-- one pixel's part of it
pixelwise : Problem → (ℕ → ℤ) → (ℕ → ℤ) → ℕ → ℤ
pixelwise p f x i = square (x i -ℤ p.reading i) +ℤ pos 2 *ℤ (pull p f i *ℤ x i)

by-pixels : (p : Problem) → Sound p → (f x : ℕ → ℤ) → lagrangian p f x ≡ total p.pixels (pixelwise p f x)
unfolding lagrangian misfit pixelwise
by-pixels p sound f x =
    ap (λ (s : ℤ). misfit p x +ℤ pos 2 *ℤ s) (adjoint p sound f x)
    ∙ ap (λ (s : ℤ). misfit p x +ℤ s) (sym (total-*ℤ p.pixels (pos 2) (λ i. pull p f i *ℤ x i)))
    ∙ sym (total-+ℤ p.pixels (λ i. square (x i -ℤ p.reading i)) (λ i. pos 2 *ℤ (pull p f i *ℤ x i)))

-- one pixel: x is the projection of b − q onto the box, y is in the box
pixel-law : (x y b q : ℤ) → pos 0 ≤ℤ ((y -ℤ x) *ℤ (x -ℤ (b -ℤ q))) →
    (square (x -ℤ b) +ℤ pos 2 *ℤ (q *ℤ x) +ℤ square (x -ℤ y)) ≤ℤ (square (y -ℤ b) +ℤ pos 2 *ℤ (q *ℤ y))
pixel-law x y b q h = by-≤ (search parts depth 12) (omega (whole, of-≤ h (search parts depth 12)))

-- The flow's image lies in the box ..
pub image-in_box : (p : Problem) → Sound p → (f : ℕ → ℤ) → InBox p (image p f)
unfolding image
image-in_box p sound f i l =
    let z : ℤ = p.reading i -ℤ pull p f i in
    (clamp-≥ p.low p.high z sound.box, clamp-≤ p.low p.high z sound.box)

-- .. and is the minimum of the Lagrangian over the box, with the squared distance to spare
pub minimum : (p : Problem) → Sound p → (f y : ℕ → ℤ) → InBox p y →
    (lagrangian p f (image p f) +ℤ distance p (image p f) y) ≤ℤ lagrangian p f y
unfolding distance pixelwise
minimum p sound f y inside =
    let n : ℕ = p.pixels in
    let x : ℕ → ℤ = image p f in
    let each : (i : ℕ) → i < n → (pixelwise p f x i +ℤ square (x i -ℤ y i)) ≤ℤ pixelwise p f y i =
    λ i l. pixel-law (x i) (y i) (p.reading i) (pull p f i) (projected i (inside i l))
    in
    rw (by-pixels p sound f x, by-pixels p sound f y, ← total-+ℤ n (pixelwise p f x) (λ i. square (x i -ℤ y i)))
    (total_mono n each)
  where
    projected : (i : ℕ) → (p.low ≤ℤ y i) × (y i ≤ℤ p.high) →
        pos 0 ≤ℤ ((y i -ℤ image p f i) *ℤ (image p f i -ℤ (p.reading i -ℤ pull p f i)))
    projected i b =
        unfold image in clamp-variational p.low p.high (p.reading i -ℤ pull p f i) {y = y i} b.0 b.1
