-- The problem that document 01 solves, for any readings, any box, any weights and any list of pairs (box-constrained
-- anisotropic total variation with a quadratic data term), in whole numbers without limits (docs/SPECIFICATION.md, section 2).
use Rattle.std.specs.Prelude.{cond, List, ℕ, ◌*◌, ◌≤◌, ◌<◌, eqb, ℤ, pos, nat_abs, ◌+ℤ◌, ◌-ℤ◌, ◌*ℤ◌, length, get_or, ◌≤ℤ◌}
use Rattle.integers.specs.Whole.{abs, square, clamp}
use Rattle.integers.specs.Sum.{total}

-- Pair: a first and a second pixel (an edge of the difference operator) (SPECIFICATION 1.7)
pub record Pair : Type 0 where
  pub first : ℕ
  pub second : ℕ

-- What a price is of: the readings B (the observation), the box, and the pairs, each with its weight (the regularization
-- parameter) (SPECIFICATION 1.10)
pub record Problem : Type 0 where
  pub pixels : ℕ
  pub reading : ℕ → ℤ
  pub low : ℤ
  pub high : ℤ
  pub pairs : List Pair
  pub weight : ℕ → ℕ

abbrev pub pair_count : Problem → ℕ
pair_count p = length p.pairs

-- the pixels of pair j
abbrev pub first_of : Problem → ℕ → ℕ
first_of p j = (get_or p.pairs j (record { first = 0; second = 0 })).first

abbrev pub second_of : Problem → ℕ → ℕ
second_of p j = (get_or p.pairs j (record { first = 0; second = 0 })).second

-- Fall of pair j: the first pixel's value minus the second's (the finite difference) (SPECIFICATION 1.9)
unfoldable pub fall : Problem → (ℕ → ℤ) → ℕ → ℤ
fall p x j = x (first_of p j) -ℤ x (second_of p j)

-- Sum of (X − B)² over pixels (the data term) (SPECIFICATION 2.1)
unfoldable pub misfit : Problem → (ℕ → ℤ) → ℤ
misfit p x = total p.pixels (λ i. square (x i -ℤ p.reading i))

-- Price (the primal objective): the data term plus 2 × the sum over pairs of weight × |fall| (SPECIFICATION 2.2)
unfoldable pub price : Problem → (ℕ → ℤ) → ℤ
price p x = misfit p x +ℤ pos 2 *ℤ total (pair_count p) (λ j. pos (p.weight j) *ℤ abs (fall p x j))

-- Sum of the weights over pairs, which bounds a settled slack (SPECIFICATION 8.7)
unfoldable pub weight_sum : Problem → ℤ
weight_sum p = total (pair_count p) (λ j. pos (p.weight j))

-- A flow (the dual variable) is held to each pair's weight: from −weight to weight (SPECIFICATION 2.3)
abbrev pub Feasible : Problem → (ℕ → ℤ) → Type 0
Feasible p f = (j : ℕ) → j < pair_count p → nat_abs (f j) ≤ p.weight j

-- Pull on pixel i (the divergence): the flow where the pixel is first minus the flow where it is second (SPECIFICATION 2.4)
unfoldable pub pull : Problem → (ℕ → ℤ) → ℕ → ℤ
pull p f i =
    total (pair_count p) (λ j. cond (eqb (first_of p j) i) (f j) (pos 0))
    -ℤ total (pair_count p) (λ j. cond (eqb (second_of p j) i) (f j) (pos 0))

-- Image of a flow: B − pull, clamped to the box (the projection that recovers the primal variable) (SPECIFICATION 2.5)
unfoldable pub image : Problem → (ℕ → ℤ) → ℕ → ℤ
image p f i = clamp p.low p.high (p.reading i -ℤ pull p f i)

-- Floor (the dual objective): the data term of the flow's image plus 2 × the sum over pairs of flow × fall
-- (SPECIFICATION 2.6)
unfoldable pub floor : Problem → (ℕ → ℤ) → ℤ
floor p f = misfit p (image p f) +ℤ pos 2 *ℤ total (pair_count p) (λ j. f j *ℤ fall p (image p f) j)

-- Slack (the duality gap): price minus floor (SPECIFICATION 2.7)
unfoldable pub slack : Problem → (ℕ → ℤ) → ℤ
slack p f = price p (image p f) -ℤ floor p f

-- Image of the box: one whole value for each pixel, each within the box (a feasible primal point) (SPECIFICATION 2.8)
abbrev pub InBox : Problem → (ℕ → ℤ) → Type 0
InBox p y = (i : ℕ) → i < p.pixels → (p.low ≤ℤ y i) × (y i ≤ℤ p.high)

-- Squared distance of two images (SPECIFICATION 2.9)
unfoldable pub distance : Problem → (ℕ → ℤ) → (ℕ → ℤ) → ℤ
distance p x y = total p.pixels (λ i. square (x i -ℤ y i))

-- Whole division k: the readings, the weights and the box times k; a flow or an image times k (SPECIFICATION 2.10)
abbrev pub divided : ℕ → Problem → Problem
divided k p =
    record {
      pixels = p.pixels;
      reading = λ i. pos k *ℤ p.reading i;
      low = pos k *ℤ p.low;
      high = pos k *ℤ p.high;
      pairs = p.pairs;
      weight = λ j. k * p.weight j;
    }

abbrev pub times : ℕ → (ℕ → ℤ) → ℕ → ℤ
times k f i = pos k *ℤ f i
