-- Whole divisions: on division k the flow's image is k times its image, price, floor, slack and the squared distance of two
-- images are k² times as large, and the certificate holds there too, against every image of the multiplied box. So does
-- what two certificates say of their images. Assumes nothing.
use mathlib.Core.Path.{◌≡◌, refl, sym, ap, ap₂, ◌∙◌, subst, fun_ext}
use mathlib.Core.Bool.{Bool, true, false, cond}
use mathlib.Core.List.{List}
use Prim.Native.Nat.{ℕ, ◌*◌, ◌≤◌}
use native.Mathlib.Nat.{mul-le-mul_left}
use native.Mathlib.Omega.{arith}
use lib.Dec.{eqb}
use lib.IntN.{ℤ, pos, ◌+ℤ◌, ◌-ℤ◌, ◌*ℤ◌, *ℤ-zero}
use Rattle.integers.specs.Whole.{abs, square, clamp}
use Rattle.integers.specs.Sum.{total}
use Rattle.integers.proofs.Parts.{parts, whole, by-≡}
use Rattle.integers.proofs.Ring.{*ℤ--ℤ, square-*ℤ}
use Rattle.integers.proofs.Order.{*ℤ-mono, 0≤pos}
use Rattle.integers.proofs.Absolute.{nat_abs-product}
use Rattle.integers.proofs.Clamp.{clamp-scale}
use Rattle.integers.proofs.Total.{total-cong, total-*ℤ}
use Rattle.lists.specs.Lists.{at}
use Rattle.model.specs.Calls.{Answer}
use Rattle.model.specs.Problem.{Problem, pair_count, first_of, second_of, fall, misfit, price, Feasible, pull, image, floor, slack, distance, divided, times}
use Rattle.model.specs.Demand.{HasFigures, Certificate, TwoFlows}
use Rattle.certificate.proofs.Lagrangian.{Sound}
use Rattle.certificate.proofs.Certified.{certified-figures, certified-both}

-- a common factor comes out of a sum of two terms, the second doubled
factored : (c a b : ℤ) → c *ℤ a +ℤ pos 2 *ℤ (c *ℤ b) ≡ c *ℤ (a +ℤ pos 2 *ℤ b)
factored c a b = by-≡ (search parts depth 12) (omega whole)

module _ (k : ℕ) (p : Problem) where
  pub fall-scale : (x : ℕ → ℤ) (j : ℕ) → fall (divided k p) (times k x) j ≡ pos k *ℤ fall p x j
  unfolding fall
  fall-scale x j = sym (*ℤ--ℤ (pos k) (x (first_of p j)) (x (second_of p j)))

  pub pull-scale : (f : ℕ → ℤ) (i : ℕ) → pull (divided k p) (times k f) i ≡ pos k *ℤ pull p f i
  unfolding pull
  pull-scale f i =
      ap₂ (λ (a b : ℤ). a -ℤ b) (at-end (first_of p)) (at-end (second_of p))
      ∙ sym (*ℤ--ℤ (pos k) (flow-at (first_of p)) (flow-at (second_of p)))
    where
      flow-at : (ℕ → ℕ) → ℤ
      flow-at end = total (pair_count p) (λ j. cond (eqb (end j) i) (f j) (pos 0))

      out : (b : Bool) (a : ℤ) → cond b (pos k *ℤ a) (pos 0) ≡ pos k *ℤ cond b a (pos 0)
      out true a = refl
      out false a = sym (*ℤ-zero (pos k))

      at-end : (end : ℕ → ℕ) → total (pair_count p) (λ j. cond (eqb (end j) i) (pos k *ℤ f j) (pos 0)) ≡ pos k *ℤ flow-at end
      at-end end =
          total-cong (pair_count p) (λ j _. out (eqb (end j) i) (f j))
          ∙ total-*ℤ (pair_count p) (pos k) (λ j. cond (eqb (end j) i) (f j) (pos 0))

  pub image-scale : (f : ℕ → ℤ) (i : ℕ) → image (divided k p) (times k f) i ≡ pos k *ℤ image p f i
  unfolding image
  image-scale f i =
      ap (λ (q : ℤ). clamp (pos k *ℤ p.low) (pos k *ℤ p.high) (pos k *ℤ p.reading i -ℤ q)) (pull-scale f i)
      ∙ ap (clamp (pos k *ℤ p.low) (pos k *ℤ p.high)) (sym (*ℤ--ℤ (pos k) (p.reading i) (pull p f i)))
      ∙ clamp-scale p.low p.high (p.reading i -ℤ pull p f i) k

  image-times : (f : ℕ → ℤ) → image (divided k p) (times k f) ≡ times k (image p f)
  image-times f = fun_ext (image-scale f)

  pub distance-scale : (x y : ℕ → ℤ) → distance (divided k p) (times k x) (times k y) ≡ pos (k * k) *ℤ distance p x y
  unfolding distance
  distance-scale x y =
      total-cong p.pixels (λ i _. ap square (sym (*ℤ--ℤ (pos k) (x i) (y i))) ∙ square-*ℤ (pos k) (x i -ℤ y i))
      ∙ total-*ℤ p.pixels (pos (k * k)) (λ i. square (x i -ℤ y i))

  -- the data term is the squared distance to the readings
  pub misfit-scale : (x : ℕ → ℤ) → misfit (divided k p) (times k x) ≡ pos (k * k) *ℤ misfit p x
  unfolding misfit distance
  misfit-scale x = distance-scale x p.reading

  pub price-scale : (x : ℕ → ℤ) → price (divided k p) (times k x) ≡ pos (k * k) *ℤ price p x
  unfolding price
  price-scale x =
      ap₂ (λ (a b : ℤ). a +ℤ pos 2 *ℤ b) (misfit-scale x)
      (total-cong (pair_count p) (λ j _. pair j)
      ∙ total-*ℤ (pair_count p) (pos (k * k)) (λ j. pos (p.weight j) *ℤ abs (fall p x j)))
      ∙ factored (pos (k * k)) (misfit p x) (total (pair_count p) (λ j. pos (p.weight j) *ℤ abs (fall p x j)))
    where
      pair : (j : ℕ) → pos (k * p.weight j) *ℤ abs (fall (divided k p) (times k x) j) ≡ pos (k * k) *ℤ (pos (p.weight j) *ℤ abs (fall p x j))
      pair j =
          ap (λ (d : ℤ). pos (k * p.weight j) *ℤ abs d) (fall-scale x j)
          ∙ ap (λ (n : ℕ). pos (k * p.weight j * n)) (nat_abs-product (pos k) (fall p x j))
          ∙ ap pos (omega arith)

  pub floor-scale : (f : ℕ → ℤ) → floor (divided k p) (times k f) ≡ pos (k * k) *ℤ floor p f
  unfolding floor
  floor-scale f =
      ap₂ (λ (a b : ℤ). a +ℤ pos 2 *ℤ b) (ap (misfit (divided k p)) (image-times f) ∙ misfit-scale (image p f))
      (total-cong (pair_count p) (λ j _. pair j)
      ∙ total-*ℤ (pair_count p) (pos (k * k)) (λ j. f j *ℤ fall p (image p f) j))
      ∙ factored (pos (k * k)) (misfit p (image p f)) (total (pair_count p) (λ j. f j *ℤ fall p (image p f) j))
    where
      product : (a d : ℤ) → (pos k *ℤ a) *ℤ (pos k *ℤ d) ≡ (pos k *ℤ pos k) *ℤ (a *ℤ d)
      product a d = by-≡ (search parts depth 12) (omega whole)

      pair : (j : ℕ) → (pos k *ℤ f j) *ℤ fall (divided k p) (image (divided k p) (times k f)) j ≡ pos (k * k) *ℤ (f j *ℤ fall p (image p f) j)
      pair j =
          ap (λ (x : ℕ → ℤ). (pos k *ℤ f j) *ℤ fall (divided k p) x j) (image-times f)
          ∙ ap (λ (d : ℤ). (pos k *ℤ f j) *ℤ d) (fall-scale (image p f) j)
          ∙ product (f j) (fall p (image p f) j)

  pub slack-scale : (f : ℕ → ℤ) → slack (divided k p) (times k f) ≡ pos (k * k) *ℤ slack p f
  unfolding slack
  slack-scale f =
      ap₂ (λ (a b : ℤ). a -ℤ b) (ap (price (divided k p)) (image-times f) ∙ price-scale (image p f)) (floor-scale f)
      ∙ sym (*ℤ--ℤ (pos (k * k)) (price p (image p f)) (floor p f))

  -- the figures of an image and a flow, on the division
  pub figures-scale : {f x : ℕ → ℤ} {c d s : ℤ} → HasFigures p f x c d s →
      HasFigures (divided k p) (times k f) (times k x) (pos (k * k) *ℤ c) (pos (k * k) *ℤ d) (pos (k * k) *ℤ s)
  figures-scale {f} {x} g =
      let grown : ℤ → ℤ = λ a. pos (k * k) *ℤ a in
      record {
        images = λ i l. ap (λ (a : ℤ). pos k *ℤ a) (g.images i l) ∙ sym (image-scale f i);
        prices = ap grown g.prices ∙ sym (price-scale x);
        floors = ap grown g.floors ∙ sym (floor-scale f);
        slacks = ap grown g.slacks ∙ sym (slack-scale f);
      }

  sound_scale : Sound p → Sound (divided k p)
  sound_scale s = record { box = *ℤ-mono (0≤pos k) s.box; first-in = s.first-in; second-in = s.second-in }

  feasible-scale : (f : ℕ → ℤ) → Feasible p f → Feasible (divided k p) (times k f)
  feasible-scale f within j l =
      subst (λ (n : ℕ). n ≤ k * p.weight j) (sym (nat_abs-product (pos k) (f j))) (mul-le-mul_left k (within j l))

-- The certificate of a flow within the weights, of a buffer that holds its image, and of its figures
pub certificate : (p : Problem) → Sound p → (flow values : List ℤ) (a : Answer) → Feasible p (at flow) →
    HasFigures p (at flow) (at values) a.price a.floor a.slack → Certificate p flow values a
certificate p sound flow values a within g =
    record {
      within = within;
      figures = g;
      here = certified-figures p sound (at flow) within g;
      scaled = λ k _. figures-scale k p g;
      divisions =
          λ k _.
          certified-figures (divided k p) (sound_scale k p sound) (times k (at flow)) (feasible-scale k p (at flow) within) (figures-scale k p g);
    }

-- Request F-5 of two images, from their certificates alone
pub two_flows : (p : Problem) {f g x y : List ℤ} {a b : Answer} → Certificate p f x a → Certificate p g y b → TwoFlows p f g x y a b
two_flows p {f} {g} {x} {y} c d =
    record {
      one = c;
      other = d;
      here = certified-both p (at g) c.here d.within d.figures;
      grown = λ k _. distance-scale k p (at x) (at y);
      divisions =
          λ k l.
          certified-both (divided k p) (times k (at g)) (c.divisions k l) (feasible-scale k p (at g) d.within) (d.scaled k l);
    }
