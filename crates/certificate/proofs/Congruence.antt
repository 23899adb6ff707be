-- The definitions see an image only at the pixels and a flow only at the pairs, so what agrees there may stand for one
-- another: a buffer's list for the function that it was filled from. Assumes nothing.
use mathlib.Core.Path.{◌≡◌, refl, ap, ap₂, fun_ext}
use mathlib.Core.Bool.{cond}
use Prim.Native.Nat.{ℕ, ◌<◌}
use lib.Dec.{eqb}
use lib.IntN.{ℤ, pos, ◌+ℤ◌, ◌-ℤ◌, ◌*ℤ◌}
use Rattle.integers.specs.Whole.{abs, square, clamp}
use Rattle.integers.specs.Sum.{total}
use Rattle.integers.proofs.Total.{total-cong}
use Rattle.model.specs.Problem.{Problem, pair_count, first_of, second_of, fall, misfit, price, pull, image, floor, slack, distance}
use Rattle.certificate.proofs.Lagrangian.{Sound}

-- the same at every index below n
abbrev pub Agree : ℕ → (ℕ → ℤ) → (ℕ → ℤ) → Type 0
Agree n x y = (i : ℕ) → i < n → x i ≡ y i

pub distance-cong : (p : Problem) {x y v w : ℕ → ℤ} → Agree p.pixels x v → Agree p.pixels y w → distance p x y ≡ distance p v w
unfolding distance
distance-cong p same also = total-cong p.pixels (λ i l. ap₂ (λ (a b : ℤ). square (a -ℤ b)) (same i l) (also i l))

module _ (p : Problem) (sound : Sound p) {x y : ℕ → ℤ} (same : Agree p.pixels x y) where
  pub fall-cong : (j : ℕ) → j < pair_count p → fall p x j ≡ fall p y j
  unfolding fall
  fall-cong j l = ap₂ (λ (a b : ℤ). a -ℤ b) (same (first_of p j) (sound.first-in j l)) (same (second_of p j) (sound.second-in j l))

  -- the data term is the squared distance to the readings
  misfit-cong : misfit p x ≡ misfit p y
  unfolding misfit distance
  misfit-cong = distance-cong p {y = p.reading} {w = p.reading} same (λ i l. refl)

  pub price-cong : price p x ≡ price p y
  unfolding price
  price-cong =
      ap₂ (λ (a b : ℤ). a +ℤ pos 2 *ℤ b) misfit-cong
      (total-cong (pair_count p) (λ j l. ap (λ (d : ℤ). pos (p.weight j) *ℤ abs d) (fall-cong j l)))

module _ (p : Problem) {f g : ℕ → ℤ} (same : Agree (pair_count p) f g) where
  pub pull-cong : (i : ℕ) → pull p f i ≡ pull p g i
  unfolding pull
  pull-cong i = ap₂ (λ (a b : ℤ). a -ℤ b) (at-end (first_of p)) (at-end (second_of p))
    where
      at-end : (end : ℕ → ℕ) → total (pair_count p) (λ j. cond (eqb (end j) i) (f j) (pos 0)) ≡ total (pair_count p) (λ j. cond (eqb (end j) i) (g j) (pos 0))
      at-end end = total-cong (pair_count p) (λ j l. ap (λ (v : ℤ). cond (eqb (end j) i) v (pos 0)) (same j l))

  pub image-cong : image p f ≡ image p g
  unfolding image
  image-cong = fun_ext (λ i. ap (λ (v : ℤ). clamp p.low p.high (p.reading i -ℤ v)) (pull-cong i))

  pub floor-cong : floor p f ≡ floor p g
  unfolding floor
  floor-cong =
      ap₂ (λ (a b : ℤ). a +ℤ pos 2 *ℤ b) (ap (misfit p) image-cong)
      (total-cong (pair_count p) (λ j l. ap₂ (λ (a b : ℤ). a *ℤ b) (same j l) (ap (λ (x : ℕ → ℤ). fall p x j) image-cong)))

  pub slack-cong : slack p f ≡ slack p g
  unfolding slack
  slack-cong = ap₂ (λ (a b : ℤ). a -ℤ b) (ap (price p) image-cong) floor-cong
