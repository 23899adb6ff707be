-- Running sums, and that those over buffers within limits fit 64 bits. Assumes nothing.
use mathlib.Core.Path.{◌≡◌, sym, ap₂, ◌∙◌}
use mathlib.Core.List.{List}
use Prim.Native.Nat.{ℕ, ◌+◌, ◌*◌, ◌^◌, ◌≤◌, ◌<◌}
use native.Mathlib.Nat.{mul-le-mul}
use native.Mathlib.Numerals.{add-one}
use native.Mathlib.Omega.{arith}
use lib.IntN.{ℤ, nat_abs, ◌+ℤ◌, ◌-ℤ◌}
use lib.ListN.{get_or}
use Rattle.integers.specs.Whole.{square}
use Rattle.integers.specs.Sum.{total}
use mir.Syntax.{w64}
use mir.Val.{SFits}
use Rattle.integers.proofs.Machine.{fits}
use Rattle.integers.proofs.Absolute.{nat_abs-sum, nat_abs-difference, nat_abs-product, nat_abs-square}
use Rattle.integers.proofs.Total.{total-suc, total-append, nat_abs-total}
use Rattle.lists.specs.Lists.{at}
use Rattle.model.specs.Grid.{reading_of}
use Rattle.passes.specs.Limits.{Within}
use Rattle.passes.specs.Pairs.{variation_at, product_at}
use Rattle.stencil.specs.Limits.{most}
use Rattle.stencil.proofs.Readings.{reading_most}

-- one more term
pub total-more : (g : ℕ → ℤ) (n : ℕ) {s x : ℤ} → s ≡ total n g → x ≡ g n → s +ℤ x ≡ total (n + 1) g
total-more g n p q = rw (add-one n, total-suc n g) (ap₂ ◌+ℤ◌ p q)

-- n more terms
pub total-part : (g : ℕ → ℤ) (a n : ℕ) {s x : ℤ} → s ≡ total a g → x ≡ total n (λ i. g (a + i)) → s +ℤ x ≡ total (a + n) g
total-part g a n p q = ap₂ ◌+ℤ◌ p q ∙ sym (total-append a n g)

-- ---- over pixels

abbrev pub misfit_at : List ℤ → List ℕ → ℕ → ℤ
misfit_at image samples i = square (at image i -ℤ reading_of (get_or samples i 0))

module _ (image : List ℤ) (h : Within most image) (samples : List ℕ) (bytes : (i : ℕ) → get_or samples i 0 < 256) where
  pub misfit-most : (i : ℕ) → nat_abs (misfit_at image samples i) ≤ 2 ^ 42
  misfit-most i =
      let b : ℤ = reading_of (get_or samples i 0) in
      let d : nat_abs (at image i -ℤ b) ≤ 2 ^ 21 = omega (arith, h i, reading_most (bytes i), nat_abs-difference (at image i) b) in
      rw nat_abs-square (mul-le-mul d d)

  pub misfits_most : (n : ℕ) → nat_abs (total n (misfit_at image samples)) ≤ n * 2 ^ 42
  misfits_most n = nat_abs-total n (misfit_at image samples) (λ i _. misfit-most i)

-- ---- over pairs

-- what both parts come to in size
pub parts_most : (g : ℕ → ℤ) {c : ℕ} → ((i : ℕ) → nat_abs (g i) ≤ c) → (a n : ℕ) {s x : ℤ} → s ≡ total a g → x ≡ total n (λ i. g (a + i)) →
    nat_abs s + nat_abs x ≤ (a + n) * c
parts_most g m a n p q = rw (p, q) (omega (arith, nat_abs-total a g (λ i _. m i), nat_abs-total n (λ i. g (a + i)) (λ i _. m (a + i))))

-- pairs with the values x and y of their pixels
module _ (x y : ℕ → ℤ) (first_most : (j : ℕ) → nat_abs (x j) ≤ most) (second_most : (j : ℕ) → nat_abs (y j) ≤ most) where
  pub fall-most : (j : ℕ) → nat_abs (x j -ℤ y j) ≤ 2 ^ 21
  fall-most j = omega (arith, nat_abs-difference (x j) (y j), first_most j, second_most j)

  module _ (number : ℕ → ℤ) (number-most : (j : ℕ) → nat_abs (number j) ≤ most) where
    pub variation_most : (j : ℕ) → nat_abs (variation_at number x y j) ≤ 2 ^ 41
    variation_most j = rw nat_abs-product (mul-le-mul (number-most j) (fall-most j))

    pub product_most : (j : ℕ) → nat_abs (product_at number x y j) ≤ 2 ^ 41
    product_most j = rw nat_abs-product (mul-le-mul (number-most j) (fall-most j))

-- ---- a running sum of signed numbers

-- one more term fits 64 bits
pub sum_fits : (a b : ℤ) → nat_abs a + nat_abs b < 2 ^ 63 → SFits w64 (a +ℤ b)
sum_fits a b h = fits w64 (omega (arith, nat_abs-sum a b, h))
