-- How much a change of the flow raises the floor: by what its falls gain, less the squared pulls of the change; and those
-- pulls are bounded by how many of the pairs that change meet at a pixel. Assumes nothing.
use mathlib.Core.Path.{◌≡◌, refl, sym, ap, ap₂, ◌∙◌, subst, subst₂}
use mathlib.Core.Bool.{Bool, true, false, cond, ◌&&◌}
use Prim.Native.Nat.{ℕ, zero, suc, ◌+◌, ◌<◌}
use native.Mathlib.Omega.{arith}
use lib.Dec.{eqb}
use lib.IntN.{ℤ, pos, negsuc, ◌+ℤ◌, ◌-ℤ◌, ◌*ℤ◌, *ℤ_comm}
use lib.Signed.{◌≤ℤ◌}
use Rattle.integers.specs.Whole.{square}
use Rattle.integers.specs.Sum.{total}
use Rattle.integers.proofs.Parts.{parts, whole, by-≡, by-≤, of-≤}
use Rattle.integers.proofs.Ring.{+ℤ-*ℤ}
use Rattle.integers.proofs.Order.{≤ℤ-trans, *ℤ-mono, ≤→pos, ≡→≤ℤ, square-nonneg, *ℤ-nonneg}
use Rattle.integers.proofs.Total.{total-cong, total-+ℤ, total--ℤ, total-*ℤ, total-*ℤʳ, total-exchange, total_mono, total-nonneg, total-pick}
use Rattle.integers.proofs.Cauchy.{cauchy_schwarz_signs}
use Rattle.model.specs.Problem.{Problem, pair_count, first_of, second_of, fall, misfit, pull, image, floor, distance}
use Rattle.model.proofs.Degree.{count_where, degree}
use Rattle.certificate.proofs.Lagrangian.{Sound, adjoint, lagrangian, floor-is, image-in_box, minimum}

-- ---- the ascent inequality

lagrangian_sum : (p : Problem) (f e x : ℕ → ℤ) →
    lagrangian p (λ j. f j +ℤ e j) x ≡ lagrangian p f x +ℤ pos 2 *ℤ total (pair_count p) (λ j. e j *ℤ fall p x j)
unfolding lagrangian
lagrangian_sum p f e x =
    ap (λ (s : ℤ). misfit p x +ℤ pos 2 *ℤ s)
    (total-cong (pair_count p) (λ j _. +ℤ-*ℤ (f j) (e j) (fall p x j))
    ∙ total-+ℤ (pair_count p) (λ j. f j *ℤ fall p x j) (λ j. e j *ℤ fall p x j))
    ∙ regroup (misfit p x) (total (pair_count p) (λ j. f j *ℤ fall p x j)) (total (pair_count p) (λ j. e j *ℤ fall p x j))
  where
    regroup : (c a b : ℤ) → c +ℤ pos 2 *ℤ (a +ℤ b) ≡ (c +ℤ pos 2 *ℤ a) +ℤ pos 2 *ℤ b
    regroup c a b = by-≡ (search parts depth 12) (omega whole)

-- one pixel, with x and z its values before and after, q the pull of the change: (x − z − q)² ≥ 0
pixel-square : (x z q : ℤ) → (pos 2 *ℤ (q *ℤ x) -ℤ square q) ≤ℤ (square (x -ℤ z) +ℤ pos 2 *ℤ (q *ℤ z))
pixel-square x z q = by-≤ (search parts depth 12) (omega (whole, of-≤ (square-nonneg (x -ℤ z -ℤ q)) (search parts depth 12)))

module _ (p : Problem) (sound : Sound p) (e : ℕ → ℤ) where
  -- 2 × the sum over pixels of pull × value, by pairs
  doubled : (x : ℕ → ℤ) →
      total p.pixels (λ i. pos 2 *ℤ (pull p e i *ℤ x i)) ≡ pos 2 *ℤ total (pair_count p) (λ j. e j *ℤ fall p x j)
  doubled x =
      total-*ℤ p.pixels (pos 2) (λ i. pull p e i *ℤ x i) ∙ ap (λ (s : ℤ). pos 2 *ℤ s) (sym (adjoint p sound e x))

  -- the squares of all pixels together
  squares : (x z : ℕ → ℤ) →
      (pos 2 *ℤ total (pair_count p) (λ j. e j *ℤ fall p x j) -ℤ total p.pixels (λ i. square (pull p e i)))
      ≤ℤ (distance p x z +ℤ pos 2 *ℤ total (pair_count p) (λ j. e j *ℤ fall p z j))
  unfolding distance
  squares x z =
      let n : ℕ = p.pixels in
      let q : ℕ → ℤ = pull p e in
      subst₂ ◌≤ℤ◌
      (total--ℤ n (λ i. pos 2 *ℤ (q i *ℤ x i)) (λ i. square (q i))
      ∙ ap (λ (s : ℤ). s -ℤ total n (λ i. square (q i))) (doubled x))
      (total-+ℤ n (λ i. square (x i -ℤ z i)) (λ i. pos 2 *ℤ (q i *ℤ z i))
      ∙ ap (λ (s : ℤ). total n (λ i. square (x i -ℤ z i)) +ℤ s) (doubled z))
      (total_mono n (λ i _. pixel-square (x i) (z i) (q i)))

  -- For a change e of the flow f: floor + 2 × the sum of change × fall − the squared pulls of e ≤ floor after
  pub ascent : (f : ℕ → ℤ) →
      (floor p f
      +ℤ (pos 2 *ℤ total (pair_count p) (λ j. e j *ℤ fall p (image p f) j) -ℤ total p.pixels (λ i. square (pull p e i))))
      ≤ℤ floor p (λ j. f j +ℤ e j)
  ascent f =
      let g : ℕ → ℤ = λ j. f j +ℤ e j in
      let x : ℕ → ℤ = image p f in
      let z : ℕ → ℤ = image p g in
      let a : ℤ = pos 2 *ℤ total (pair_count p) (λ j. e j *ℤ fall p x j) -ℤ total p.pixels (λ i. square (pull p e i)) in
      subst₂ (λ (u v : ℤ). (u +ℤ a) ≤ℤ v) (sym (floor-is p f)) (sym (floor-is p g ∙ lagrangian_sum p f e z))
      (combine (lagrangian p f x) (lagrangian p f z) (distance p x z) a (pos 2 *ℤ total (pair_count p) (λ j. e j *ℤ fall p z j))
      (minimum p sound f z (image-in_box p sound g)) (squares x z))
    where
      combine : (lx lz d a b : ℤ) → (lx +ℤ d) ≤ℤ lz → a ≤ℤ (d +ℤ b) → (lx +ℤ a) ≤ℤ (lz +ℤ b)
      combine lx lz d a b h k =
          by-≤ (search parts depth 12) (omega (whole, of-≤ h (search parts depth 12), of-≤ k (search parts depth 12)))

-- ---- the squared pulls

-- 1 where a test holds, else 0
bit : Bool → ℤ
bit b = cond b (pos 1) (pos 0)

-- whether a change is not 0
changes : ℤ → Bool
changes (pos zero) = false
changes (pos (suc n)) = true
changes (negsuc n) = true

changes_bit : (x : ℤ) → bit (changes x) ≤ℤ square x
unfolding bit changes
changes_bit (pos zero) = record { le = tt }
changes_bit (pos (suc n)) = ≤→pos (omega arith)
changes_bit (negsuc n) = ≤→pos (omega arith)

changes_choice : (x : ℤ) (a : Bool) → cond a x (pos 0) ≡ cond (changes x && a) x (pos 0)
unfolding changes
changes_choice (pos zero) true = refl
changes_choice (pos zero) false = refl
changes_choice (pos (suc n)) a = refl
changes_choice (negsuc n) a = refl

-- 1 for a, −1 for b, 0 for neither or both
sign : Bool → Bool → ℤ
sign a b = bit a -ℤ bit b

sign-cubed : (a b : Bool) → sign a b *ℤ sign a b *ℤ sign a b ≡ sign a b
unfolding bit sign
sign-cubed true true = refl
sign-cubed true false = refl
sign-cubed false true = refl
sign-cubed false false = refl

sign-squared : (m a b : Bool) →
    (square (sign (m && a) (m && b)) ≤ℤ (bit a +ℤ bit b)) × (square (sign (m && a) (m && b)) ≤ℤ bit m)
unfolding bit sign
sign-squared true true true = (record { le = tt }, record { le = tt })
sign-squared true true false = (record { le = tt }, record { le = tt })
sign-squared true false true = (record { le = tt }, record { le = tt })
sign-squared true false false = (record { le = tt }, record { le = tt })
sign-squared false true true = (record { le = tt }, record { le = tt })
sign-squared false true false = (record { le = tt }, record { le = tt })
sign-squared false false true = (record { le = tt }, record { le = tt })
sign-squared false false false = (record { le = tt }, record { le = tt })

signed-choice : (a b : Bool) (x : ℤ) → cond a x (pos 0) -ℤ cond b x (pos 0) ≡ sign a b *ℤ x
unfolding bit sign
signed-choice true true x = by-≡ (search parts depth 12) (omega whole)
signed-choice true false x = by-≡ (search parts depth 12) (omega whole)
signed-choice false true x = by-≡ (search parts depth 12) (omega whole)
signed-choice false false x = by-≡ (search parts depth 12) (omega whole)

count-total : (m : ℕ) (test : ℕ → Bool) → total m (λ j. bit (test j)) ≡ pos (count_where m test)
unfolding total count_where bit
count-total zero test = refl
count-total (suc m) test = ap (λ (s : ℤ). s +ℤ bit (test m)) (count-total m test) ∙ last (test m)
  where
    last : (b : Bool) → pos (count_where m test) +ℤ cond b (pos 1) (pos 0) ≡ pos (count_where m test + cond b 1 0)
    last true = refl
    last false = refl

mono_left : (u v s : ℤ) → pos 0 ≤ℤ s → u ≤ℤ v → (u *ℤ s) ≤ℤ (v *ℤ s)
mono_left u v s h k = subst₂ ◌≤ℤ◌ (*ℤ_comm s u) (*ℤ_comm s v) (*ℤ-mono h k)

module _ (p : Problem) (e : ℕ → ℤ) where
  -- how pixel i lies in pair j: 1 as first, −1 as second, 0 as neither (or as both) or where the pair does not change
  incidence : ℕ → ℕ → ℤ
  incidence i j = sign (changes (e j) && eqb (first_of p j) i) (changes (e j) && eqb (second_of p j) i)

  pull-by-incidence : (i : ℕ) → pull p e i ≡ total (pair_count p) (λ j. incidence i j *ℤ e j)
  unfolding pull incidence
  pull-by-incidence i =
      sym (total--ℤ (pair_count p) (λ j. cond (eqb (first_of p j) i) (e j) (pos 0)) (λ j. cond (eqb (second_of p j) i) (e j) (pos 0)))
      ∙ total-cong (pair_count p) (λ j _.
      ap₂ (λ (a b : ℤ). a -ℤ b) (changes_choice (e j) (eqb (first_of p j) i)) (changes_choice (e j) (eqb (second_of p j) i))
      ∙ signed-choice (changes (e j) && eqb (first_of p j) i) (changes (e j) && eqb (second_of p j) i) (e j))

  -- the squared incidence
  met : ℕ → ℕ → ℤ
  met i j = incidence i j *ℤ incidence i j

  met_bits : (i j : ℕ) → met i j ≤ℤ (bit (eqb (first_of p j) i) +ℤ bit (eqb (second_of p j) i))
  unfolding met incidence
  met_bits i j = (sign-squared (changes (e j)) (eqb (first_of p j) i) (eqb (second_of p j) i)).0

  -- How many of the pairs that change meet at pixel i
  pub meeting : ℕ → ℤ
  meeting i = total (pair_count p) (met i)

  -- they are no more than its degree ..
  pub meeting_degree : (i : ℕ) → meeting i ≤ℤ pos (degree p i)
  unfolding meeting degree
  meeting_degree i =
      ≤ℤ-trans (total_mono (pair_count p) (λ j _. met_bits i j))
      (≡→≤ℤ (total-+ℤ (pair_count p) (λ j. bit (eqb (first_of p j) i)) (λ j. bit (eqb (second_of p j) i))
      ∙ ap₂ (λ (a b : ℤ). a +ℤ b) (count-total (pair_count p) (λ j. eqb (first_of p j) i)) (count-total (pair_count p) (λ j. eqb (second_of p j) i))))

  -- .. and no more than all that change, each of which has a square of 1 or more
  pub meeting_squares : (i : ℕ) → meeting i ≤ℤ total (pair_count p) (λ j. square (e j))
  unfolding meeting met incidence
  meeting_squares i =
      total_mono (pair_count p) (λ j _.
      ≤ℤ-trans (sign-squared (changes (e j)) (eqb (first_of p j) i) (eqb (second_of p j) i)).1 (changes_bit (e j)))

  -- the squares of the change at the pairs that pixel i meets
  around : ℕ → ℤ
  around i = total (pair_count p) (λ j. met i j *ℤ (e j *ℤ e j))

  around_nonneg : (i : ℕ) → pos 0 ≤ℤ around i
  unfolding around met
  around_nonneg i = total-nonneg (pair_count p) (λ j _. *ℤ-nonneg (square-nonneg (incidence i j)) (square-nonneg (e j)))

  pixel-pull : (i : ℕ) → square (pull p e i) ≤ℤ (meeting i *ℤ around i)
  unfolding meeting met around incidence
  pixel-pull i =
      subst (λ (q : ℤ). square q ≤ℤ (meeting i *ℤ around i)) (sym (pull-by-incidence i))
      (cauchy_schwarz_signs (incidence i) e (pair_count p)
      (λ j _. sign-cubed (changes (e j) && eqb (first_of p j) i) (changes (e j) && eqb (second_of p j) i)))

  module _ (sound : Sound p) where
    -- a pair is met by at most two pixels
    pixels-met : (j : ℕ) → j < pair_count p → total p.pixels (λ i. met i j) ≤ℤ pos 2
    unfolding bit
    pixels-met j l =
        ≤ℤ-trans (total_mono p.pixels (λ i _. met_bits i j))
        (≡→≤ℤ (total-+ℤ p.pixels (λ i. bit (eqb (first_of p j) i)) (λ i. bit (eqb (second_of p j) i))
        ∙ ap₂ (λ (a b : ℤ). a +ℤ b)
        (total-pick (first_of p j) (λ _. pos 1) p.pixels (sound.first-in j l))
        (total-pick (second_of p j) (λ _. pos 1) p.pixels (sound.second-in j l))))

    -- Where at most q of the pairs that change meet at a pixel, the squared pulls are at most 2 × q × the squares of the change
    pub pull-degree : (q : ℤ) → pos 0 ≤ℤ q → ((i : ℕ) → i < p.pixels → meeting i ≤ℤ q) →
        total p.pixels (λ i. square (pull p e i)) ≤ℤ (q *ℤ (pos 2 *ℤ total (pair_count p) (λ j. square (e j))))
    unfolding around
    pull-degree q positive few =
        let n : ℕ = p.pixels in
        let m : ℕ = pair_count p in
        ≤ℤ-trans (total_mono n (λ i l. ≤ℤ-trans (pixel-pull i) (mono_left (meeting i) q (around i) (around_nonneg i) (few i l))))
        (≤ℤ-trans (≡→≤ℤ (total-*ℤ n q around))
        (*ℤ-mono positive
        (≤ℤ-trans (≡→≤ℤ (total-exchange n m (λ i j. met i j *ℤ (e j *ℤ e j))))
        (≤ℤ-trans (total_mono m (λ j l.
        ≤ℤ-trans (≡→≤ℤ (total-*ℤʳ n (λ i. met i j) (e j *ℤ e j)))
        (mono_left (total n (λ i. met i j)) (pos 2) (e j *ℤ e j) (square-nonneg (e j)) (pixels-met j l))))
        (≡→≤ℤ (total-*ℤ m (pos 2) (λ j. square (e j))))))))
