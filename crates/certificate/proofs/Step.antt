-- One step: it keeps the flow within the weights and, where it moves a pair, raises the floor; and where it moves none,
-- the slack is small. For any pair system and any rounding that obeys the rounding law. Assumes nothing.
use mathlib.Core.Path.{◌≡◌, sym, subst}
use mathlib.Core.Logic.{◌≢◌, ⊎_elim}
use Prim.Native.Nat.{ℕ, ◌+◌, ◌*◌, ◌<◌, ◌≤◌}
use native.Mathlib.Nat.{mul-le-mul_left}
use lib.IntN.{ℤ, pos, nat_abs, neg_ℤ, ◌+ℤ◌, ◌-ℤ◌, ◌*ℤ◌}
use lib.Signed.{◌≤ℤ◌, ◌<ℤ◌}
use Rattle.integers.specs.Whole.{abs, square, clamp}
use Rattle.integers.specs.Sum.{total}
use Rattle.integers.proofs.Parts.{parts, whole, by-≡, by-≤, of-≤, of-≡, of-<}
use Rattle.integers.proofs.Order.{≤ℤ-trans, ≤ℤ-total, ≤ℤ-antisym, 0≤pos, ≤→pos, ≡→≤ℤ, *ℤ-gaps, square-nonneg, square-positive}
use Rattle.integers.proofs.Absolute.{nat_abs→lower, nat_abs→upper, nat_abs-neg, pair-≤, pair-top, pair-bottom}
use Rattle.integers.proofs.Clamp.{Place, below, above, inside, clamp-place, nat_abs-clamp, clamp-step}
use Rattle.integers.proofs.Total.{total-*ℤ, total_mono, term-≤-total}
use Rattle.model.specs.Problem.{Problem, pair_count, fall, Feasible, pull, image, floor, slack}
use Rattle.model.specs.Rounds.{stepped}
use Rattle.model.proofs.Degree.{degree}
use Rattle.certificate.proofs.Lagrangian.{Sound}
use Rattle.certificate.proofs.Congruence.{floor-cong}
use Rattle.certificate.proofs.Distance.{slack-by-pairs}
use Rattle.certificate.proofs.Ascent.{ascent, meeting, meeting_degree, meeting_squares, pull-degree}
use Rattle.certificate.proofs.Rounding.{Rounding}

-- A step stays within the weights
pub stepped-feasible : (share : ℤ → ℤ) (p : Problem) (f : ℕ → ℤ) → Feasible p (stepped share p f)
unfolding stepped
stepped-feasible share p f j l = nat_abs-clamp (p.weight j) (f j +ℤ share (fall p (image p f) j))

module _ (share : ℤ → ℤ) (p : Problem) (sound : Sound p) (c : ℕ) (law : Rounding share c)
    (degrees : (i : ℕ) → i < p.pixels → degree p i ≤ c) (f : ℕ → ℤ) (within : Feasible p f)
  where
    -- what a step changes at pair j, and the squares of all its changes
    change : ℕ → ℤ
    change j = stepped share p f j -ℤ f j

    squares : ℤ
    squares = total (pair_count p) (λ j. square (change j))

    change_between : (j : ℕ) → j < pair_count p → pos 0 ≤ℤ (change j *ℤ (share (fall p (image p f) j) -ℤ change j))
    unfolding change stepped
    change_between j l =
        clamp-step (neg_ℤ (pos (p.weight j))) (pos (p.weight j)) (f j) (share (fall p (image p f) j))
        (nat_abs→lower (f j) (within j l)) (nat_abs→upper (f j) (within j l))

    -- what its falls gain
    falls_gain : (pos (c + 1) *ℤ squares) ≤ℤ total (pair_count p) (λ j. change j *ℤ fall p (image p f) j)
    unfolding squares
    falls_gain =
        ≤ℤ-trans (≡→≤ℤ (sym (total-*ℤ (pair_count p) (pos (c + 1)) (λ j. square (change j)))))
        (total_mono (pair_count p) (λ j l. law.gain (fall p (image p f) j) (change j) (change_between j l)))

    -- the rise of the floor, where at most q of the pairs that change meet at a pixel
    rise : (q : ℤ) → pos 0 ≤ℤ q → ((i : ℕ) → i < p.pixels → meeting p change i ≤ℤ q) →
        (floor p f +ℤ pos 2 *ℤ ((pos (c + 1) -ℤ q) *ℤ squares)) ≤ℤ floor p (stepped share p f)
    unfolding squares change
    rise q positive few =
        subst (λ (v : ℤ). (floor p f +ℤ pos 2 *ℤ ((pos (c + 1) -ℤ q) *ℤ squares)) ≤ℤ v)
        (floor-cong p (λ j _. back (f j) (stepped share p f j)))
        (combine (floor p f) (total (pair_count p) (λ j. change j *ℤ fall p (image p f) j))
        (total p.pixels (λ i. square (pull p change i))) q squares (floor p (λ j. f j +ℤ change j))
        (ascent p sound change f) falls_gain (pull-degree p change sound q positive few))
      where
        back : (u v : ℤ) → u +ℤ (v -ℤ u) ≡ v
        back u v = by-≡ (search parts depth 12) (omega whole)

        combine : (u a t q s v : ℤ) → (u +ℤ (pos 2 *ℤ a -ℤ t)) ≤ℤ v → (pos (c + 1) *ℤ s) ≤ℤ a → t ≤ℤ (q *ℤ (pos 2 *ℤ s)) →
            (u +ℤ pos 2 *ℤ ((pos (c + 1) -ℤ q) *ℤ s)) ≤ℤ v
        combine u a t q s v h k l =
            by-≤ (search parts depth 12)
            (omega (whole, of-≤ h (search parts depth 12), of-≤ k (search parts depth 12), of-≤ l (search parts depth 12)))

    -- A step that moves at least one pair raises the floor by at least 2 × c. Let the squares of its change sum to s: at most
    -- min(c, s) of the pairs that it moves meet at a pixel, and 2 × (c + 1 − min(c, s)) × s is least at s = 1 and at s = c,
    -- where it is 2 × c. (To the nearest, with twice the degree for a divisor, that is the divisor: `nearest-rounding`)
    pub step-raises : (j : ℕ) → j < pair_count p → stepped share p f j ≢ f j → (floor p f +ℤ pos (2 * c)) ≤ℤ floor p (stepped share p f)
    unfolding squares change
    step-raises j l moves =
        ⊎_elim
        (λ (k : squares ≤ℤ pos c).
        few (floor p f) squares (floor p (stepped share p f)) some k
        (rise squares (≤ℤ-trans (0≤pos 1) some) (λ i _. meeting_squares p change i)))
        (λ (k : pos c <ℤ squares).
        many (floor p f) squares (floor p (stepped share p f)) k
        (rise (pos c) (0≤pos c) (λ i o. ≤ℤ-trans (meeting_degree p change i) (≤→pos (degrees i o)))))
        (≤ℤ-total squares (pos c))
      where
        no_change : (u v : ℤ) → u -ℤ v ≡ pos 0 → u ≡ v
        no_change u v z = by-≡ (search parts depth 12) (omega (whole, of-≡ z (search parts depth 12)))

        some : pos 1 ≤ℤ squares
        some =
            ≤ℤ-trans (square-positive (λ z. moves (no_change (stepped share p f j) (f j) z)))
            (term-≤-total (pair_count p) (λ i _. square-nonneg (change i)) l)

        few : (u s v : ℤ) → pos 1 ≤ℤ s → s ≤ℤ pos c → (u +ℤ pos 2 *ℤ ((pos (c + 1) -ℤ s) *ℤ s)) ≤ℤ v → (u +ℤ pos (2 * c)) ≤ℤ v
        few u s v o k h =
            by-≤ (search parts depth 12)
            (omega (whole, of-≤ h (search parts depth 12), of-≤ (*ℤ-gaps o k) (search parts depth 12)))

        many : (u s v : ℤ) → pos c <ℤ s → (u +ℤ pos 2 *ℤ ((pos (c + 1) -ℤ pos c) *ℤ s)) ≤ℤ v → (u +ℤ pos (2 * c)) ≤ℤ v
        many u s v k h = by-≤ (search parts depth 12) (omega (whole, of-≤ h (search parts depth 12)))

-- ---- where no pair moves

module _ (share : ℤ → ℤ) (c : ℕ) (law : Rounding share c) (w : ℕ) (f v : ℤ) (held : nat_abs f ≤ w) where
  -- weight × |fall| − flow × fall is at most 2 c × weight: a small fall ..
  small : nat_abs v ≤ c → (pos w *ℤ abs v -ℤ f *ℤ v) ≤ℤ (pos (2 * c) *ℤ pos w)
  small h =
      by-≤ (search parts depth 12)
      (omega (whole, of-≤ (pair-≤ (neg_ℤ f) v w (subst (λ (n : ℕ). n ≤ w) (sym (nat_abs-neg f)) held)) (search parts depth 12), mul-le-mul_left w h))

  -- .. or a flow at the end of its range on the right side
  tight : f *ℤ v ≡ pos w *ℤ abs v → (pos w *ℤ abs v -ℤ f *ℤ v) ≤ℤ (pos (2 * c) *ℤ pos w)
  tight e = by-≤ (search parts depth 12) (omega (whole, of-≡ e (search parts depth 12)))

  pub pair-settled : clamp (neg_ℤ (pos w)) (pos w) (f +ℤ share v) ≡ f → (pos w *ℤ abs v -ℤ f *ℤ v) ≤ℤ (pos (2 * c) *ℤ pos w)
  pair-settled stays = ⊎_elim up_or_none down (≤ℤ-total (pos 0) (share v))
    where
      place : Place (neg_ℤ (pos w)) (pos w) (f +ℤ share v) f
      place = subst (Place (neg_ℤ (pos w)) (pos w) (f +ℤ share v)) stays (clamp-place (neg_ℤ (pos w)) (pos w) (f +ℤ share v))

      lower : neg_ℤ (pos w) ≤ℤ f
      lower = nat_abs→lower f held

      upper : f ≤ℤ pos w
      upper = nat_abs→upper f held

      at_top : pos 0 <ℤ share v → Place (neg_ℤ (pos w)) (pos w) (f +ℤ share v) f → f ≡ pos w
      at_top h (below l e) = absurd (omega (whole, of-< l (search parts depth 12), of-≤ lower (search parts depth 12)))
      at_top h (above l k e) = e
      at_top h (inside l k e) = absurd (omega (whole, of-≡ e (search parts depth 12)))

      at-bottom : share v <ℤ pos 0 → Place (neg_ℤ (pos w)) (pos w) (f +ℤ share v) f → f ≡ neg_ℤ (pos w)
      at-bottom h (below l e) = e
      at-bottom h (above l k e) = absurd (omega (whole, of-< k (search parts depth 12), of-≤ upper (search parts depth 12)))
      at-bottom h (inside l k e) = absurd (omega (whole, of-≡ e (search parts depth 12)))

      down : share v <ℤ pos 0 → (pos w *ℤ abs v -ℤ f *ℤ v) ≤ℤ (pos (2 * c) *ℤ pos w)
      down h = tight (pair-bottom f v w (at-bottom h place) (law.falling v h))

      up_or_none : pos 0 ≤ℤ share v → (pos w *ℤ abs v -ℤ f *ℤ v) ≤ℤ (pos (2 * c) *ℤ pos w)
      up_or_none h = ⊎_elim
          (λ (k : share v ≤ℤ pos 0). small (law.rest v (≤ℤ-antisym k h)))
          (λ (k : pos 0 <ℤ share v). tight (pair-top f v w (at_top k place) (law.rising v k)))
          (≤ℤ-total (share v) (pos 0))

-- The slack of a flow that no step moves is at most 4 c × the sum of the weights
pub settled-slack : (share : ℤ → ℤ) (p : Problem) (c : ℕ) → Rounding share c → (f : ℕ → ℤ) → Feasible p f →
    ((j : ℕ) → j < pair_count p → stepped share p f j ≡ f j) →
    slack p f ≤ℤ (pos (4 * c) *ℤ total (pair_count p) (λ j. pos (p.weight j)))
unfolding stepped
settled-slack share p c law f within still =
    let m : ℕ = pair_count p in
    let v : ℕ → ℤ = fall p (image p f) in
    subst (λ (s : ℤ). s ≤ℤ (pos (4 * c) *ℤ total m (λ j. pos (p.weight j)))) (sym (slack-by-pairs p f))
    (twice (total m (λ j. pos (p.weight j) *ℤ abs (v j) -ℤ f j *ℤ v j)) (total m (λ j. pos (p.weight j)))
    (≤ℤ-trans (total_mono m (λ j l. pair-settled share c law (p.weight j) (f j) (v j) (within j l) (still j l)))
    (≡→≤ℤ (total-*ℤ m (pos (2 * c)) (λ j. pos (p.weight j))))))
  where
    twice : (s t : ℤ) → s ≤ℤ (pos (2 * c) *ℤ t) → (pos 2 *ℤ s) ≤ℤ (pos (4 * c) *ℤ t)
    twice s t h = by-≤ (search parts depth 12) (omega (whole, of-≤ h (search parts depth 12)))
