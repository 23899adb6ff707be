-- Steady rounds: how they end, how often they can move, and when they settle. For any pair system and any rounding that
-- obeys the rounding law. Assumes nothing.
use mathlib.Core.Path.{◌≡◌, refl, sym, ap, ◌∙◌, subst}
use mathlib.Core.Bool.{Bool, true, false, not, true≢false}
use mathlib.Core.List.{List}
use mathlib.Core.Logic.{◌≢◌}
use Prim.Native.Nat.{ℕ, zero, suc, ◌+◌, ◌*◌, ◌≤◌, ◌<◌}
use native.Mathlib.Omega.{arith}
use borrow.Author.Tests.{ltb-true, ltb-false, not-true, not-false}
use lib.Dec.{ltb}
use lib.IntN.{ℤ, pos, nat_abs, ◌+ℤ◌, ◌-ℤ◌, ◌*ℤ◌}
use lib.ListN.{length}
use lib.Signed.{◌≤ℤ◌, ◌<ℤ◌}
use Rattle.integers.specs.Sum.{total}
use Rattle.integers.specs.Whole.{same_z, nearest}
use Rattle.integers.proofs.Parts.{parts, whole, by-≤, of-≤, of-<}
use Rattle.integers.proofs.Order.{same_z-true, same_z-false}
use Rattle.lists.specs.Lists.{at}
use Rattle.model.specs.Problem.{Problem, pair_count, Feasible, image, price, floor, slack}
use Rattle.model.specs.Rounds.{stepped, step, would_move, first_moving, Steady, one_more, steady_rounds}
use Rattle.lists.proofs.Tables.{get_or-table}
use Rattle.lists.proofs.First.{first_where-first}
use Rattle.model.proofs.Sizes.{step-size}
use Rattle.model.proofs.Degree.{degree}
use Rattle.certificate.proofs.Lagrangian.{Sound, image-in_box}
use Rattle.certificate.proofs.Congruence.{floor-cong}
use Rattle.certificate.proofs.Distance.{floor-below}
use Rattle.certificate.proofs.Rounding.{Rounding, nearest-rounding}
use Rattle.certificate.proofs.Step.{stepped-feasible, step-raises, settled-slack}

module _ (share : ℤ → ℤ) (p : Problem) where
  -- a step's list holds the stepped numbers
  pub step-at : (flow : List ℤ) (j : ℕ) → j < pair_count p → at (step share p flow) j ≡ stepped share p (at flow) j
  unfolding step
  step-at flow j l = get_or-table (pair_count p) (stepped share p (at flow)) j (pos 0) l

  pub step-feasible : (flow : List ℤ) → Feasible p (at (step share p flow))
  step-feasible flow j l =
      subst (λ (z : ℤ). nat_abs z ≤ p.weight j) (sym (step-at flow j l)) (stepped-feasible share p (at flow) j l)

  -- what the test before a round tells
  pub moving : (f : ℕ → ℤ) → first_moving share p f < pair_count p → stepped share p f (first_moving share p f) ≢ f (first_moving share p f)
  unfolding first_moving would_move
  moving f l =
      let k : ℕ = first_moving share p f in
      same_z-false (not-true (same_z (stepped share p f k) (f k)) ((first_where-first (pair_count p) (would_move share p f)).found l))

  pub resting : (f : ℕ → ℤ) → pair_count p ≤ first_moving share p f → (j : ℕ) → j < pair_count p → stepped share p f j ≡ f j
  unfolding first_moving would_move
  resting f h j l =
      same_z-true (not-false (same_z (stepped share p f j) (f j))
      ((first_where-first (pair_count p) (would_move share p f)).before j (omega arith)))

-- How steady rounds with allowance a end that began with a flow: s is within the weights, each round has raised the
-- floor by r, settled means that no pair would move, and otherwise the allowance is used up and some pair would
pub record Ended (share : ℤ → ℤ) (p : Problem) (r a : ℕ) (flow : List ℤ) (s : Steady) : Type 0 where
  pub size : length s.flow ≡ pair_count p
  pub feasible : Feasible p (at s.flow)
  pub raised : (floor p (at flow) +ℤ pos (r * s.moved)) ≤ℤ floor p (at s.flow)
  pub at_rest : s.settled ≡ true → (j : ℕ) → j < pair_count p → stepped share p (at s.flow) j ≡ at s.flow j
  pub used_up : s.settled ≡ false → s.moved ≡ a
  pub unrest : s.settled ≡ false → (j : ℕ) × (j < pair_count p) × (stepped share p (at s.flow) j ≢ at s.flow j)

module _ (share : ℤ → ℤ) (p : Problem) (sound : Sound p) (c : ℕ) (law : Rounding share c)
    (degrees : (i : ℕ) → i < p.pixels → degree p i ≤ c)
  where
    -- a round that moves a pair raises the floor
    pub round_raises : (flow : List ℤ) → Feasible p (at flow) → (j : ℕ) → j < pair_count p → stepped share p (at flow) j ≢ at flow j →
        (floor p (at flow) +ℤ pos (2 * c)) ≤ℤ floor p (at (step share p flow))
    round_raises flow within j l moves =
        subst (λ (v : ℤ). (floor p (at flow) +ℤ pos (2 * c)) ≤ℤ v) (floor-cong p (λ i k. sym (step-at share p flow i k)))
        (step-raises share p sound c law degrees (at flow) within j l moves)

    -- no round made: nothing moved
    unmoved : (a : ℕ) (flow : List ℤ) (t : Bool) → length flow ≡ pair_count p → Feasible p (at flow) →
        ltb (first_moving share p (at flow)) (pair_count p) ≡ not t → (t ≡ false → a ≡ 0) →
        Ended share p (2 * c) a flow (record { flow = flow; moved = 0; settled = t })
    unmoved a flow t size within tested none =
        record {
          size = size;
          feasible = within;
          raised = nothing (floor p (at flow));
          at_rest = λ e. resting share p (at flow) (ltb-false (first_moving share p (at flow)) (pair_count p) (tested ∙ ap not e));
          used_up = λ e. sym (none e);
          unrest =
              λ e.
              let l = ltb-true (first_moving share p (at flow)) (pair_count p) (tested ∙ ap not e) in
              (first_moving share p (at flow), l, moving share p (at flow) l);
        }
      where
        nothing : (v : ℤ) → (v +ℤ pos (2 * c * 0)) ≤ℤ v
        nothing v = by-≤ (search parts depth 12) (omega whole)

    -- one round before others
    one-round : (a : ℕ) (flow : List ℤ) (s : Steady) → (floor p (at flow) +ℤ pos (2 * c)) ≤ℤ floor p (at (step share p flow)) →
        Ended share p (2 * c) a (step share p flow) s → Ended share p (2 * c) (suc a) flow (one_more s)
    one-round a flow s risen e =
        record {
          size = e.size;
          feasible = e.feasible;
          raised = longer (floor p (at flow)) (floor p (at (step share p flow))) (floor p (at s.flow)) s.moved risen e.raised;
          at_rest = e.at_rest;
          used_up = λ t. ap suc (e.used_up t);
          unrest = e.unrest;
        }
      where
        longer : (u v w : ℤ) (k : ℕ) → (u +ℤ pos (2 * c)) ≤ℤ v → (v +ℤ pos (2 * c * k)) ≤ℤ w → (u +ℤ pos (2 * c * suc k)) ≤ℤ w
        longer u v w k h l =
            by-≤ (search parts depth 12) (omega (whole, of-≤ h (search parts depth 12), of-≤ l (search parts depth 12)))

    pub steady_ends : (a : ℕ) (flow : List ℤ) → length flow ≡ pair_count p → Feasible p (at flow) →
        Ended share p (2 * c) a flow (steady_rounds share p a flow)
    unfolding steady_rounds
    steady_ends zero flow size within =
        unmoved 0 flow (not (ltb (first_moving share p (at flow)) (pair_count p))) size within
        (twice_not (ltb (first_moving share p (at flow)) (pair_count p))) (λ _. refl)
      where
        twice_not : (b : Bool) → b ≡ not (not b)
        twice_not true = refl
        twice_not false = refl
    steady_ends (suc a) flow size within =
        go (ltb (first_moving share p (at flow)) (pair_count p)) refl
        (steady_ends a (step share p flow) (step-size share p flow) (step-feasible share p flow))
      where
        go : (b : Bool) → ltb (first_moving share p (at flow)) (pair_count p) ≡ b →
            Ended share p (2 * c) a (step share p flow) (steady_rounds share p a (step share p flow)) →
            Ended share p (2 * c) (suc a) flow
            (elim b as (λ _. Steady) [
              | true ↦ one_more (steady_rounds share p a (step share p flow))
              | false ↦ record { flow = flow; moved = 0; settled = true }
            ])
        go true e rest =
            let l = ltb-true (first_moving share p (at flow)) (pair_count p) e in
            one-round a flow (steady_rounds share p a (step share p flow))
            (round_raises flow within (first_moving share p (at flow)) l (moving share p (at flow) l)) rest
        go false e rest = unmoved (suc a) flow true size within e (λ t. absurd (true≢false t))

    -- ---- what that says of the starting slack

    module _ (a : ℕ) (flow : List ℤ) (size : length flow ≡ pair_count p) (within : Feasible p (at flow)) where
      ends : Ended share p (2 * c) a flow (steady_rounds share p a flow)
      ends = steady_ends a flow size within

      -- the floor never passes the price of the image that the rounds began with
      ceiling : (g : ℕ → ℤ) → Feasible p g → floor p g ≤ℤ price p (image p (at flow))
      ceiling g held = floor-below p sound g held (image p (at flow)) (image-in_box p sound (at flow))

      -- 2 × c × moved is at most the starting slack
      pub moved-bound : pos (2 * c * (steady_rounds share p a flow).moved) ≤ℤ slack p (at flow)
      unfolding slack
      moved-bound =
          under (floor p (at flow)) (floor p (at (steady_rounds share p a flow).flow)) (price p (image p (at flow)))
          (2 * c * (steady_rounds share p a flow).moved) ends.raised (ceiling (at (steady_rounds share p a flow).flow) ends.feasible)
        where
          under : (u v w : ℤ) (k : ℕ) → (u +ℤ pos k) ≤ℤ v → v ≤ℤ w → pos k ≤ℤ (w -ℤ u)
          under u v w k h l = by-≤ (search parts depth 12) (omega (whole, of-≤ h (search parts depth 12)))

      -- a run that is spent has 2 × c × (allowance + 1) at most the starting slack
      pub spent_bound : (steady_rounds share p a flow).settled ≡ false → pos (2 * c * (a + 1)) ≤ℤ slack p (at flow)
      unfolding slack
      spent_bound e =
          let s : Steady = steady_rounds share p a flow in
          let w = ends.unrest e in
          once_more (floor p (at flow)) (floor p (at s.flow)) (floor p (at (step share p s.flow))) (price p (image p (at flow)))
          s.moved (ends.used_up e) ends.raised
          (round_raises s.flow ends.feasible w.0 w.1 w.2)
          (ceiling (at (step share p s.flow)) (step-feasible share p s.flow))
        where
          once_more : (u v x w : ℤ) (k : ℕ) → k ≡ a → (u +ℤ pos (2 * c * k)) ≤ℤ v → (v +ℤ pos (2 * c)) ≤ℤ x → x ≤ℤ w → pos (2 * c * (a + 1)) ≤ℤ (w -ℤ u)
          once_more u v x w k q h l o =
              let n : 2 * c * k ≡ 2 * c * a = ap (λ (i : ℕ). 2 * c * i) q in
              by-≤ (search parts depth 12) (omega (whole, of-≤ h (search parts depth 12), of-≤ l (search parts depth 12)))

      -- so a run settles whenever 2 × c × (allowance + 1) exceeds it
      pub settles : slack p (at flow) <ℤ pos (2 * c * (a + 1)) → (steady_rounds share p a flow).settled ≡ true
      settles h = by (steady_rounds share p a flow).settled refl
        where
          by : (b : Bool) → (steady_rounds share p a flow).settled ≡ b → b ≡ true
          by true e = refl
          by false e = absurd (omega (whole, of-< h (search parts depth 12), of-≤ (spent_bound e) (search parts depth 12)))

      -- a settled flow's slack is at most 4 c × the sum of the weights
      pub settled-bound : (steady_rounds share p a flow).settled ≡ true →
          slack p (at (steady_rounds share p a flow).flow) ≤ℤ (pos (4 * c) *ℤ total (pair_count p) (λ j. pos (p.weight j)))
      settled-bound e =
          settled-slack share p c law (at (steady_rounds share p a flow).flow) ends.feasible (ends.at_rest e)

-- With the divisor twice the degree: no pixel lies in more than d pairs, and a share is the nearest of 2 × d, a half toward zero.
-- Then 2 × d × moved is at most the starting slack, a run settles whenever 2 × d × (allowance + 1) exceeds it, and a settled
-- slack is at most 4 × d × the sum of the weights: 8, 8 and 16 at degree 4, 12, 12 and 24 at degree 6
pub by-degree : (share : ℤ → ℤ) (p : Problem) → Sound p → (d : ℕ) → 0 < d → ((v : ℤ) → share v ≡ nearest v (2 * d)) →
    ((i : ℕ) → i < p.pixels → degree p i ≤ d) → (a : ℕ) (flow : List ℤ) → length flow ≡ pair_count p → Feasible p (at flow) →
    (pos (2 * d * (steady_rounds share p a flow).moved) ≤ℤ slack p (at flow))
    × (slack p (at flow) <ℤ pos (2 * d * (a + 1)) → (steady_rounds share p a flow).settled ≡ true)
    × ((steady_rounds share p a flow).settled ≡ true →
    slack p (at (steady_rounds share p a flow).flow) ≤ℤ (pos (4 * d) *ℤ total (pair_count p) (λ j. pos (p.weight j))))
by-degree share p sound d positive is degrees a flow size within =
    let law : Rounding share d = nearest-rounding share d positive is in (
      moved-bound share p sound d law degrees a flow size within,
      settles share p sound d law degrees a flow size within,
      settled-bound share p sound d law degrees a flow size within,
    )
