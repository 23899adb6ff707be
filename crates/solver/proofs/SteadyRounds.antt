-- Steady rounds in buffers, one after another, whatever share of a fall their steps add. Assumes nothing.
use mathlib.Core.Path.{◌≡◌, refl, sym, ap, ◌∙◌, subst}
use mathlib.Core.Bool.{Bool, true, false, not}
use mathlib.Core.List.{List}
use Prim.Native.Nat.{ℕ, zero, suc, ◌+◌, ◌-◌, ◌*◌, ◌≤◌, ◌<◌}
use native.Mathlib.Omega.{arith}
use lib.Dec.{ltb}
use lib.IntN.{ℤ}
use lib.ListN.{length}
use Rattle.model.specs.declared.Terms.{Terms}
use Rattle.lists.specs.Lists.{at}
use Rattle.model.specs.Problem.{Problem, pair_count}
use Rattle.model.specs.Grid.{limit, grid}
use Rattle.model.specs.Rounds.{step, first_moving, Steady, one_more, steady_rounds}
use Rattle.passes.specs.Limits.{Within}
use Rattle.solver.specs.Ready.{SteadyReady}
use Rattle.model.proofs.Sizes.{step-size}
use Rattle.solver.proofs.Passes.{step-within}

-- whether some pair would move
abbrev pub some_moves : (ℤ → ℤ) → Problem → List ℤ → Bool
some_moves share p flow = ltb (first_moving share p (at flow)) (pair_count p)

-- an end with no round
abbrev pub ended : List ℤ → Bool → Steady
ended flow moving = record { flow = flow; moved = 0; settled = not moving }

-- k rounds before those of s
abbrev pub later : ℕ → Steady → Steady
later k s = record { flow = s.flow; moved = k + s.moved; settled = s.settled }

later-none : (s : Steady) → s ≡ later 0 s
later-none s =
    let e : s.moved ≡ 0 + s.moved = omega arith in ap (λ (n : ℕ). record { flow = s.flow; moved = n; settled = s.settled }) e

later_more : (k : ℕ) (s : Steady) → later k (one_more s) ≡ later (k + 1) s
later_more k s =
    let e : k + suc s.moved ≡ k + 1 + s.moved = omega arith in
    ap (λ (n : ℕ). record { flow = s.flow; moved = n; settled = s.settled }) e

module _ (share : ℤ → ℤ) (p : Problem) (flow : List ℤ) where
  -- with another round allowed, by whether some pair would move
  abbrev next : ℕ → Bool → Steady
  next n moving =
      elim moving as (λ _. Steady) [
        | true ↦ one_more (steady_rounds share p n (step share p flow))
        | false ↦ record { flow = flow; moved = 0; settled = true }
      ]

  -- no pair would move, or no round is allowed
  pub rests : (n : ℕ) → some_moves share p flow ≡ false → steady_rounds share p n flow ≡ ended flow false
  unfolding steady_rounds
  rests zero e = rw e
  rests (suc n) e = ap (next n) e

  pub spent : steady_rounds share p 0 flow ≡ ended flow (some_moves share p flow)
  unfolding steady_rounds
  spent = refl

  -- a round
  pub goes_on : (n : ℕ) → some_moves share p flow ≡ true → steady_rounds share p (suc n) flow ≡ one_more (steady_rounds share p n (step share p flow))
  unfolding steady_rounds
  goes_on n e = ap (next n) e

-- after k rounds: what the rounds to come, of those allowed, make of the flow
pub record Rested (share : ℤ → ℤ) (p : Problem) (allowance : ℕ) (flow₀ : List ℤ) (k : ℕ) (flow : List ℤ) : Type 0 where
  pub rest-is : steady_rounds share p allowance flow₀ ≡ later k (steady_rounds share p (allowance - k) flow)

-- before the first round
pub rested_none : (share : ℤ → ℤ) (p : Problem) (allowance : ℕ) (flow : List ℤ) → Rested share p allowance flow 0 flow
rested_none share p allowance flow =
    record {
      rest-is =
          let n : allowance ≡ allowance - 0 = omega arith in
          later-none _ ∙ ap (λ (a : ℕ). later 0 (steady_rounds share p a flow)) n;
    }

module _ {share : ℤ → ℤ} {p : Problem} {allowance : ℕ} {flow₀ : List ℤ} {k : ℕ} {flow : List ℤ} (r : Rested share p allowance flow₀ k flow) where
  -- a round
  pub rested_more : {flow₁ : List ℤ} → some_moves share p flow ≡ true → k < allowance → flow₁ ≡ step share p flow →
      Rested share p allowance flow₀ (k + 1) flow₁
  rested_more g l s =
      record {
        rest-is =
            let n : allowance - k ≡ suc (allowance - (k + 1)) = omega arith in
            r.rest-is
            ∙ ap (λ (a : ℕ). later k (steady_rounds share p a flow)) n
            ∙ ap (later k) (goes_on share p flow (allowance - (k + 1)) g)
            ∙ later_more k _
            ∙ ap (λ (f : List ℤ). later (k + 1) (steady_rounds share p (allowance - (k + 1)) f)) (sym s);
      }

  -- the end
  pub rested_end : (moving : Bool) → moving ≡ some_moves share p flow → (moving ≡ true → allowance ≤ k) →
      steady_rounds share p allowance flow₀ ≡ later k (ended flow moving)
  rested_end moving e h = r.rest-is ∙ ap (later k) (by moving e h)
    where
      by : (b : Bool) → b ≡ some_moves share p flow → (b ≡ true → allowance ≤ k) → steady_rounds share p (allowance - k) flow ≡ ended flow b
      by true e h =
          let n : allowance - k ≡ 0 = omega (arith, h refl) in
          ap (λ (a : ℕ). steady_rounds share p a flow) n ∙ spent share p flow ∙ ap (ended flow) (sym e)
      by false e h = rests share p flow (allowance - k) (sym e)

-- the buffers after a round: a step on the flow, and an image of the length that it had
pub ready_more : (share : ℤ → ℤ) {t : Terms} {samples : List ℕ} {weights flow image : List ℤ} → SteadyReady t samples weights flow image →
    {flow₁ image₁ : List ℤ} → flow₁ ≡ step share (grid t samples weights) flow → length image₁ ≡ t.width * t.height →
    SteadyReady t samples weights flow₁ image₁
ready_more share {t} {samples} {weights} {flow} r s l =
    record {
      limits = r.limits;
      pair_weights = r.pair_weights;
      lengths =
          record {
            samples_length = r.lengths.samples_length;
            flow_length = ap length s ∙ step-size share (grid t samples weights) flow;
            image_length = l;
          };
      flow_most = subst (Within limit.weight) (sym s) (step-within t samples weights r.limits r.pair_weights share flow);
    }
