-- The rounds of document 01: the step, quick rounds (Beck and Teboulle's FGP) and steady rounds (projected gradient).
-- `share` is the part of a fall that a step adds: an eighth, which each kind of round rounds in its own way
-- (docs/SPECIFICATION.md, section 3).
use Rattle.std.specs.Prelude.{Bool, true, false, not, List, ℕ, zero, suc, ◌+◌, ◌*◌, ◌/◌, ltb, ℤ, pos, neg_ℤ, ◌+ℤ◌, ◌-ℤ◌, ◌*ℤ◌}
use Rattle.integers.specs.Whole.{clamp, quotient, nearest, same_z}
use Rattle.lists.specs.Lists.{at, zeros, table, first_where}
use Rattle.model.specs.Problem.{Problem, pair_count, fall, image}
use Rattle.model.specs.Root.{root}

-- d / 8, rounded toward zero: the share in quick rounds (SPECIFICATION 3.1)
unfoldable pub eighth : ℤ → ℤ
eighth d = quotient d (pos 8)

-- d / 8, rounded to the nearest whole number, an exact half toward zero: the share in steady rounds (SPECIFICATION 3.1)
unfoldable pub nearest_eighth : ℤ → ℤ
nearest_eighth d = nearest d 8

-- What a step makes of the number of pair j: the share of the fall in the flow's image is added, and the result is
-- clamped to −weight .. weight (SPECIFICATION 3.2)
unfoldable pub stepped : (ℤ → ℤ) → Problem → (ℕ → ℤ) → ℕ → ℤ
stepped share p f j =
    clamp (neg_ℤ (pos (p.weight j))) (pos (p.weight j)) (f j +ℤ share (fall p (image p f) j))

-- Step on a flow (a projected gradient step of the dual) (SPECIFICATION 3.2)
unfoldable pub step : (ℤ → ℤ) → Problem → List ℤ → List ℤ
step share p flow = table (pair_count p) (stepped share p (at flow))

-- The state after k quick rounds: Pₖ (the iterate), Rₖ₊₁ (the extrapolated point) and Tₖ₊₁ (the momentum, in 1/65,536)
-- (SPECIFICATION 3.4)
pub record Quick : Type 0 where
  pub iterate : List ℤ
  pub extrapolated : List ℤ
  pub momentum : ℕ

-- Tₖ₊₁ from Tₖ: (65,536 + root) / 2 rounded down, root being that of 65,536² + 4 × Tₖ² (SPECIFICATION 3.5)
unfoldable pub next_momentum : ℕ → ℕ
next_momentum t = (65536 + root (65536 * 65536 + 4 * (t * t))) / 2

-- Rₖ₊₁ at one pair, from Tₖ, Tₖ₊₁, Pₖ₋₁ and Pₖ: the quotient alone is rounded, toward zero (SPECIFICATION 3.5)
unfoldable pub extrapolate : ℕ → ℕ → ℤ → ℤ → ℤ
extrapolate t next earlier now = now +ℤ quotient ((pos t -ℤ pos 65536) *ℤ (now -ℤ earlier)) (pos next)

-- P₀ = R₁ = 0 and T₁ = 65,536 (SPECIFICATION 3.4)
unfoldable pub quick_start : Problem → Quick
quick_start p =
    record {
      iterate = zeros (pair_count p);
      extrapolated = zeros (pair_count p);
      momentum = 65536;
    }

-- One quick round: Pₖ is the step on Rₖ (SPECIFICATION 3.5)
unfoldable pub quick_round : (ℤ → ℤ) → Problem → Quick → Quick
quick_round share p s =
    let now : List ℤ = step share p s.extrapolated in
    let next : ℕ = next_momentum s.momentum in
    record {
      iterate = now;
      extrapolated = table (pair_count p) (λ j. extrapolate s.momentum next (at s.iterate j) (at now j));
      momentum = next;
    }

unfoldable pub quick_rounds : (ℤ → ℤ) → Problem → ℕ → Quick
quick_rounds share p zero = quick_start p
quick_rounds share p (suc k) = quick_round share p (quick_rounds share p k)

-- Whether pair j would move: its step is another number (SPECIFICATION 3.8)
unfoldable pub would_move : (ℤ → ℤ) → Problem → (ℕ → ℤ) → ℕ → Bool
would_move share p f j = not (same_z (stepped share p f j) (f j))

-- The first pair that would move; the number of pairs where none would (SPECIFICATION 3.9)
unfoldable pub first_moving : (ℤ → ℤ) → Problem → (ℕ → ℤ) → ℕ
first_moving share p f = first_where (pair_count p) (would_move share p f)

-- How steady rounds end: the flow they leave, the count called moved (the rounds, each of which changed a value), and
-- whether the outcome is settled (no pair would move) or spent (the allowance is used up and some pair still would)
-- (SPECIFICATION 3.11, 3.12)
pub record Steady : Type 0 where
  pub flow : List ℤ
  pub moved : ℕ
  pub settled : Bool

-- a round before those of s
abbrev pub one_more : Steady → Steady
one_more s = record { flow = s.flow; moved = suc s.moved; settled = s.settled }

-- Steady rounds from a flow, with an allowance; the test that finds nothing to move is no round (SPECIFICATION 3.11)
unfoldable pub steady_rounds : (ℤ → ℤ) → Problem → ℕ → List ℤ → Steady
steady_rounds share p zero flow =
    record { flow = flow; moved = 0; settled = not (ltb (first_moving share p (at flow)) (pair_count p)) }
steady_rounds share p (suc allowance) flow =
    elim (ltb (first_moving share p (at flow)) (pair_count p)) [
      | true ↦ one_more (steady_rounds share p allowance (step share p flow))
      | false ↦ record { flow = flow; moved = 0; settled = true }
    ]
