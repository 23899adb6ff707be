-- A quick round in buffers is the model's, on document 01's grid. Assumes nothing.
use mathlib.Core.Path.{◌≡◌, sym, ap, ◌∙◌}
use mathlib.Core.List.{List}
use Prim.Native.Nat.{ℕ, ◌-◌, ◌*◌, ◌^◌, ◌≤◌, ◌<◌}
use native.Mathlib.Nat.{mul-le-mul, le_of_mul-le-mul_right}
use native.Mathlib.Omega.{arith}
use lib.IntN.{ℤ, pos, nat_abs, ◌-ℤ◌}
use Rattle.integers.proofs.Absolute.{nat_abs-difference}
use Rattle.model.specs.declared.Terms.{Terms}
use Rattle.lists.specs.Lists.{at, table}
use Rattle.model.specs.Problem.{pair_count}
use Rattle.model.specs.Grid.{limit, grid}
use Rattle.model.specs.Rounds.{stepped, step, next_momentum, quick_round}
use Rattle.model.specs.Calls.{image_of}
use Rattle.model.specs.Accepted.{TermsAllowed, WeightsAllowed}
use Rattle.lists.proofs.Tables.{get_or-table, table-cong}
use Rattle.model.proofs.Root.{momentum-grows, momentum_least}
use Rattle.passes.specs.Limits.{Within}
use Rattle.layout.specs.Runs.{shape_of}
use Rattle.passes.specs.Pairs.{weight_at, step_at, ahead_at, first_value, second_value}
use Rattle.passes.proofs.Model.{step_is, stepped-is}
use Rattle.momentum.specs.Reciprocal.{Reciprocal}
use Rattle.momentum.specs.Reciprocal.{ahead_of}
use Rattle.solver.proofs.Passes.{step-within}
use Rattle.solver.specs.Ready.{held}
use Rattle.momentum.proofs.Bounds.{extrapolate-is}

-- the next T of an allowed one
pub next_range : (momentum : ℕ) → 65536 ≤ momentum → momentum < 2 ^ 29 - 65536 →
    (0 < next_momentum momentum) × (momentum - 65536 ≤ next_momentum momentum) × (next_momentum momentum < 2 ^ 29)
next_range momentum h l =
    let a = momentum_least momentum h in
    let b = momentum-grows momentum in
    (omega arith, omega arith, omega arith)

-- the factor of a round is at most 1
pub factor_most : (momentum m : ℕ) → 65536 ≤ momentum → momentum < 2 ^ 29 - 65536 →
    Reciprocal (momentum - 65536) (next_momentum momentum) m → m ≤ 2 ^ 46
factor_most momentum m h l r =
    let a = momentum_least momentum h in
    let b = next_range momentum h l in
    le_of_mul-le-mul_right {k = next_momentum momentum} (omega (arith, r.near, b.2)) b.0

module _ (t : Terms) (samples : List ℕ) (weights : List ℤ) (limits : TermsAllowed t) (own : WeightsAllowed t weights) where
  module _ (share : ℤ → ℤ) (flow ahead : List ℤ) (momentum : ℕ) {values : List ℤ} (e : values ≡ image_of t samples ahead) where
    pub iterate-is : table (pair_count (grid t samples weights)) (step_at share (weight_at (pos t.weight) weights) (at ahead) (first_value (shape_of t) values) (second_value (shape_of t) values))
        ≡ (quick_round share (grid t samples weights) (held flow ahead momentum)).iterate
    unfolding quick_round
    iterate-is = stepped-is t samples weights ahead e share own

    now_is : (j : ℕ) → j < pair_count (grid t samples weights) →
        step_at share (weight_at (pos t.weight) weights) (at ahead) (first_value (shape_of t) values) (second_value (shape_of t) values) j ≡ at (step share (grid t samples weights) ahead) j
    unfolding step
    now_is j l =
        step_is t samples weights ahead e share own j l
        ∙ sym (get_or-table (pair_count (grid t samples weights)) (stepped share (grid t samples weights) (at ahead)) j (pos 0) l)

    module _ (m : ℕ) (flow_most : Within limit.weight flow) (least : 65536 ≤ momentum)
        (most : momentum < 2 ^ 29 - 65536) (r : Reciprocal (momentum - 65536) (next_momentum momentum) m)
      where
        small : (j : ℕ) → nat_abs (at (step share (grid t samples weights) ahead) j -ℤ at flow j) * next_momentum momentum < 70368744177664
        small j =
            let now : ℤ = at (step share (grid t samples weights) ahead) j in
            let d : nat_abs (now -ℤ at flow j) ≤ 130560 =
            omega (arith, nat_abs-difference now (at flow j), step-within t samples weights limits own share ahead j, flow_most j)
            in
            let n : next_momentum momentum ≤ 2 ^ 29 = omega (arith, (next_range momentum least most).2) in
            omega (arith, mul-le-mul d n)

        pub ahead-is : table (pair_count (grid t samples weights)) (ahead_at share (weight_at (pos t.weight) weights) m (at flow) (at ahead) (first_value (shape_of t) values) (second_value (shape_of t) values))
            ≡ (quick_round share (grid t samples weights) (held flow ahead momentum)).extrapolated
        unfolding quick_round
        ahead-is =
            table-cong (pair_count (grid t samples weights)) (λ j l.
            ap (ahead_of m (at flow j)) (now_is j l)
            ∙ extrapolate-is momentum (next_momentum momentum) m (at flow j) (at (step share (grid t samples weights) ahead) j) least
            (next_range momentum least most).0 r (small j))
