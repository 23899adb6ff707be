use mathlib.Core.Path.{◌≡◌, sym, ap, ◌∙◌}
use mathlib.Core.Bool.{true, true≢false}
use mathlib.Core.List.{List}
use Prim.Native.Nat.{◌≤◌}
use native.Mathlib.Omega.{arith}
use lib.IntN.{ℤ}
use Rattle.model.specs.Grid.{limit}
use Rattle.solver.specs.Scan.{problem_of}
use Rattle.model.specs.Rounds.{nearest_eighth, step, Steady}
use Rattle.passes.specs.Limits.{Within}
use Rattle.stencil.specs.Limits.{most}
use Rattle.passes.proofs.Model.{stepped-is}
use Rattle.solver.proofs.Passes.{image-size, flow-limits, pair_weights}
use Rattle.solver.proofs.SteadyRounds.{rested_none, rested_more, rested_end, ready_more}
use Rattle.solver.proofs.steady.steady_rounds.Goals as goal
use Rattle.solver.proofs.steady.steady_rounds.Goals.{then-not-moving-via-then-not-moving, then-not-moving-via-else-not-moving+then-most-moved}

flow_most : (flow : List ℤ) → Within limit.weight flow → Within most flow
flow_most flow h i = omega (arith, h i)

pub rounds-init : goal.rounds-init
rounds-init c =
    (c.requires, rested_none nearest_eighth (problem_of c.args.scan) c.args.allowance c.args.flow.now)

pub some_moves-moving-requires : goal.some_moves-moving-requires
some_moves-moving-requires c =
    c.rounds.invariant.0

pub returns-then-not-moving : goal.returns-then-not-moving
returns-then-not-moving c =
    let m = c.some_moves-moving in
    -- the loop is left where no pair would move, or with the allowance used up
    let over : m.result ≡ true → c.args.allowance ≤ c.rounds.moved =
    elim c.then-not-moving.branch [
      | then-not-moving-via-then-not-moving w ↦ λ h. absurd (true≢false (sym h ∙ w.if-not-moving.true))
      | then-not-moving-via-else-not-moving+then-most-moved w ↦ λ h. omega (arith, w.if-most-moved.true, c.from-most.ensures)
    ]
    in
    let e = rested_end c.rounds.invariant.1 m.result m.ensures.value over in
    record {
      flow_after = sym (ap (λ (z : Steady). z.flow) e);
      image_after = m.ensures.image_after;
      moved_value = omega (arith, ap (λ (z : Steady). z.moved) e);
      settled_value = sym (ap (λ (z : Steady). z.settled) e);
    }

pub step_pairs-requires : goal.step_pairs-requires
step_pairs-requires c =
    let a = c.args in
    let p = c.requires in
    let l = c.rounds in
    let k = c.of-s.ensures in
    rw (k.value, a.scan.weight_is) (
      flow-limits a.scan.terms a.scan.samples.now p.limits l.invariant.0.lengths.flow_length (flow_most l.flow l.invariant.0.flow_most) k.byte_levels.low_byte k.byte_levels.high_byte c.some_moves-moving.ensures.image_after,
      pair_weights a.scan.terms a.scan.weights.own.now p.limits p.pair_weights,
    )

pub overflow_add-moved : goal.overflow_add-moved
overflow_add-moved c = record { fits = omega (arith, c.ranges.allowance.fits, c.if-most-moved.false) }

pub rounds-smaller : goal.rounds-smaller
rounds-smaller c = omega arith

pub rounds-preserved : goal.rounds-preserved
rounds-preserved c =
    let a = c.args in
    let p = c.requires in
    let l = c.rounds in
    let image = c.some_moves-moving.ensures.image_after in
    -- a step on the flow
    let stepped : c.step_pairs.new.flow ≡ step nearest_eighth (problem_of a.scan) l.flow =
    rw (c.of-s.ensures.value, a.scan.weight_is, l.invariant.0.lengths.flow_length) at c.step_pairs.ensures
    ∙ stepped-is a.scan.terms a.scan.samples.now a.scan.weights.own.now l.flow image nearest_eighth p.pair_weights
    in (
      ready_more nearest_eighth l.invariant.0 stepped (image-size a.scan.terms a.scan.samples.now l.flow image),
      rested_more l.invariant.1 (sym c.some_moves-moving.ensures.value ∙ c.if-not-moving.false) (omega (arith, c.if-most-moved.false, c.from-most.ensures)) stepped,
    )
