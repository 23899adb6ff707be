use mathlib.Core.Path.{◌≡◌, ap, ap₂, ◌∙◌}
use native.Mathlib.Nat.{le_refl, le_trans}
use native.Mathlib.Omega.{arith}
use lib.IntN.{ℤ, pos}
use mir.Syntax.{w32}
use mir.Val.{to_z, of_z}
use Rattle.integers.proofs.Machine.{read}
use Rattle.lists.specs.Lists.{at}
use Rattle.model.specs.Rounds.{eighth}
use Rattle.passes.specs.Pairs.{weight_at, step_at}
use Rattle.passes.proofs.Elements.{element, own-within, ReadPair, read-pair, pair_limits-read, pair-read}
use Rattle.stencil.specs.Pair.{step_value}
use Rattle.stencil.proofs.Steps.{step-most}
use Rattle.lists.proofs.Fill.{filling_none, filling_more, filling_all, filling_rest}
use Rattle.momentum.specs.Reciprocal.{ahead_of}
use Rattle.passes.proofs.advance.advance_run.Goals as goal

pub loop-j-init : goal.loop-j-init
loop-j-init c = (filling_none _ _, filling_none _ _)

-- pair j of the numbers ahead, which is as before the round
pair : (c : goal.After-step_value-arg-in-loop-j-2-1) → let a = c.args in
    ReadPair a.weights.all a.weights.own.now a.ahead.now a.values.first.now a.values.second.now c.loop-j.j c.at-own.result (at c.loop-j.ahead c.loop-j.j)
pair c = let l = c.loop-j in read-pair c.requires.0 c.requires.1 l.j c.at-own.type_inv c.at-own.ensures (filling_rest l.invariant.1 l.j (pos 0) (le_refl l.j))

pub step_value-next-requires : goal.step_value-next-requires
step_value-next-requires c = pair_limits-read (pair c)

module _ (c : goal.After-extrapolated-arg-1) where
  -- its number is as before the round too
  number : to_z w32 (of_z w32 (at c.loop-j.flow c.loop-j.j)) ≡ at c.args.flow.now c.loop-j.j
  number =
      let l = c.loop-j in
      ap (λ (z : ℤ). to_z w32 (of_z w32 z)) (filling_rest l.invariant.0 l.j (pos 0) (le_refl l.j))
      ∙ element c.args.flow.now (λ i. omega (arith, c.requires.2.flow_most i)) l.j

  -- the stepped number, as the next operation reads it
  next-is : to_z w32 (of_z w32 c.step_value-next.result)
      ≡ step_at eighth (weight_at c.args.weights.all c.args.weights.own.now) (at c.args.ahead.now) (at c.args.values.first.now) (at c.args.values.second.now) c.loop-j.j
  next-is = read w32 c.step_value-next.type_inv ∙ c.step_value-next.ensures ∙ pair-read (pair c.before.before) (step_value eighth)

pub extrapolated-requires : goal.extrapolated-requires
extrapolated-requires c =
    let p = c.requires.2 in
    let w = c.args.weights in
    let j = c.loop-j.j in (
      rw (number c) (p.flow_most j),
      rw (next-is c) (le_trans (step-most eighth (weight_at w.all w.own.now j) _ _ _) (own-within w.all w.own.now p.weight_most p.weights_most j)),
      p.factor_most,
    )

pub loop-j-preserved : goal.loop-j-preserved
loop-j-preserved c =
    let d = c.before in
    let l = c.loop-j in (
      filling_more l.invariant.0 c.loop-j-test.true (next-is d),
      filling_more l.invariant.1 (omega (arith, c.requires.2.same_length)) (read w32 c.extrapolated.type_inv ∙ c.extrapolated.ensures ∙ ap₂ (ahead_of c.args.m) (number d) (next-is d)),
    )

pub returns : goal.returns
returns c =
    let i = c.loop-j.invariant in
    let same = c.requires.2.same_length in
    record { flow_after = filling_all i.0 c.loop-j-test.false; ahead_after = rw (← same) at (filling_all i.1 (omega (arith, same))) }
