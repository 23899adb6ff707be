use mathlib.Core.Path.{◌∙◌}
use native.Mathlib.Nat.{le_refl}
use lib.IntN.{pos}
use mir.Syntax.{w32}
use Rattle.integers.proofs.Machine.{read}
use Rattle.model.specs.Rounds.{nearest_eighth}
use Rattle.stencil.specs.Pair.{step_value}
use Rattle.lists.specs.Lists.{at}
use Rattle.lists.proofs.Fill.{filling_none, filling_more, filling_all, filling_rest}
use Rattle.passes.proofs.Elements.{ReadPair, read-pair, pair_limits-read, pair-read}
use Rattle.passes.proofs.step.step_run.Goals as goal

pub loop-j-init : goal.loop-j-init
loop-j-init c = filling_none _ _

-- pair j, whose number is not stepped yet
pair : (c : goal.After-step_value-arg-in-loop-j-2-1) → let a = c.args in
    ReadPair a.weights.all a.weights.own.now a.flow.now a.values.first.now a.values.second.now c.loop-j.j c.at-own.result (at c.loop-j.flow c.loop-j.j)
pair c = let l = c.loop-j in read-pair c.requires.0 c.requires.1 l.j c.at-own.type_inv c.at-own.ensures (filling_rest l.invariant l.j (pos 0) (le_refl l.j))

pub step_value-requires : goal.step_value-requires
step_value-requires c = pair_limits-read (pair c)

pub loop-j-preserved : goal.loop-j-preserved
loop-j-preserved c =
    filling_more c.loop-j.invariant c.loop-j-test.true
    (read w32 c.step_value.type_inv ∙ c.step_value.ensures ∙ pair-read (pair c.before) (step_value nearest_eighth))

pub returns : goal.returns
returns c = filling_all c.loop-j.invariant c.loop-j-test.false
