use mathlib.Core.Path.{ap, ◌∙◌}
use Prim.Native.Nat.{ℕ}
use lib.IntN.{pos}
use borrow.Author.Rules.{rules}
use Rattle.lists.proofs.Tables.{table-self}
use Rattle.lists.proofs.Fill.{filling_none, filling_more, filling_all}
use Rattle.lists.specs.Lists.{at, table}
use Rattle.solver.proofs.quick.copy.Goals as goal

pub loop-j-init : goal.loop-j-init
loop-j-init c = filling_none _ _

pub loop-j-preserved : goal.loop-j-preserved
loop-j-preserved c = filling_more c.loop-j.invariant c.loop-j-test.true (search rules)

pub returns : goal.returns
returns c =
    filling_all c.loop-j.invariant c.loop-j-test.false ∙ ap (λ (n : ℕ). table n (at c.args.source.now)) c.requires ∙ table-self c.args.source.now (pos 0)
