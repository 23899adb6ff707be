use mathlib.Core.Path.{◌≡◌, refl, sym, ◌∙◌}
use native.Mathlib.Omega.{arith}
use lib.ListN.{length}
use Rattle.lists.specs.Lists.{at}
use Rattle.model.specs.Rounds.{nearest_eighth}
use Rattle.stencil.specs.Pair.{moves}
use Rattle.passes.proofs.Elements.{ReadPair, read-pair, pair_limits-read, pair-read}
use Rattle.passes.proofs.Moving.{nothing_is, at-is}
use Rattle.lists.proofs.Search.{search_start, search_on, search_found, search_none}
use Rattle.passes.proofs.search.search_run.Goals as goal

pub loop-j-init : goal.loop-j-init
loop-j-init c = search_start _ _

pair : (c : goal.After-would_move-arg-in-loop-j-2-1) → let a = c.args in
    ReadPair a.weights.all a.weights.own.now a.flow.now a.values.first.now a.values.second.now c.loop-j.j c.at-own.result (at a.flow.now c.loop-j.j)
pair c = read-pair c.requires.0 c.requires.1 c.loop-j.j c.at-own.type_inv c.at-own.ensures refl

pub would_move-requires : goal.would_move-requires
would_move-requires c = pair_limits-read (pair c)

pub loop-j-preserved : goal.loop-j-preserved
loop-j-preserved c =
    search_on _ _ c.loop-j.j c.loop-j.invariant c.if-flow-j.false
    (sym (c.would_move.ensures ∙ pair-read (pair c.before.before) (moves nearest_eighth)) ∙ c.if-would_move.false)

pub returns-then-flow-j : goal.returns-then-flow-j
returns-then-flow-j c =
    let l = c.loop-j in
    let end : l.j ≡ length c.args.flow.now = omega arith in
    nothing_is (length c.args.flow.now) _ (sym (search_none _ _ _ l.invariant c.if-flow-j.true) ∙ end)

pub returns-then-would_move : goal.returns-then-would_move
returns-then-would_move c =
    at-is (length c.args.flow.now) _
    (sym (search_found _ _ _ c.loop-j.invariant (sym (c.would_move.ensures ∙ pair-read (pair c.before.before) (moves nearest_eighth)) ∙ c.if-would_move.true)))
    c.if-flow-j.false
