use mathlib.Core.Path.{sym, ◌∙◌}
use native.Mathlib.Omega.{arith}
use Rattle.lists.proofs.Search.{search_on, found_below, all_below, met_from, met_on}
use Rattle.validation.proofs.search.first_index.Goals as goal

pub loop-i-init : goal.loop-i-init
loop-i-init g c p h = met_from _ p _ (c.loop-start.invariant p h)

pub loop-i-preserved : goal.loop-i-preserved
loop-i-preserved g c p h = met_on _ _ _ _ _ (c.loop-i.invariant p h) (omega arith) (h _ _ (omega arith) c.test-some.ensures)

-- a block without one: the search has come to its end
pub loop-start-preserved : goal.loop-start-preserved
loop-start-preserved g c p h =
    let s = (c.loop-i.invariant p h).1 c.if-some.false in
    (omega arith, λ k l. s.1 k (omega arith))

pub returns-then-test : goal.returns-then-test
returns-then-test g c p h = found_below _ p _ (c.loop-i-2.invariant p h) c.loop-i-2-test.true (sym (h _ _ c.loop-i-2-test.true c.test.ensures) ∙ c.if-test.true)

pub loop-i-2-preserved : goal.loop-i-2-preserved
loop-i-2-preserved g c p h = search_on _ _ _ (c.loop-i-2.invariant p h) c.loop-i-2-test.true (sym (h _ _ c.loop-i-2-test.true c.test.ensures) ∙ c.if-test.false)

pub returns : goal.returns
returns g c p h = all_below _ p _ (c.loop-i-2.invariant p h) c.loop-i-2-test.false
