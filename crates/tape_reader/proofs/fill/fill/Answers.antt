use mathlib.Core.Path.{◌≡◌, subst}
use Prim.Native.Nat.{ℕ, ◌+◌, ◌*◌}
use native.Mathlib.Omega.{arith}
use Rattle.lists.proofs.Fill.{filling_none, filling_more}
use Rattle.tape_reader.proofs.fill.fill.Goals as goal

pub loop-j-init : goal.loop-j-init
loop-j-init g c = filling_none _ _

pub loop-j-preserved : goal.loop-j-preserved
loop-j-preserved g c =
    let a = c.args in
    filling_more c.loop-j.invariant (omega (arith, c.requires.1))
    (subst (λ (n : ℕ). c.number.result ≡ g.S.Section.number a.tape.now (a.records.start + n * c.loop-j.j)) c.LENGTH.ensures c.number.ensures)
