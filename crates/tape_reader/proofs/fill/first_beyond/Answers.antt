use mathlib.Core.Path.{sym, ap₂, ◌∙◌}
use Prim.Native.Nat.{ℕ}
use lib.Dec.{ltb}
use lib.IntN.{ℤ, nat_abs}
use mir.Syntax.{w32}
use Rattle.integers.proofs.Machine.{read}
use Rattle.lists.proofs.Search.{found_below, all_below}
use Rattle.tape_reader.proofs.fill.first_beyond.Goals as goal

pub returns-then-is_beyond : goal.returns-then-is_beyond
returns-then-is_beyond c =
    found_below _ _ _ c.loop-j.invariant c.loop-j-test.true
    (sym
    (c.is_beyond.ensures
    ∙ ap₂ (λ (w : ℕ) (z : ℤ). ltb w (nat_abs z)) c.own_weight-limit.ensures (read w32 c.number-number.type_inv ∙ c.number-number.ensures))
    ∙ c.if-is_beyond.true)

pub returns : goal.returns
returns c = all_below _ _ _ c.loop-j.invariant c.loop-j-test.false
