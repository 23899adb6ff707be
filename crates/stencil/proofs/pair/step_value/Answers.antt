-- The sum that is clamped fits its type, by the law on a share's size.
use native.Mathlib.Omega.{arith}
use borrow.Author.Rules.{rules}
use lib.IntN.{◌+ℤ◌, ◌-ℤ◌, neg_ℤ}
use mir.Syntax.{w32}
use mir.Val.{SFits}
use Rattle.std.proofs.lemmas.Int.{to_z-of_z, ints}
use Rattle.integers.proofs.Ring.{zero--ℤ}
use Rattle.stencil.specs.Pair.{step_value}
use Rattle.stencil.proofs.pair.step_value.Goals as goal

pub overflow_add-f : goal.overflow_add-f
overflow_add-f g c =
    let a = c.args in
    let fall : SFits w32 (a.x -ℤ a.y) = omega (arith, ints) in
    let sum : SFits w32 (a.f +ℤ g.R.Rounding.rounded (a.x -ℤ a.y)) = omega (arith, ints, g.met.R.Rounding.most (a.x -ℤ a.y)) in
    search (rules, to_z-of_z, c.share.ensures)

pub returns : goal.returns
unfolding step_value
returns g c =
    let a = c.args in
    let fall : SFits w32 (a.x -ℤ a.y) = omega (arith, ints) in
    let sum : SFits w32 (a.f +ℤ g.R.Rounding.rounded (a.x -ℤ a.y)) = omega (arith, ints, g.met.R.Rounding.most (a.x -ℤ a.y)) in
    let least : SFits w32 (neg_ℤ a.weight) = omega (arith, ints) in
    search (rules, to_z-of_z, zero--ℤ, c.clamped.ensures, c.share.ensures)
