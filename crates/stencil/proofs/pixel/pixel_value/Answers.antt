use native.Mathlib.Omega.{arith}
use borrow.Author.Rules.{rules}
use lib.IntN.{ℤ, ◌+ℤ◌, ◌-ℤ◌}
use mir.Syntax.{w32}
use mir.Val.{SFits}
use Rattle.std.proofs.lemmas.Int.{to_z-of_z, ints}
use Rattle.stencil.specs.Limits.{PixelLimits}
use Rattle.stencil.proofs.pixel.pixel_value.Goals as goal

module _ {b below right above left : ℤ} (l : PixelLimits b below right above left) where
  out : SFits w32 (below +ℤ right)
  out = omega (arith, ints)

  into : SFits w32 (above +ℤ left)
  into = omega (arith, ints)

  pull : SFits w32 ((below +ℤ right) -ℤ (above +ℤ left))
  pull = omega (arith, ints)

  value : SFits w32 (b -ℤ ((below +ℤ right) -ℤ (above +ℤ left)))
  value = omega (arith, ints)

pub overflow_sub-b : goal.overflow_sub-b
overflow_sub-b c = search (rules, to_z-of_z, out c.requires, into c.requires, pull c.requires, value c.requires)

pub returns : goal.returns
returns c = search (rules, to_z-of_z, out c.requires, into c.requires, pull c.requires, value c.requires, c.clamped.ensures)
