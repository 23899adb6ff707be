use Prim.Native.Nat.{◌-◌, ◌^◌}
use native.Mathlib.Omega.{arith}
use borrow.Author.Rules.{rules}
use lib.IntN.{◌-ℤ◌, ◌*ℤ◌}
use mir.Syntax.{w32, w64}
use mir.Val.{SFits}
use Rattle.std.proofs.lemmas.Int.{to_z-of_z, ints, fits_signed_mul}
use Rattle.stencil.proofs.pair.product.Goals as goal

module _ (c : goal.After-from-2) where
  fall : SFits w32 (c.args.x -ℤ c.args.y)
  fall = omega (arith, ints)

  value : SFits w64 (c.args.f *ℤ (c.args.x -ℤ c.args.y))
  value =
      fits_signed_mul w64 c.args.f (c.args.x -ℤ c.args.y) (2 ^ 31) (2 ^ 31 - 1) (omega (arith, ints)) (omega (arith, ints)) (omega arith)

pub overflow_mul-result : goal.overflow_mul-result
overflow_mul-result c = search (rules, to_z-of_z, fall c, value c, c.from.ensures, c.from-2.ensures)

pub returns : goal.returns
returns c = search (rules, to_z-of_z, fall c, value c, c.from.ensures, c.from-2.ensures)
