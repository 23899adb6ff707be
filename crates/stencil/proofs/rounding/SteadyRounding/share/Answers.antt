-- The sum rounded down is the nearest.
use Rattle.std.proofs.Common.{◌≡◌, pos, to_z, w32, arith}
use Rattle.std.proofs.lemmas.Int.{to_z-of_z, ints}
use Rattle.integers.proofs.Rounded.{nearest-up, nearest-down}
use Rattle.model.specs.Rounds.{nearest_eighth}
use Rattle.stencil.proofs.rounding.SteadyRounding.share.Goals as goal
use Rattle.stencil.proofs.rounding.SteadyRounding.share.Goals.{then-fall-lt0, else-fall-lt0}

pub returns : goal.returns
unfolding nearest_eighth
returns c =
    elim c.if-fall-lt0.branch [
      | then-fall-lt0 w ↦ let raise : to_z w32 c.if-fall-lt0.raise-bits ≡ pos 4 = w.raise-is in grind (arith, ints, to_z-of_z, nearest-down 3)
      | else-fall-lt0 w ↦ let raise : to_z w32 c.if-fall-lt0.raise-bits ≡ pos 3 = w.raise-is in grind (arith, ints, to_z-of_z, nearest-up 3)
    ]
