use Prim.Native.Nat.{◌*◌}
use Rattle.image.specs.Image.{image_value}
use Rattle.lists.proofs.Fill.{Filling}
use Rattle.image.proofs.whole.fill_image.Given as goal

abbrev pub invariant-loop-r : goal.invariant-loop-r
invariant-loop-r l = Filling (image_value l.ends.low l.ends.high l.samples l.flow l.s.width l.s.height) l.initial.image (l.r * l.s.width) l.image
