use native.Mathlib.Omega.{arith}
use mir.Syntax.{w32}
use mir.ValLaws.{to_z-of_z}
use Rattle.integers.proofs.Machine.{read}
use Rattle.stencil.proofs.Readings.{reading_most}
use Rattle.image.proofs.row.column_value.Goals as goal

pub pixel_value-requires : goal.pixel_value-requires
pixel_value-requires c =
    let p = c.requires in
    rw (read w32 {r = c.reading.result} c.reading.type_inv, c.reading.ensures, read w32 {r = c.number_or.result} c.number_or.type_inv, c.number_or.ensures, read w32 {r = c.number_or-2.result} c.number_or-2.type_inv, c.number_or-2.ensures, to_z-of_z w32 _ c.ranges.right, to_z-of_z w32 _ c.ranges.left)
    (record {
      reading_most = omega (arith, reading_most c.ranges.sample.fits);
      below_most = p.below_most c.args.c;
      right_most = p.right_most;
      above_most = p.above_most c.args.c;
      left_most = p.left_most;
    })

pub returns : goal.returns
returns c =
    rw (read w32 {r = c.pixel_value.result} c.pixel_value.type_inv, c.pixel_value.ensures, read w32 {r = c.reading.result} c.reading.type_inv, c.reading.ensures, read w32 {r = c.number_or.result} c.number_or.type_inv, c.number_or.ensures, read w32 {r = c.number_or-2.result} c.number_or-2.type_inv, c.number_or-2.ensures, to_z-of_z w32 _ c.ranges.right, to_z-of_z w32 _ c.ranges.left)
