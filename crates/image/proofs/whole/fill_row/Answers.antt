use Prim.Native.Nat.{◌*◌}
use native.Mathlib.Omega.{arith}
use Rattle.image.proofs.RowParts.{row_ends, row-limits, row-table, row_put}
use Rattle.image.proofs.whole.fill_row.Goals as goal

pub overflow_mul-start : goal.overflow_mul-start
overflow_mul-start c = record { fits = omega (arith, row_ends c.requires) }

pub overflow_add-end : goal.overflow_add-end
overflow_add-end c = record { fits = omega (arith, row_ends c.requires) }

pub image_row-requires : goal.image_row-requires
image_row-requires c = rw (c.min-below_end.ensures, c.saturating_sub-above_start.ensures) (row-limits c.requires)

pub returns : goal.returns
returns c =
    let row =
    rw (c.min-below_end.ensures, c.saturating_sub-above_start.ensures, row-table c.requires c.args.ends.low c.args.ends.high)
    at c.image_row.ensures.row_after
    in
    row_put (c.args.r * c.args.s.width) c.args.s.width _ c.args.image.now row
