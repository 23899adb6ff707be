use mathlib.Core.Path.{◌≡◌, ap, ◌∙◌}
use Prim.Native.Nat.{◌+◌, ◌*◌, ◌<◌}
use native.Mathlib.Nat.{zero-mul}
use native.Mathlib.Omega.{arith}
use Rattle.lists.proofs.Fill.{filling_none, filling_all}
use Rattle.image.proofs.OneRow.{one_row-limits, one_row-image}
use Rattle.image.proofs.RowParts.{row_in, filling_row, same-raster}
use Rattle.image.proofs.whole.fill_image.Goals as goal

pub loop-r-init : goal.loop-r-init
loop-r-init c = rw (zero-mul c.as_one_row-s.result.width) (filling_none _ _)

pub fill_row-requires : goal.fill_row-requires
fill_row-requires c =
    record { raster = same-raster (one_row-limits c.as_one_row-s.ensures c.requires) c.loop-r.invariant.long; row_most = omega arith }

pub loop-r-preserved : goal.loop-r-preserved
loop-r-preserved c =
    let l = c.loop-r in
    let w = c.as_one_row-s.result.width in
    let next : (l.r + 1) * w ≡ l.r * w + w = omega arith in
    let inside : l.r < c.as_one_row-s.result.height = omega arith in
    rw next (filling_row l.invariant w (omega (arith, one_row-limits c.as_one_row-s.ensures c.requires, row_in w inside)) c.fill_row.ensures)

pub returns : goal.returns
returns c =
    let l = c.loop-r in
    let s = c.as_one_row-s.result in
    let m = one_row-limits c.as_one_row-s.ensures c.requires in
    let last : l.r ≡ s.height = omega arith in
    let filled = rw m.image_count at (filling_all l.invariant (omega (arith, m, ap (λ r. r * s.width) last))) in
    filled ∙ one_row-image c.as_one_row-s.ensures c.requires c.args.ends.low c.args.ends.high
