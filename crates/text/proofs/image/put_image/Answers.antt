use native.Mathlib.Omega.{arith}
use Prim.Native.Nat.{suc, ◌+◌, ◌*◌, ◌≤◌}
use native.Mathlib.Nat.{mul-le-mul_right}
use Rattle.output.proofs.Puts.{put_as, chain-start, chain_next}
use Rattle.text.proofs.Rows.{row_size, row_part}
use Rattle.text.proofs.image.put_image.Invariants.{rows}
use Rattle.text.proofs.image.put_image.Goals as goal

pub loop-row-init : goal.loop-row-init
loop-row-init c = record { written = chain-start _; upper_bound = omega arith }

pub loop-row-preserved : goal.loop-row-preserved
loop-row-preserved c =
    let row = c.loop-row.row in
    let next : suc row ≤ c.args.height = omega arith in
    let start : suc row * c.args.width ≤ c.args.height * c.args.width = mul-le-mul_right c.args.width next in
    let size = row_size c.args.image.now (row * c.args.width) c.args.width (omega arith) in
    let behind : c.put_row-next.result ≤ c.args.o + suc row * (22 * c.args.width + 1) = omega (arith, c.put_row-next.ensures.upper_bound) in
    record {
      written =
          chain_next (rows c.args.image.now c.args.width) row c.loop-row.invariant.written
          (put_as (row_part c.args.image.now (row * c.args.width) c.args.width (omega arith)) c.put_row-next.ensures.put)
          (omega (arith, mul-le-mul_right (22 * c.args.width + 1) next));
      upper_bound = omega arith;
    }
