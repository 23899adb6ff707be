use mathlib.Core.Path.{◌≡◌, subst}
use Prim.Native.Nat.{ℕ, ◌+◌, ◌*◌, ◌/◌, ◌≤◌, ◌<◌}
use native.Mathlib.Nat.{mul-le-mul, lt_of_lt_of_le}
use native.Mathlib.Omega.{arith}
use Rattle.model.proofs.Root.{root-unique}
use Rattle.momentum.proofs.Squares.{square-most, below-2³¹}
use Rattle.momentum.proofs.root.Goals as goal

pub overflow_mul-n : goal.overflow_mul-n
overflow_mul-n c = omega (arith, square-most c.args.t c.requires)

pub loop-reach-init : goal.loop-reach-init
loop-reach-init c = (omega arith, omega arith, omega arith, omega arith, omega (arith, c.requires))

pub overflow_mul-middle : goal.overflow_mul-middle
overflow_mul-middle c =
    let m : c.loop-reach.low + (c.loop-reach.reach + 1) / 2 ≤ 3221225472 = omega arith in
    record { fits = omega (arith, mul-le-mul m m) }

pub loop-reach-preserved-then-middle-n : goal.loop-reach-preserved-then-middle-n
loop-reach-preserved-then-middle-n c =
    let low = c.loop-reach.low in
    let reach = c.loop-reach.reach in
    let t = c.args.t in
    let w : low + reach ≤ low + (reach + 1) / 2 + (reach + 1) / 2 = omega arith in (
      c.if-middle-n.true,
      lt_of_lt_of_le c.loop-reach.invariant.1 (mul-le-mul w w),
      omega arith,
      omega arith,
      below-2³¹ (low + (reach + 1) / 2) (65536 * 65536 + 4 * (t * t)) c.if-middle-n.true (omega (arith, square-most t c.requires)),
    )

pub loop-reach-preserved : goal.loop-reach-preserved
loop-reach-preserved c =
    (c.loop-reach.invariant.0, c.if-middle-n.false, omega arith, omega arith, c.loop-reach.invariant.4)

pub returns : goal.returns
returns c =
    let low = c.loop-reach.low in
    let t = c.args.t in
    let reach = c.loop-reach.reach in
    let one : reach ≡ 1 = omega arith in
    root-unique (65536 * 65536 + 4 * (t * t)) low c.loop-reach.invariant.0 (subst (λ (k : ℕ). 65536 * 65536 + 4 * (t * t) < (low + k) * (low + k)) one c.loop-reach.invariant.1)
