-- The quotient is added by its size, with the sign of the change.
use mathlib.Core.Path.{◌≡◌}
use Prim.Native.Nat.{◌≤◌, ◌/◌, ◌*◌}
use native.Mathlib.Omega.{arith}
use lib.IntN.{pos, nat_abs, ◌-ℤ◌}
use lib.Signed.{◌<ℤ◌, ◌≤ℤ◌}
use Rattle.std.proofs.lemmas.Int.{ints}
use Rattle.momentum.proofs.Ahead.{product_most, share_most, share-down, share-up}
use Rattle.momentum.proofs.extrapolated.Goals as goal

module _ (c : goal.After-from) where
  size : c.from.result ≡ nat_abs (c.args.now -ℤ c.args.earlier)
  size = omega (arith, ints)

  bound : c.from.result ≤ 130560
  bound = omega (arith, ints)

  ahead : c.from.result * c.args.m / 70368744177664 ≤ 130560
  ahead = share_most c.from.result c.args.m bound c.requires.2

pub overflow_mul-ahead : goal.overflow_mul-ahead
overflow_mul-ahead c = omega (arith, product_most c.from.result c.args.m (bound c) c.requires.2)

pub overflow_sub-result : goal.overflow_sub-result
overflow_sub-result c = omega (arith, ints, ahead c.before)

pub returns-then-change-lt0 : goal.returns-then-change-lt0
returns-then-change-lt0 c =
    let a = c.args in
    let down : (a.now -ℤ a.earlier) <ℤ pos 0 = grind (arith, ints) in
    omega (arith, ints, ahead c.before, overflow_sub-result c, rw (← size c.before) at (share-down (a.now -ℤ a.earlier) a.m down))

pub returns-else-change-lt0 : goal.returns-else-change-lt0
returns-else-change-lt0 c =
    let a = c.args in
    let up : pos 0 ≤ℤ (a.now -ℤ a.earlier) = grind (arith, ints) in
    omega (arith, ints, ahead c.before, rw (← size c.before) at (share-up (a.now -ℤ a.earlier) a.m up))
