-- A share's size, in either kind of round. Assumes nothing.
use mathlib.Core.Path.{◌≡◌, sym, subst}
use Prim.Native.Nat.{ℕ, ◌+◌, ◌*◌, ◌≤◌}
use native.Mathlib.Omega.{arith}
use lib.Dec.{lit<, lit≤}
use lib.IntN.{ℤ, nat_abs}
use Rattle.integers.proofs.Rounded.{rounded, quotient-rounded, nearest-rounded, nat_abs-rounded-≤}
use Rattle.model.specs.Rounds.{eighth, nearest_eighth}

most : (h : ℕ) → h ≤ 3 → (d : ℤ) {s : ℤ} → s ≡ rounded h 8 d → nat_abs s * 8 ≤ nat_abs d + 3
most h l d {s} e = subst (λ (z : ℤ). nat_abs z * 8 ≤ nat_abs d + 3) (sym e) (omega (arith, nat_abs-rounded-≤ h 8 d))

pub eighth-most : (d : ℤ) → nat_abs (eighth d) * 8 ≤ nat_abs d + 3
unfolding eighth
eighth-most d = most 0 (lit≤ tt) d (quotient-rounded d 8)

pub nearest_eighth-most : (d : ℤ) → nat_abs (nearest_eighth d) * 8 ≤ nat_abs d + 3
unfolding nearest_eighth
nearest_eighth-most d = most 3 (lit≤ tt) d (nearest-rounded 3 8 (lit< tt) (lit≤ tt) d)
