-- The root is the largest whole number whose square is at most n, and what that says of the momentum T. Assumes nothing.
use mathlib.Core.Path.{◌≡◌, refl}
use mathlib.Core.Bool.{Bool, true, false, cond}
use Prim.Native.Nat.{ℕ, zero, suc, ◌+◌, ◌*◌, ◌/◌, ◌≤◌, ◌<◌, zero-le}
use native.Mathlib.Nat.{mul-le-mul, le_trans, le_antisymm, not-le_of_lt}
use native.Mathlib.Decide.{dec_le}
use native.Mathlib.Omega.{arith}
use lib.Dec.{leb}
use borrow.Author.Tests.{leb-true, leb-false}
use Rattle.model.specs.Root.{root_by, root, RootLaw}
use Rattle.model.specs.Rounds.{next_momentum}

-- r is the largest whole number whose square is at most n
pub record IsRoot (n r : ℕ) : Type 0 where
  pub below : r * r ≤ n
  pub above : n < (r + 1) * (r + 1)

-- from the root of n / 4 to that of n: twice it, or one more
digit : (n r : ℕ) (b : Bool) → leb ((2 * r + 1) * (2 * r + 1)) n ≡ b → IsRoot (n / 4) r → IsRoot n (cond b (2 * r + 1) (2 * r))
digit n r true t q =
    record {
      below = leb-true ((2 * r + 1) * (2 * r + 1)) n t;
      above = omega (arith, q.above);
    }
digit n r false t q =
    record {
      below = omega (arith, q.below);
      above = leb-false ((2 * r + 1) * (2 * r + 1)) n t;
    }

root_by-is : (k n : ℕ) → n ≤ k → IsRoot n (root_by k n)
unfolding root_by
root_by-is zero n h = record { below = zero-le; above = omega arith }
root_by-is (suc k) zero h = record { below = zero-le; above = omega arith }
root_by-is (suc k) (suc n) h =
    digit (suc n) (root_by k (suc n / 4)) (leb ((2 * root_by k (suc n / 4) + 1) * (2 * root_by k (suc n / 4) + 1)) (suc n)) refl
    (root_by-is k (suc n / 4) (omega arith))

pub root_is : (n : ℕ) → IsRoot n (root n)
unfolding root
root_is n = root_by-is n n (omega arith)

-- the largest whole number ..
pub root-largest : (n s : ℕ) → s * s ≤ n → s ≤ root n
root-largest n s h = by (dec_le s (root n))
  where
    by : Dec (s ≤ root n) → s ≤ root n
    by (yes l) = l
    by (no g) =
        let l : root n + 1 ≤ s = omega (arith, g) in
        absurd (not-le_of_lt (root_is n).above (le_trans (mul-le-mul l l) h))

-- .. whose square is at most n
pub root-square : (n : ℕ) → root n * root n ≤ n
root-square n = (root_is n).below

-- both, as the definition states it
pub root-law : RootLaw
root-law n = (root-square n, root-largest n)

-- there is only one such number
pub root-unique : (n r : ℕ) → r * r ≤ n → n < (r + 1) * (r + 1) → r ≡ root n
root-unique n r h k = le_antisymm (root-largest n r h) (by (dec_le (root n) r))
  where
    by : Dec (root n ≤ r) → root n ≤ r
    by (yes l) = l
    by (no g) =
        let l : r + 1 ≤ root n = omega (arith, g) in
        absurd (not-le_of_lt k (le_trans (mul-le-mul l l) (root-square n)))

-- T grows by at most 65,536 in a round, and never falls below 65,536
pub momentum-grows : (t : ℕ) → next_momentum t ≤ t + 65536
unfolding next_momentum
momentum-grows t =
    let r : ℕ = root (65536 * 65536 + 4 * (t * t)) in
    let q : r ≤ 65536 + 2 * t = by r (root-square (65536 * 65536 + 4 * (t * t))) (dec_le r (65536 + 2 * t)) in
    omega arith
  where
    by : (r : ℕ) → r * r ≤ 65536 * 65536 + 4 * (t * t) → Dec (r ≤ 65536 + 2 * t) → r ≤ 65536 + 2 * t
    by r h (yes l) = l
    by r h (no g) =
        let l : 65536 + 2 * t + 1 ≤ r = omega (arith, g) in
        let s : (65536 + 2 * t + 1) * (65536 + 2 * t + 1) ≤ r * r = mul-le-mul l l in
        absurd (omega arith)

pub momentum_least : (t : ℕ) → 65536 ≤ t → t ≤ next_momentum t
unfolding next_momentum
momentum_least t h =
    let q : 2 * t ≤ root (65536 * 65536 + 4 * (t * t)) =
    root-largest (65536 * 65536 + 4 * (t * t)) (2 * t) (omega arith)
    in
    omega arith
