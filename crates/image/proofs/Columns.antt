-- A row of a flow's image: what the limits of a row say of a column, and that clamped values lie within the range. Assumes
-- nothing.
use mathlib.Core.List.{List, ◌∷◌}
use Prim.Native.Nat.{ℕ, zero, suc, ◌≤◌, ◌<◌, zero-le}
use native.Mathlib.Omega.{arith}
use lib.IntN.{ℤ, pos, nat_abs}
use lib.ListN.{length}
use lib.Signed.{◌≤ℤ◌}
use Rattle.integers.specs.Whole.{clamp}
use Rattle.integers.proofs.Clamp.{clamp-≥, clamp-≤}
use Rattle.lists.specs.Lists.{at, table}
use Rattle.lists.proofs.Tables.{length-table, get_or-table}
use Rattle.stencil.specs.Ends.{Between}
use Rattle.passes.specs.Limits.{Within}
use Rattle.stencil.specs.Limits.{most}
use Rattle.image.specs.Limits.{ColumnLimits, RowLimits}

-- 0 before a part
within-cons : {k : ℕ} (l : List ℤ) → Within k l → Within k (pos 0 ∷ l)
within-cons l h zero = zero-le
within-cons l h (suc i) = h i

module _ {row : List ℤ} {samples : List ℕ} {below above across : List ℤ} (l : RowLimits row samples below above across) where
  pub column_limits : (c : ℕ) → c < length row → (right : ℤ) → nat_abs right ≤ most → ColumnLimits below above c right (at (pos 0 ∷ across) c)
  column_limits c h right m =
      record {
        below_reach = λ k. omega (arith, l.below_count k);
        above_reach = λ k. omega (arith, l.above_count k);
        below_most = l.below_most;
        above_most = l.above_most;
        right_most = m;
        left_most = within-cons across l.across_most c;
      }

-- clamped values lie between the two ends, whichever these are, in order
pub clamped_between : {low high : ℤ} → low ≤ℤ high → (n : ℕ) (g : ℕ → ℤ) → Between low high (table n (λ c. clamp low high (g c)))
clamped_between {low} {high} o n g i h =
    let l : i < n = rw (length-table n (λ c. clamp low high (g c))) at h in
    rw (get_or-table n (λ c. clamp low high (g c)) i (pos 0) l) (clamp-≥ low high (g i) o, clamp-≤ low high (g i) o)
