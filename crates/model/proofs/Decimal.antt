-- The decimal text of a number is what it is said to be. Assumes nothing.
use mathlib.Core.Path.{◌≡◌, refl, ap, ◌∙◌, subst⁻¹}
use mathlib.Core.List.{List, [], ◌∷◌, ◌++◌}
use Prim.Native.Nat.{ℕ, zero, suc, ◌+◌, ◌-◌, ◌*◌, ◌/◌, ◌%◌, ◌≤◌, ◌<◌}
use native.Mathlib.Decide.{dec_le}
use native.Mathlib.Omega.{arith}
use lib.ListN.{length, get_or}
use borrow.Author.Tests.{lt-ltb, le-ltb}
use Rattle.model.specs.Text.{decimal_by, decimal, Digits, value_from, DecimalLaw}

-- what holds of the text of n
record IsDecimal (n : ℕ) (text : List ℕ) : Type 0 where
  digits : Digits text
  value : value_from 0 text ≡ n
  some : 0 < length text
  first : 0 < n → 48 < get_or text 0 0

-- one more digit behind
digits_behind : (text : List ℕ) (d : ℕ) → 48 ≤ d → d ≤ 57 → Digits text → Digits (text ++ (d ∷ []))
unfolding Digits
digits_behind [] d l h all = (l, h, tt)
digits_behind (x ∷ text) d l h all = (all.0, all.1, digits_behind text d l h all.2)

value_behind : (m : ℕ) (text : List ℕ) (d : ℕ) → value_from m (text ++ (d ∷ [])) ≡ 10 * value_from m text + (d - 48)
unfolding value_from
value_behind m [] d = refl
value_behind m (x ∷ text) d = value_behind (10 * m + (x - 48)) text d

length-behind : (text : List ℕ) (d : ℕ) → 0 < length (text ++ (d ∷ []))
length-behind [] d = omega arith
length-behind (x ∷ text) d = omega arith

first-behind : (text : List ℕ) (d : ℕ) → 0 < length text → get_or (text ++ (d ∷ [])) 0 0 ≡ get_or text 0 0
first-behind [] d h = absurd (omega arith)
first-behind (x ∷ text) d h = refl

one : (k n : ℕ) → n < 10 → decimal_by (suc k) n ≡ (48 + n) ∷ []
unfolding decimal_by
one k n h = rw (lt-ltb n 10 h, decimal_by) refl

more : (k n : ℕ) → 10 ≤ n → decimal_by (suc k) n ≡ decimal_by k (n / 10) ++ ((48 + n % 10) ∷ [])
unfolding decimal_by
more k n h = rw (le-ltb n 10 h, decimal_by) refl

single : (n : ℕ) → n < 10 → IsDecimal n ((48 + n) ∷ [])
unfolding Digits value_from
single n few = record { digits = (omega arith, omega arith, tt); value = omega arith; some = omega arith; first = λ p. omega (arith, p) }

behind : (k n : ℕ) → 10 ≤ n → IsDecimal (n / 10) (decimal_by k (n / 10)) → IsDecimal n (decimal_by k (n / 10) ++ ((48 + n % 10) ∷ []))
behind k n l q =
    record {
      digits = digits_behind (decimal_by k (n / 10)) (48 + n % 10) (omega arith) (omega arith) q.digits;
      value = value_behind 0 (decimal_by k (n / 10)) (48 + n % 10) ∙ ap (λ (v : ℕ). 10 * v + (48 + n % 10 - 48)) q.value ∙ omega arith;
      some = length-behind (decimal_by k (n / 10)) (48 + n % 10);
      first = λ _. subst⁻¹ (λ (x : ℕ). 48 < x) (first-behind (decimal_by k (n / 10)) (48 + n % 10) q.some) (q.first (omega (arith, l)));
    }

by-fuel : (k n : ℕ) → n < k → IsDecimal n (decimal_by k n)
by-fuel zero n h = absurd (omega arith)
by-fuel (suc k) n h = go (dec_le 10 n) (by-fuel k (n / 10))
  where
    go : Dec (10 ≤ n) → (n / 10 < k → IsDecimal (n / 10) (decimal_by k (n / 10))) → IsDecimal n (decimal_by (suc k) n)
    go (no l) q = subst⁻¹ (IsDecimal n) (one k n (omega (arith, l))) (single n (omega (arith, l)))
    go (yes l) q = subst⁻¹ (IsDecimal n) (more k n l) (behind k n l (q (omega (arith, l, h))))

-- only 0 is written with the digit 0 in front, and that is its only digit
longer : (n : ℕ) → 1 < length (decimal n) → 0 < n
unfolding decimal decimal_by
longer zero h = absurd (omega arith)
longer (suc n) h = omega arith

pub decimal-law : DecimalLaw
unfolding decimal
decimal-law n = let q = by-fuel (suc n) n (omega arith) in (q.digits, q.value, q.some, λ long. q.first (longer n long))
