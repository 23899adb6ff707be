-- The fewest digits that hold a number are its decimal text. Assumes nothing.
use mathlib.Core.Path.{◌≡◌, refl, sym, ap, ap₂, ◌∙◌, subst}
use mathlib.Core.Bool.{Bool, cond}
use mathlib.Core.List.{List, [], ◌∷◌, ◌++◌}
use Prim.Native.Nat.{ℕ, zero, suc, ◌+◌, ◌*◌, ◌-◌, ◌/◌, ◌%◌, ◌^◌, ◌≤◌, ◌<◌}
use native.Mathlib.Omega.{arith}
use borrow.Author.Tests.{lt-ltb, le-ltb}
use lib.IntN.{ℤ, pos, negsuc, nat_abs}
use lib.Signed.{◌≤ℤ◌, ◌<ℤ◌}
use Rattle.integers.proofs.Parts.{whole}
use Rattle.io.specs.Digits.{hex_digit_ascii, last_digits, IsDigitCount}
use Rattle.model.specs.Text.{decimal_by, decimal, signed_decimal}

-- a digit's code
glyph_ten : (d : ℕ) → d < 10 → hex_digit_ascii d ≡ 48 + d
glyph_ten d h = ap (λ (b : Bool). cond b (48 + d) (87 + d)) (lt-ltb d 10 h)

-- one digit, and one more
decimal-one : (m n : ℕ) → n < 10 → decimal_by (suc m) n ≡ (48 + n) ∷ []
unfolding decimal_by
decimal-one m n h = rw (lt-ltb n 10 h, decimal_by) refl

decimal-more : (m n : ℕ) → 10 ≤ n → decimal_by (suc m) n ≡ decimal_by m (n / 10) ++ ((48 + n % 10) ∷ [])
unfolding decimal_by
decimal-more m n h = rw (le-ltb n 10 h, decimal_by) refl

power_above : (k : ℕ) → k < 10 ^ k
power_above zero = omega arith
power_above (suc k) = omega (arith, power_above k)

less_one : (k : ℕ) → k ≡ suc k - 1
less_one k = omega arith

-- what more digits than one say of the number
at_least : (k n : ℕ) → IsDigitCount 10 1 n (suc (suc k)) → 10 ^ suc k ≤ n
at_least k n (_, _, g) = subst (λ (e : ℕ). 10 ^ e ≤ n) (omega arith) (g (omega arith))

by_digits : (k m n : ℕ) → k ≤ m → IsDigitCount 10 1 n (suc k) → last_digits 10 (suc k) n ≡ decimal_by (suc m) n
by_digits zero m n l (_, h, _) =
    ap (λ (x : ℕ). x ∷ []) (glyph_ten (n % 10) (omega arith) ∙ omega arith) ∙ sym (decimal-one m n (omega arith))
by_digits (suc k) zero n l f = absurd (omega arith)
by_digits (suc k) (suc m) n l f =
    let p : 10 * 10 ^ k ≤ n = omega (arith, at_least k n f) in
    let h : n < 10 * (10 * 10 ^ k) = omega (arith, f.1) in
    ap₂ (λ (front : List ℕ) (x : ℕ). front ++ (x ∷ []))
    (by_digits k m (n / 10) (omega arith) (omega arith, omega arith, λ _. subst (λ (e : ℕ). 10 ^ e ≤ n / 10) (less_one k) (omega arith)))
    (glyph_ten (n % 10) (omega arith))
    ∙ sym (decimal-more (suc m) n (omega (arith, power_above k)))

pub digits_decimal : (k n : ℕ) → IsDigitCount 10 1 n k → last_digits 10 k n ≡ decimal n
unfolding decimal
digits_decimal zero n f = absurd (omega (arith, f.0))
digits_decimal (suc k) n f = by_digits k n n (within k f) f
  where
    within : (k : ℕ) → IsDigitCount 10 1 n (suc k) → k ≤ n
    within zero f = omega arith
    within (suc k) f = omega (arith, at_least k n f, power_above (suc k))

-- a signed number by its absolute value
pub below_zero : (z : ℤ) → z <ℤ pos 0 → 45 ∷ decimal (nat_abs z) ≡ signed_decimal z
unfolding signed_decimal
below_zero (pos n) h = absurd (omega whole)
below_zero (negsuc n) h = refl

pub from_zero : (z : ℤ) → pos 0 ≤ℤ z → decimal (nat_abs z) ≡ signed_decimal z
unfolding signed_decimal
from_zero (pos n) h = refl
from_zero (negsuc n) h = absurd h.le
