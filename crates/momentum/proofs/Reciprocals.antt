-- Multiplying by the reciprocal and shifting is dividing. Assumes nothing.
use mathlib.Core.Path.{◌≡◌, sym, ap, ◌∙◌}
use Prim.Native.Nat.{ℕ, zero, suc, ◌+◌, ◌*◌, ◌/◌, ◌%◌, ◌^◌, ◌≤◌, ◌<◌}
use native.Mathlib.Nat.{le-div_iff_mul-le, div-lt_iff_lt-mul, div-mul-le_self, mul-le-mul_left, mul-le-mul_right, lt_of_mul-lt-mul_right, le_of_mul-le-mul_right, div-add-mod', div-le_of_le-mul, mod-lt}
use native.Mathlib.Omega.{arith}
use lib.Dec.{lit<}
use lib.IntN.{ℤ, pos, negsuc, nat_abs, neg_ℤ, ◌*ℤ◌}
use Rattle.integers.specs.Whole.{quotient}
use Rattle.integers.proofs.Quotient.{quotient-neg}
use Rattle.momentum.specs.Reciprocal.{Reciprocal}

-- a quotient from its two bounds
pub div_is : (x k q : ℕ) → zero < k → q * k ≤ x → x < suc q * k → x / k ≡ q
div_is x k q p l u =
    let a : q ≤ x / k = (le-div_iff_mul-le p).1 l in
    let b : x / k < suc q = (div-lt_iff_lt-mul p).1 u in
    omega arith

pub reciprocal_exact : (a b m n : ℕ) → zero < b → Reciprocal a b m → n * b < 2 ^ 46 → n * m / 2 ^ 46 ≡ a * n / b
reciprocal_exact a b m n p r small =
    let q : ℕ = a * n / b in
    let low : q * b ≤ a * n = div-mul-le_self (a * n) b in
    let high : a * n < suc q * b = (div-lt_iff_lt-mul {k = b} {x = a * n} {y = suc q} p).0 (omega arith) in
    div_is (n * m) (2 ^ 46) q (lit< tt)
    (le_of_mul-le-mul_right (lower q low) p)
    (lt_of_mul-lt-mul_right b (upper q high))
  where
    lower : (q : ℕ) → q * b ≤ a * n → q * 2 ^ 46 * b ≤ n * m * b
    lower q h =
        let u : q * b * 2 ^ 46 ≤ a * n * 2 ^ 46 = mul-le-mul_right (2 ^ 46) h in
        let v : n * (a * 2 ^ 46) ≤ n * (m * b) = mul-le-mul_left n (omega (arith, r.above)) in
        omega arith

    upper : (q : ℕ) → a * n < suc q * b → n * m * b < suc q * 2 ^ 46 * b
    upper q h =
        let u : suc (a * n) * 2 ^ 46 ≤ suc q * b * 2 ^ 46 = mul-le-mul_right (2 ^ 46) h in
        let v : n * (m * b) ≤ n * (a * 2 ^ 46 + b) = mul-le-mul_left n r.near in
        omega arith

-- the reciprocal in two steps of long division, the first to 32 binary places, the second to 14 more
module _ (a b : ℕ) (p : zero < b) (l : a ≤ b) where
  pub rest-small : a * 4294967296 % b < b
  rest-small = mod-lt (a * 4294967296) p

  pub high-most : a * 4294967296 / b ≤ 4294967296
  high-most = div-le_of_le-mul b (omega (arith, mul-le-mul_right 4294967296 l))

  pub low-most : a * 4294967296 % b * 16384 / b < 16384
  low-most = (div-lt_iff_lt-mul p).1 (omega (arith, rest-small))

  pub reciprocal_is : Reciprocal a b (a * 4294967296 / b * 16384 + a * 4294967296 % b * 16384 / b + 1)
  reciprocal_is =
      let x : ℕ = a * 4294967296 in
      let y : ℕ = x % b * 16384 in
      let first = div-add-mod' x b in
      let second = div-add-mod' y b in
      let last = mod-lt y p in
      record { above = omega arith; near = omega arith }

-- the same for whole numbers, rounded toward zero
pub quotient-exact : (a b m : ℕ) (x : ℤ) → zero < b → Reciprocal a b m → nat_abs x * b < 2 ^ 46 →
    quotient (x *ℤ pos m) (pos (2 ^ 46)) ≡ quotient (pos a *ℤ x) (pos b)
quotient-exact a b m (pos n) p r small = ap pos (reciprocal_exact a b m n p r small)
quotient-exact a b m (negsuc n) p r small =
    quotient-neg (pos (suc n * m)) (2 ^ 46)
    ∙ ap (λ (k : ℕ). neg_ℤ (pos k)) (reciprocal_exact a b m (suc n) p r small)
    ∙ sym (quotient-neg (pos (a * suc n)) b)
