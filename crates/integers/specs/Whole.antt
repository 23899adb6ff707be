-- Whole numbers without limits, as ℤ of the kit (`+ℤ`, `-ℤ`, `*ℤ`; `pos n` is the natural number n): absolute value,
-- square, projection onto an interval, quotients rounded toward zero and to the nearest, and tests that compute.
use Rattle.std.specs.Prelude.{Bool, false, cond, ℕ, ◌*◌, eqb, ltb, ℤ, pos, negsuc, nat_abs, neg_ℤ, ◌+ℤ◌, ◌*ℤ◌}
use Rattle.std.specs.Int.Signed.{lt_z, quot_z, rem_z}

-- |z|
abbrev pub abs : ℤ → ℤ
abs z = pos (nat_abs z)

-- z²
abbrev pub square : ℤ → ℤ
square z = z *ℤ z

-- z clamped to low .. high: the projection onto that interval
unfoldable pub clamp : ℤ → ℤ → ℤ → ℤ
clamp low high z = cond (lt_z z low) low (cond (lt_z high z) high z)

-- z / d rounded toward zero: the truncated quotient
abbrev pub quotient : ℤ → ℤ → ℤ
quotient z d = quot_z z d

-- −1 below zero, else 1
abbrev pub sign : ℤ → ℤ
sign (pos n) = pos 1
sign (negsuc n) = neg_ℤ (pos 1)

-- z / d rounded to the nearest whole number, an exact half toward zero: the truncated quotient, or one further from zero
-- where twice the remainder's size exceeds d
unfoldable pub nearest : ℤ → ℕ → ℤ
nearest z d = cond (ltb d (2 * nat_abs (rem_z z (pos d)))) (quotient z (pos d) +ℤ sign z) (quotient z (pos d))

-- whether two whole numbers are the same
abbrev pub same_z : ℤ → ℤ → Bool
same_z (pos a) (pos b) = eqb a b
same_z (pos a) (negsuc b) = false
same_z (negsuc a) (pos b) = false
same_z (negsuc a) (negsuc b) = eqb a b
