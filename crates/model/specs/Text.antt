-- Text as ASCII bytes (SPECIFICATION 7.4).
use Rattle.std.specs.Prelude.{true, false, List, [], ◌∷◌, ◌++◌, ◌≡◌, ℕ, zero, suc, ◌+◌, ◌-◌, ◌*◌, ◌/◌, ◌%◌, ◌≤◌, ◌<◌, ltb, ℤ, pos, negsuc, length, get_or}
use Prim.Native.Char.{code}
use Prim.Native.String.{String, [] as empty, ◌∷◌ as ◌before◌}

-- a quoted text
unfoldable pub ascii : String → List ℕ
ascii empty = []
ascii (◌before◌ c s) = code c ∷ ascii s

-- a number in decimal digits, none of them a leading zero; the first argument bounds their count
unfoldable pub decimal_by : ℕ → ℕ → List ℕ
decimal_by zero n = []
decimal_by (suc k) n =
    elim (ltb n 10) [ true ↦ (48 + n) ∷ [] | false ↦ decimal_by k (n / 10) ++ ((48 + n % 10) ∷ []) ]

unfoldable pub decimal : ℕ → List ℕ
decimal n = decimal_by (suc n) n

-- ASCII digits
unfoldable pub Digits : List ℕ → Type 0
Digits [] = Unit {0}
Digits (d ∷ digits) = (48 ≤ d) × (d ≤ 57) × Digits digits

-- the number that they stand for, where those in front of them stand for n
unfoldable pub value_from : ℕ → List ℕ → ℕ
value_from n [] = n
value_from n (d ∷ digits) = value_from (10 * n + (d - 48)) digits

-- What the text of n is: digits, one at least, that stand for n, without a leading zero (proved: `decimal-law`,
-- proofs/Decimal.antt)
abbrev pub DecimalLaw : Type 0
DecimalLaw =
    (n : ℕ) →
    Digits (decimal n)
    × (value_from 0 (decimal n) ≡ n)
    × (0 < length (decimal n))
    × (1 < length (decimal n) → 48 < get_or (decimal n) 0 0)

-- with a sign in front where it is negative
unfoldable pub signed_decimal : ℤ → List ℕ
signed_decimal (pos n) = decimal n
signed_decimal (negsuc n) = 45 ∷ decimal (suc n)
