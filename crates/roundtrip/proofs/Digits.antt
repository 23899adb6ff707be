-- Numbers in bytes: the two's complement is the machine's. Assumes nothing.
use mathlib.Core.Path.{◌≡◌, refl, sym, ap, ap₂, ◌∙◌, subst⁻¹}
use mathlib.Core.Bool.{Bool, true, false, cond}
use mathlib.Core.List.{List, [], ◌∷◌}
use Prim.Native.Nat.{ℕ, suc, ◌+◌, ◌-◌, ◌*◌, ◌/◌, ◌%◌, ◌^◌, ◌≤◌, ◌<◌}
use native.Mathlib.Nat.{div-add-mod', div-div-eq-div-mul}
use native.Mathlib.Omega.{arith}
use lib.Dec.{ltb}
use lib.IntN.{ℤ, pos, negsuc, sub_ℕ}
use mir.Syntax.{w32}
use mir.Val.{SFits, to_z, of_z, sel}
use mir.Facts.{to_z-of_z, of_z-to_z}
use mir.ValLaws.{of_z_fits, to_z-Fits}
use borrow.Author.Tests.{lt-ltb, le-ltb}
use Rattle.model.specs.Tape.{byte_of, two_bytes, from_two, complement, four_bytes, signed, from_four}

-- a − b of two natural numbers, by their order
pub sub-negative : (a b : ℕ) → a < b → sub_ℕ a b ≡ negsuc (b - suc a)
sub-negative a b h = ap (λ (t : Bool). cond t (negsuc (b - suc a)) (pos (a - b))) (lt-ltb a b h)

pub sub-natural : (a b : ℕ) → b ≤ a → sub_ℕ a b ≡ pos (a - b)
sub-natural a b h = ap (λ (t : Bool). cond t (negsuc (b - suc a)) (pos (a - b))) (le-ltb a b h)

pub complement-bits : (z : ℤ) → complement z ≡ of_z w32 z
complement-bits (pos n) = refl
complement-bits (negsuc n) = refl

pub signed-bits : (n : ℕ) → n < 2 ^ 32 → signed n ≡ to_z w32 n
signed-bits n h = split (ltb n (2 ^ 31))
  where
    split : (t : Bool) → cond t (pos n) (sub_ℕ n (2 ^ 32)) ≡ sel t (pos n) (negsuc (2 ^ 32 - suc n))
    split true = refl
    split false = sub-negative n (2 ^ 32) h

-- ---- two bytes

pub two_there : (n : ℕ) → n < 65536 → from_two (byte_of n 0) (byte_of n 1) ≡ n
two_there n h = omega arith

module _ {a b : ℕ} (ha : a < 256) (hb : b < 256) where
  pub two_fits : from_two a b < 65536
  two_fits = omega arith

  pub two_back : two_bytes (from_two a b) ≡ a ∷ b ∷ []
  two_back = ap₂ (λ (x y : ℕ). x ∷ y ∷ []) (omega arith) (omega arith)

-- ---- four bytes

abbrev word : ℕ → ℕ → ℕ → ℕ → ℕ
word b0 b1 b2 b3 = b0 + 256 * (b1 + 256 * (b2 + 256 * b3))

-- a number from its quotients and remainders by 256
from-digits : (n q1 q2 q3 r0 r1 r2 r3 : ℕ) → q1 * 256 + r0 ≡ n → q2 * 256 + r1 ≡ q1 → q3 * 256 + r2 ≡ q2 → r3 ≡ q3 →
    word r0 r1 r2 r3 ≡ n
from-digits n q1 q2 q3 r0 r1 r2 r3 e0 e1 e2 e3 = omega arith

word-there : (n : ℕ) → n < 2 ^ 32 → word (byte_of n 0) (byte_of n 1) (byte_of n 2) (byte_of n 3) ≡ n
word-there n h =
    from-digits n (n / 256) (n / 65536) (n / 16777216) (byte_of n 0) (byte_of n 1) (byte_of n 2) (byte_of n 3)
    (omega arith)
    (ap (λ (q : ℕ). q * 256 + n / 256 % 256) (sym (div-div-eq-div-mul n 256 256)) ∙ div-add-mod' (n / 256) 256)
    (ap (λ (q : ℕ). q * 256 + n / 65536 % 256) (sym (div-div-eq-div-mul n 65536 256)) ∙ div-add-mod' (n / 65536) 256)
    (omega arith)

pub four_there : (z : ℤ) → SFits w32 z →
    let c : ℕ = complement z in from_four (byte_of c 0) (byte_of c 1) (byte_of c 2) (byte_of c 3) ≡ z
four_there z f =
    let l : complement z < 2 ^ 32 = subst⁻¹ (λ (n : ℕ). n < 2 ^ 32) (complement-bits z) (of_z_fits w32 z f).fits in
    ap signed (word-there (complement z) l) ∙ signed-bits (complement z) l ∙ ap (to_z w32) (complement-bits z) ∙ to_z-of_z f

module _ {b0 b1 b2 b3 : ℕ} (h0 : b0 < 256) (h1 : b1 < 256) (h2 : b2 < 256) (h3 : b3 < 256) where
  word_fits : word b0 b1 b2 b3 < 2 ^ 32
  word_fits = omega arith

  pub four_fits : SFits w32 (from_four b0 b1 b2 b3)
  four_fits = subst⁻¹ (SFits w32) (signed-bits (word b0 b1 b2 b3) word_fits) (to_z-Fits w32 (word b0 b1 b2 b3) (record { fits = word_fits }))

  complement-back : complement (from_four b0 b1 b2 b3) ≡ word b0 b1 b2 b3
  complement-back =
      complement-bits (from_four b0 b1 b2 b3)
      ∙ ap (of_z w32) (signed-bits (word b0 b1 b2 b3) word_fits)
      ∙ of_z-to_z {w = w32} (record { fits = word_fits })

  pub four_back : four_bytes (from_four b0 b1 b2 b3) ≡ b0 ∷ b1 ∷ b2 ∷ b3 ∷ []
  four_back = ap bytes complement-back ∙ four (omega arith) (omega arith) (omega arith) (omega arith)
    where
      bytes : ℕ → List ℕ
      bytes c = byte_of c 0 ∷ byte_of c 1 ∷ byte_of c 2 ∷ byte_of c 3 ∷ []

      n : ℕ
      n = word b0 b1 b2 b3

      four : byte_of n 0 ≡ b0 → byte_of n 1 ≡ b1 → byte_of n 2 ≡ b2 → byte_of n 3 ≡ b3 → bytes n ≡ b0 ∷ b1 ∷ b2 ∷ b3 ∷ []
      four e0 e1 e2 e3 = cc
