-- What a rounding of the step must give; one law for all roundings of integers/proofs/Rounded, one for the nearest by an even
-- divisor; and the two roundings of the rounds. Assumes nothing.
use mathlib.Core.Path.{◌≡◌, refl, sym, ap, ◌∙◌, subst}
use mathlib.Core.Logic.{⊎_elim}
use Prim.Native.Nat.{ℕ, ◌+◌, ◌-◌, ◌*◌, ◌≤◌, ◌<◌}
use native.Mathlib.Omega.{arith}
use lib.Dec.{lit<}
use lib.IntN.{ℤ, pos, nat_abs, ◌-ℤ◌, ◌*ℤ◌}
use lib.Signed.{◌≤ℤ◌, ◌<ℤ◌}
use Rattle.integers.specs.Whole.{square, nearest}
use Rattle.integers.proofs.Parts.{whole}
use Rattle.integers.proofs.Order.{≤ℤ-total, <ℤ→≤ℤ}
use Rattle.integers.proofs.Rounded.{rounded, nearest-rounded, zero-rounded, rounded_nonneg, rounded_nonpos, step-gain}
use Rattle.model.specs.Rounds.{nearest_eighth}

-- A step adds `share v` of a fall v and is cut off by the clamp, so that it changes the flow by some e from 0 to that. With
-- c the largest fall that moves nothing, change × fall is at least (c + 1) × its square; and a share has its fall's sign
pub record Rounding (share : ℤ → ℤ) (c : ℕ) : Type 0 where
  pub gain : (v e : ℤ) → pos 0 ≤ℤ (e *ℤ (share v -ℤ e)) → (pos (c + 1) *ℤ square e) ≤ℤ (e *ℤ v)
  pub rest : (v : ℤ) → share v ≡ pos 0 → nat_abs v ≤ c
  pub rising : (v : ℤ) → pos 0 <ℤ share v → pos 0 ≤ℤ v
  pub falling : (v : ℤ) → share v <ℤ pos 0 → v ≤ℤ pos 0

-- A share that is the quotient by b of the fall, its size raised by h: c = b − h − 1
module _ (share : ℤ → ℤ) (h c : ℕ) (is : (v : ℤ) → share v ≡ rounded h (c + 1 + h) v) where
  pub rounding : Rounding share c
  rounding = record { gain = gain; rest = rest; rising = rising; falling = falling }
    where
      gain : (v e : ℤ) → pos 0 ≤ℤ (e *ℤ (share v -ℤ e)) → (pos (c + 1) *ℤ square e) ≤ℤ (e *ℤ v)
      gain v e between = step-gain h (c + 1) v e (omega arith) (subst (λ (s : ℤ). pos 0 ≤ℤ (e *ℤ (s -ℤ e))) (is v) between)

      rest : (v : ℤ) → share v ≡ pos 0 → nat_abs v ≤ c
      rest v z = omega (arith, zero-rounded h (c + 1 + h) v (omega arith) (sym (is v) ∙ z))

      rising : (v : ℤ) → pos 0 <ℤ share v → pos 0 ≤ℤ v
      rising v l =
          ⊎_elim (λ k. k)
          (λ (k : v <ℤ pos 0). absurd (omega (whole, rw (is v) at l, rounded_nonpos h (c + 1 + h) v (omega arith) (<ℤ→≤ℤ k))))
          (≤ℤ-total (pos 0) v)

      falling : (v : ℤ) → share v <ℤ pos 0 → v ≤ℤ pos 0
      falling v l =
          ⊎_elim (λ k. k)
          (λ (k : pos 0 <ℤ v). absurd (omega (whole, rw (is v) at l, rounded_nonneg h (c + 1 + h) v (<ℤ→≤ℤ k))))
          (≤ℤ-total v (pos 0))

-- To the nearest by the divisor 2 × d, a half toward zero: c = d. So where d is the largest degree, twice of which is the
-- divisor, c is the degree
pub nearest-rounding : (share : ℤ → ℤ) (d : ℕ) → 0 < d → ((v : ℤ) → share v ≡ nearest v (2 * d)) → Rounding share d
nearest-rounding share d positive is =
    rounding share (d - 1) d
    (λ v.
    is v
    ∙ ap (nearest v) (omega arith)
    ∙ nearest-rounded (d - 1) (d + 1 + (d - 1)) (omega arith) (omega arith) v)

-- d / 8 to the nearest, a half toward zero: a fall of 5 moves
pub nearest-eighth-rounding : Rounding nearest_eighth 4
unfolding nearest_eighth
nearest-eighth-rounding = nearest-rounding nearest_eighth 4 (lit< tt) (λ v. refl)
