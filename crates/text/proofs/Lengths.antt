-- How long a refused job's line is. Assumes nothing.
use mathlib.Core.List.{[], ◌∷◌}
use Prim.Native.Nat.{ℕ, zero, suc, ◌+◌, ◌/◌, ◌%◌, ◌^◌, ◌≤◌, ◌<◌}
use native.Mathlib.Decide.{dec_lt}
use native.Mathlib.Omega.{arith}
use lib.ListN.{length, length-append}
use borrow.Author.Tests.{lt-ltb, le-ltb}
use Rattle.model.specs.Text.{ascii, decimal_by, decimal}
use Rattle.model.specs.Calls.{refusal}
use Rattle.model.specs.Program.{refusal_text}

-- a number below a power of ten has at most so many digits
digits_few : (k d n : ℕ) → n < 10 ^ suc d → length (decimal_by k n) ≤ suc d
unfolding decimal_by
digits_few zero d n h = omega arith
digits_few (suc k) d n h = by (dec_lt n 10) d h (λ e. digits_few k e (n / 10))
  where
    by : Dec (n < 10) → (d : ℕ) → n < 10 ^ suc d → ((e : ℕ) → n / 10 < 10 ^ suc e → length (decimal_by k (n / 10)) ≤ suc e) → length (decimal_by (suc k) n) ≤ suc d
    by (yes l) d h shorter = rw (lt-ltb n 10 l, decimal_by) (omega arith)
    by (no g) zero h shorter = absurd (omega (arith, g))
    by (no g) (suc d) h shorter =
        rw (le-ltb n 10 (omega (arith, g)), decimal_by)
        (omega (arith, shorter d (omega arith), length-append (decimal_by k (n / 10)) ((48 + n % 10) ∷ [])))

pub twenty_digits : (n : ℕ) → n < 2 ^ 64 → length (decimal n) ≤ 20
unfolding decimal
twenty_digits n h = digits_few (suc n) 19 n (omega arith)

pub refusal-length : (number place : ℕ) → number < 2 ^ 64 → place < 2 ^ 64 → length (refusal_text (refusal number place)) ≤ 53
unfolding ascii refusal_text
refusal-length number place h l =
    simp length-append (omega (arith, twenty_digits number h, twenty_digits place l))
