-- The whole square root (SPECIFICATION 3.3): how it is computed, and the law that it is the number document 01 means.
use Rattle.std.specs.Prelude.{cond, ℕ, zero, suc, ◌+◌, ◌*◌, ◌/◌, ◌≤◌, leb}

-- The root of n in binary digits, by way of the root r of n / 4: it is 2 r or 2 r + 1. The first argument bounds the digits
unfoldable pub root_by : ℕ → ℕ → ℕ
root_by zero n = 0
root_by (suc k) zero = 0
root_by (suc k) (suc n) =
    let r = 2 * root_by k (suc n / 4) in
    cond (leb ((r + 1) * (r + 1)) (suc n)) (r + 1) r

unfoldable pub root : ℕ → ℕ
root n = root_by n n

-- Document 01's sentence: it is the largest whole number whose square is at most n (proved: `root-law`, proofs/Root.antt)
abbrev pub RootLaw : Type 0
RootLaw = (n : ℕ) → (root n * root n ≤ n) × ((s : ℕ) → s * s ≤ n → s ≤ root n)
