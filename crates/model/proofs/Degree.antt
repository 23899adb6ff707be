-- The degree of a pixel, the number of pairs that it lies in, and how to count. Assumes nothing.
use mathlib.Core.Path.{◌≡◌, refl, sym, ap, ap₂, ◌∙◌}
use mathlib.Core.Bool.{Bool, true, false, cond}
use Prim.Native.Nat.{ℕ, zero, suc, ◌+◌, ◌≤◌, ◌<◌, zero-le}
use native.Mathlib.Nat.{add-zero, add-suc}
use native.Mathlib.Omega.{arith}
use borrow.Author.Tests.{eqb-true, ne_eqb}
use lib.Dec.{eqb}
use Rattle.model.specs.Problem.{Problem, pair_count, first_of, second_of}

-- how many indices below n pass a test
unfoldable pub count_where : ℕ → (ℕ → Bool) → ℕ
count_where zero test = 0
count_where (suc n) test = count_where n test + cond (test n) 1 0

-- in how many pairs a pixel is first, and in how many it is second
unfoldable pub degree : Problem → ℕ → ℕ
degree p i =
    count_where (pair_count p) (λ j. eqb (first_of p j) i) + count_where (pair_count p) (λ j. eqb (second_of p j) i)

pub count_none : (n : ℕ) (test : ℕ → Bool) → ((j : ℕ) → j < n → test j ≡ false) → count_where n test ≡ 0
unfolding count_where
count_none zero test h = refl
count_none (suc n) test h =
    ap₂ (λ (a b : ℕ). a + b) (count_none n test (λ j l. h j (omega arith))) (ap (λ (b : Bool). cond b 1 0) (h n (omega arith)))

pub count-split : (n m : ℕ) (test : ℕ → Bool) → count_where (n + m) test ≡ count_where n test + count_where m (λ k. test (n + k))
unfolding count_where
count-split n zero test = ap (λ (k : ℕ). count_where k test) (add-zero n) ∙ sym (add-zero (count_where n test))
count-split n (suc m) test =
    ap (λ (k : ℕ). count_where k test) (add-suc n m)
    ∙ ap (λ (c : ℕ). c + cond (test (n + m)) 1 0) (count-split n m test)
    ∙ omega arith

-- a value is taken at most once by a function that rises
pub count-rising : (n : ℕ) (g : ℕ → ℕ) (i : ℕ) → ((a b : ℕ) → a < b → b < n → g a < g b) → count_where n (λ j. eqb (g j) i) ≤ 1
unfolding count_where
count-rising zero g i rises = zero-le
count-rising (suc n) g i rises =
    go (eqb (g n) i) refl (count-rising n g i (λ a b l k. rises a b l (omega arith)))
  where
    go : (b : Bool) → eqb (g n) i ≡ b → count_where n (λ j. eqb (g j) i) ≤ 1 → count_where n (λ j. eqb (g j) i) + cond b 1 0 ≤ 1
    go false e ih = omega arith
    go true e ih =
        let z : count_where n (λ j. eqb (g j) i) ≡ 0 =
        count_none n (λ j. eqb (g j) i)
        (λ j l. ne_eqb (g j) i (λ q. omega (arith, rises j n l (omega arith), eqb-true (g n) i e)))
        in
        omega arith
