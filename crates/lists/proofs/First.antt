-- `first_where`: the first index at which a test holds. Assumes nothing.
use mathlib.Core.Path.{◌≡◌, refl, sym, ◌∙◌}
use mathlib.Core.Bool.{Bool, true, false, cond, true≢false}
use Prim.Native.Nat.{ℕ, zero, suc, ◌≤◌, ◌<◌, suc-le-suc, zero-le}
use native.Mathlib.Nat.{le_of_suc-le-suc}
use native.Mathlib.Decide.{dec_lt}
use native.Mathlib.Omega.{arith}
use Rattle.lists.specs.Lists.{first_where}

-- k is the first index below n at which the test holds, or n where it holds at none
pub record First (n : ℕ) (test : ℕ → Bool) (k : ℕ) : Type 0 where
  pub within : k ≤ n
  pub before : (i : ℕ) → i < k → test i ≡ false
  pub found : k < n → test k ≡ true

first-here : (n : ℕ) (test : ℕ → Bool) → test 0 ≡ true → First (suc n) test 0
first-here n test t = record { within = zero-le; before = λ i h. absurd (omega arith); found = λ _. t }

first-later : (n : ℕ) (test : ℕ → Bool) (k : ℕ) → test 0 ≡ false → First n (λ i. test (suc i)) k → First (suc n) test (suc k)
first-later n test k t r =
    record { within = suc-le-suc r.within; before = before; found = λ h. r.found (le_of_suc-le-suc h) }
  where
    before : (i : ℕ) → i < suc k → test i ≡ false
    before zero h = t
    before (suc i) h = r.before i (le_of_suc-le-suc h)

pub first_where-first : (n : ℕ) (test : ℕ → Bool) → First n test (first_where n test)
unfolding first_where
first_where-first zero test =
    record { within = zero-le; before = λ i h. absurd (omega arith); found = λ h. absurd (omega arith) }
first_where-first (suc n) test = go (test 0) refl (first_where-first n (λ i. test (suc i)))
  where
    rest : ℕ
    rest = first_where n (λ i. test (suc i))

    go : (b : Bool) → test 0 ≡ b → First n (λ i. test (suc i)) rest → First (suc n) test (cond b 0 (suc rest))
    go true t r = first-here n test t
    go false t r = first-later n test rest t r

-- there is only one such index
pub first-unique : (n : ℕ) (test : ℕ → Bool) (k l : ℕ) → First n test k → First n test l → k ≡ l
first-unique n test k l a b = by (dec_lt k l) (dec_lt l k)
  where
    clash : (i : ℕ) → test i ≡ true → test i ≡ false → ⊥
    clash i t f = true≢false (sym t ∙ f)

    by : Dec (k < l) → Dec (l < k) → k ≡ l
    by (yes h) d = absurd (clash k (a.found (omega (arith, b.within))) (b.before k h))
    by (no g) (yes h) = absurd (clash l (b.found (omega (arith, a.within))) (a.before l h))
    by (no g) (no h) = omega (arith, g, h)

pub first_where-is : (n : ℕ) (test : ℕ → Bool) (k : ℕ) → First n test k → first_where n test ≡ k
first_where-is n test k r = first-unique n test (first_where n test) k (first_where-first n test) r

-- tests that agree below n find the same index
pub first_where-cong : (n : ℕ) {test other : ℕ → Bool} → ((i : ℕ) → i < n → test i ≡ other i) → first_where n test ≡ first_where n other
first_where-cong n {test} {other} same =
    let r = first_where-first n other in
    first_where-is n test (first_where n other)
    (record {
      within = r.within;
      before = λ i l. same i (omega (arith, r.within)) ∙ r.before i l;
      found = λ l. same (first_where n other) l ∙ r.found l;
    })
