-- A search from the front for the first index at which a test holds: the invariant of a loop that looks for it, and of
-- one that only tells whether there is such an index. Assumes nothing.
use mathlib.Core.Path.{◌≡◌, refl, sym, ap, ◌∙◌}
use mathlib.Core.Bool.{Bool, true, false, cond, ◌||◌, true≢false}
use Prim.Native.Nat.{ℕ, ◌+◌, ◌-◌, ◌≤◌, ◌<◌, zero-le}
use native.Mathlib.Decide.{dec_lt}
use native.Mathlib.Omega.{arith}
use borrow.Author.Count.{below_none, below_more}
use borrow.Author.Tests.{ltb-false, lt-ltb, le-ltb}
use lib.Dec.{ltb}
use Rattle.std.specs.Prelude.{Some, None}
use Rattle.lists.specs.Lists.{first_where, below}
use Rattle.lists.proofs.First.{first_where-first, first_where-is}

-- no index before k passes the test
module _ (test : ℕ → Bool) where
  abbrev pub Passed : ℕ → Type 0
  Passed k = (i : ℕ) → i < k → test i ≡ false

  pub passed_none : Passed 0
  passed_none = below_none (λ i. test i ≡ false)

  -- n more
  pub passed_append : (k n : ℕ) → Passed k → ((i : ℕ) → i < n → test (k + i) ≡ false) → Passed (k + n)
  passed_append k n p h i l = by (dec_lt i k)
    where
      by : Dec (i < k) → test i ≡ false
      by (yes b) = p i b
      by (no g) =
          let e : i ≡ k + (i - k) = omega (arith, g) in
          ap test e ∙ h (i - k) (omega (arith, g))

-- .. of n indices
abbrev pub Searched : ℕ → (ℕ → Bool) → ℕ → Type 0
Searched n test i = (i ≤ n) × Passed test i

pub search_start : (n : ℕ) (test : ℕ → Bool) → Searched n test 0
search_start n test = (zero-le, passed_none test)

pub search_on : (n : ℕ) (test : ℕ → Bool) (i : ℕ) → Searched n test i → i < n → test i ≡ false → Searched n test (i + 1)
search_on n test i s l t = (omega arith, below_more (λ k. test k ≡ false) i s.1 t)

pub search_found : (n : ℕ) (test : ℕ → Bool) (i : ℕ) → Searched n test i → test i ≡ true → i ≡ first_where n test
search_found n test i s t = sym (first_where-is n test i (record { within = s.0; before = s.1; found = λ _. t }))

pub search_none : (n : ℕ) (test : ℕ → Bool) (i : ℕ) → Searched n test i → n ≤ i → i ≡ first_where n test
search_none n test i s l =
    sym (first_where-is n test i (record { within = s.0; before = s.1; found = λ h. absurd (omega arith) }))

-- `some`: an index passes the test; else none before i does
abbrev pub Met : ℕ → (ℕ → Bool) → ℕ → Bool → Type 0
Met n test i some = (i ≤ n) × (some ≡ false → Searched n test i) × (some ≡ true → first_where n test < n)

-- where a search has come to an index, none has passed from there on yet
pub met_from : (n : ℕ) (test : ℕ → Bool) (i : ℕ) → Searched n test i → Met n test i false
met_from n test i s = (s.0, λ _. s, λ h. absurd (true≢false (sym h)))

pub met_start : (n : ℕ) (test : ℕ → Bool) → Met n test 0 false
met_start n test = met_from n test 0 (search_start n test)

pub met_on : (n : ℕ) (test : ℕ → Bool) (i : ℕ) (some b : Bool) → Met n test i some → i < n → b ≡ test i → Met n test (i + 1) (some || b)
met_on n test i true b m l e = (omega arith, λ h. absurd (true≢false h), λ _. m.2 refl)
met_on n test i false true m l e =
    let at : i ≡ first_where n test = search_found n test i (m.1 refl) (sym e) in
    (omega arith, λ h. absurd (true≢false h), λ _. omega arith)
met_on n test i false false m l e =
    (omega arith, λ _. search_on n test i (m.1 refl) l (sym e), λ h. absurd (true≢false (sym h)))

pub met_end : (n : ℕ) (test : ℕ → Bool) (i : ℕ) (some : Bool) → Met n test i some → n ≤ i → some ≡ ltb (first_where n test) n
met_end n test i true m l = sym (lt-ltb (first_where n test) n (m.2 refl))
met_end n test i false m l =
    let none : i ≡ first_where n test = search_none n test i (m.1 refl) l in
    sym (le-ltb (first_where n test) n (omega arith))

-- where no index passes, `first_where` gives n
pub none_met : (n : ℕ) (test : ℕ → Bool) → ltb (first_where n test) n ≡ false → n ≡ first_where n test
none_met n test h = omega (arith, ltb-false (first_where n test) n h, (first_where-first n test).within)

-- ---- .. as the index that was found, or none

pub none_below : (n : ℕ) (test : ℕ → Bool) → ltb (first_where n test) n ≡ false → None ≡ below n (first_where n test)
none_below n test h = sym (ap (λ (b : Bool). cond b (Some (first_where n test)) None) h)

pub found_below : (n : ℕ) (test : ℕ → Bool) (i : ℕ) → Searched n test i → i < n → test i ≡ true → Some i ≡ below n (first_where n test)
found_below n test i s l t =
    let at : i ≡ first_where n test = search_found n test i s t in
    ap Some at ∙ sym (ap (λ (b : Bool). cond b (Some (first_where n test)) None) (lt-ltb (first_where n test) n (omega arith)))

pub all_below : (n : ℕ) (test : ℕ → Bool) (i : ℕ) → Searched n test i → n ≤ i → None ≡ below n (first_where n test)
all_below n test i s l =
    let at : i ≡ first_where n test = search_none n test i s l in
    none_below n test (le-ltb (first_where n test) n (omega arith))
