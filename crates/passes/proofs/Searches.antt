-- A search for a moving pair by parts: where no pair before a moves, the n pairs from a on say whether one of them does.
-- Assumes nothing.
use mathlib.Core.Path.{◌≡◌, refl, sym, ap, ◌∙◌}
use mathlib.Core.Bool.{Bool, true}
use Prim.Native.Nat.{ℕ, ◌+◌, ◌≤◌, ◌<◌}
use native.Mathlib.Omega.{arith}
use Rattle.lists.specs.Lists.{first_where, below}
use Rattle.lists.proofs.First.{first_where-first, first_where-cong}
use Rattle.lists.proofs.Search.{Passed, passed_append, search_found, search_none}
use Rattle.std.specs.Prelude.{Option, Some, None}
use Rattle.passes.proofs.Moving.{nothing_is, at-is, nothing-moves, one-moves, first-is}

-- the answer of a search among n pairs
abbrev pub answer : ℕ → (ℕ → Bool) → Option ℕ
answer n test = below n (first_where n test)

pub answer-cong : (n : ℕ) (s t : ℕ → Bool) → ((i : ℕ) → i < n → s i ≡ t i) → answer n s ≡ answer n t
answer-cong n s t h = ap (below n) (first_where-cong n h)

-- ---- what an answer says

module _ (test : ℕ → Bool) where
  pub none_moves : (n : ℕ) → answer n test ≡ None → Passed test n
  none_moves n e i l = (first_where-first n test).before i (omega (arith, nothing-moves n (first_where n test) refl e))

  pub first-moves : (n : ℕ) {j : ℕ} → answer n test ≡ Some j → (j < n) × Passed test j × (test j ≡ true)
  first-moves n {j} e =
      let l : first_where n test < n = one-moves n (first_where n test) refl e in
      let k : first_where n test ≡ j = first-is n (first_where n test) refl e in
      let f = first_where-first n test in
      (omega arith, rw k at f.before, rw k at (f.found l))

-- ---- and back

module _ (test : ℕ → Bool) where
  pub none_answer : {k n : ℕ} → Passed test k → k ≡ n → None ≡ answer n test
  none_answer {k} {n} p e = nothing_is n (first_where n test) (sym (search_none n test k (omega arith, p) (omega arith)) ∙ e)

  pub first-answer : {j n : ℕ} → Passed test j → j < n → test j ≡ true → Some j ≡ answer n test
  first-answer {j} {n} p l t = at-is n (first_where n test) (sym (search_found n test j (omega arith, p) t)) l

  -- ---- the n pairs from a on

  module _ (a n : ℕ) (p : Passed test a) where
    pub part_none : answer n (λ i. test (a + i)) ≡ None → Passed test (a + n)
    part_none e = passed_append test a n p (none_moves (λ i. test (a + i)) n e)

    pub part_first : {j m : ℕ} → answer n (λ i. test (a + i)) ≡ Some j → a + n ≤ m → Some (a + j) ≡ answer m test
    part_first {j} {m} e h =
        let (l, q, t) = first-moves (λ i. test (a + i)) n e in
        first-answer (passed_append test a j p q) (omega arith) t
