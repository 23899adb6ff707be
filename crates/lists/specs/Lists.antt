-- Buffers as lists. An image, a flow and the readings are functions from an index to a number; a buffer's list becomes
-- one by `at`, and a function becomes a buffer's list by `table`.
use Rattle.std.specs.Prelude.{Bool, cond, List, [], ◌∷◌, ◌++◌, ℕ, zero, suc, ltb, ℤ, pos, Option, Some, None, length, get_or, drop, replicate}

-- the number at index i of a buffer
abbrev pub at : List ℤ → ℕ → ℤ
at buffer i = get_or buffer i (pos 0)

-- a buffer of zeros
abbrev pub zeros : ℕ → List ℤ
zeros n = replicate n (pos 0)

module _ {A : Type 0} where
  -- f 0, f 1, .., f (n − 1)
  unfoldable pub table : ℕ → (ℕ → A) → List A
  table zero f = []
  table (suc n) f = table n f ++ (f n ∷ [])

  -- the lists g 0, g 1, .., g (n − 1) one after another
  unfoldable pub chain : ℕ → (ℕ → List A) → List A
  chain zero g = []
  chain (suc n) g = chain n g ++ g n

  -- a buffer whose front is filled with new values and whose rest is left
  abbrev pub overwritten : List A → List A → List A
  overwritten new buffer = new ++ drop (length new) buffer

-- the first index below n at which the test holds; n where it holds at none
unfoldable pub first_where : ℕ → (ℕ → Bool) → ℕ
first_where zero test = 0
first_where (suc n) test = cond (test 0) 0 (suc (first_where n (λ i. test (suc i))))

-- an index below n, or none
abbrev pub below : ℕ → ℕ → Option ℕ
below n k = cond (ltb k n) (Some k) None
