-- The test holds nowhere before `start`; while a block is asked, `some` tells whether it holds from there on before `i`; then:
-- it holds nowhere before `i`.
use mathlib.Core.Path.{◌≡◌}
use mathlib.Core.Bool.{Bool}
use Prim.Native.Nat.{ℕ, ◌-◌, ◌<◌}
use Rattle.lists.proofs.Search.{Searched, Met}
use Rattle.validation.proofs.search.first_index.Given as goal

abbrev pub invariant-loop-start : goal.invariant-loop-start
invariant-loop-start g l =
    (p : ℕ → Bool) → ((i : ℕ) (b : Bool) → i < l.count → goal.F-post g l.test i b → b ≡ p i) → Searched l.count p l.start

abbrev pub decreases-loop-start : goal.decreases-loop-start
decreases-loop-start g l = l.count - l.start

abbrev pub invariant-loop-i : goal.invariant-loop-i
invariant-loop-i g l =
    (p : ℕ → Bool) → ((i : ℕ) (b : Bool) → i < l.count → goal.F-post g l.test i b → b ≡ p i) → Met l.count p l.i l.some

abbrev pub invariant-loop-i-2 : goal.invariant-loop-i-2
invariant-loop-i-2 g l =
    (p : ℕ → Bool) → ((i : ℕ) (b : Bool) → i < l.count → goal.F-post g l.test i b → b ≡ p i) → Searched l.count p l.i
