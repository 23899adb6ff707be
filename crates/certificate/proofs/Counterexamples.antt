-- In every row of the table the statement holds and the altered one fails, and the bounds listed are met exactly: one test
-- over the whole table, computed. Assumes nothing.
use mathlib.Core.Bool.{true, false, true≢false}
use mathlib.Core.Path.{◌≡◌, refl, sym, ◌∙◌}
use Prim.Native.Nat.{ℕ}
use lib.IntN.{ℤ, ◌+ℤ◌}
use Rattle.integers.proofs.Order.{true-le_z}
use mathlib.Core.List.{map}
use Rattle.integers.specs.Whole.{clamp, nearest}
use Rattle.integers.specs.Sum.{total}
use Rattle.lists.specs.Lists.{table, chain, first_where}
use Rattle.model.specs.Problem.{Problem, InBox, fall, misfit, price, pull, image, floor, slack, distance, weight_sum}
use Rattle.model.specs.Grid.{weight_of, reading_of, low_end, high_end, vertical_pairs, horizontal_pairs, grid_pairs}
use Rattle.model.specs.Root.{root_by, root}
use Rattle.model.specs.Rounds.{eighth, nearest_eighth, stepped, step, next_momentum, extrapolate, quick_start, quick_round, quick_rounds, would_move, first_moving, steady_rounds}
use Rattle.model.specs.Demand.{WithinSlacks, Certified}
use Rattle.certificate.specs.Statements.{close, certified, alike, alike_at_zero, near, within_slacks, equal_at_zero, settled_within, moved_within, settles_when}
use Rattle.certificate.specs.Counterexamples.{Alteration, distance_rows, two_flows_rows, division_rows, settled_rows, moved_rows, settles_rows, rows, met_exactly}

pub counterexamples : (map (λ (r : Alteration). r.statement) rows ≡ map (λ _. true) rows)
    × (map (λ (r : Alteration). r.altered) rows ≡ map (λ _. false) rows)
    × (met_exactly ≡ map (λ _. true) met_exactly)
unfolding clamp nearest total table chain first_where fall misfit price pull image floor slack distance weight_sum weight_of reading_of low_end high_end vertical_pairs horizontal_pairs grid_pairs root_by root eighth nearest_eighth stepped step next_momentum extrapolate quick_start quick_round quick_rounds would_move first_moving steady_rounds close certified alike alike_at_zero near within_slacks equal_at_zero settled_within moved_within settles_when distance_rows two_flows_rows division_rows settled_rows moved_rows settles_rows rows met_exactly
counterexamples = (refl, refl, refl)

-- The distance test is demand 3's statement: a certified image passes it against every image of the box, so an image that
-- fails it against one is not certified
pub certified-passes : (p : Problem) (x y : ℕ → ℤ) (s : ℤ) → Certified p x (price p x) s → InBox p y → close s p x y ≡ true
unfolding close
certified-passes p x y s c h = true-le_z (c.close y h)

pub not-certified : (p : Problem) (x y : ℕ → ℤ) (s : ℤ) → InBox p y → close s p x y ≡ false → ¬ Certified p x (price p x) s
not-certified p x y s h e c = true≢false (sym (certified-passes p x y s c h) ∙ e)

-- .. and the test of two images is request F-5's
pub within-slacks-passes : (p : Problem) (x y : ℕ → ℤ) (s r : ℤ) → WithinSlacks p x y s r → near 2 (s +ℤ r) p x y ≡ true
unfolding near
within-slacks-passes p x y s r w = true-le_z w.near

pub not-within-slacks : (p : Problem) (x y : ℕ → ℤ) (s r : ℤ) → near 2 (s +ℤ r) p x y ≡ false → ¬ WithinSlacks p x y s r
not-within-slacks p x y s r e w = true≢false (sym (within-slacks-passes p x y s r w) ∙ e)
