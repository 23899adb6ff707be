-- The statements of demand 3 and of request F-5 as tests that compute, with the numbers in them left open, so that the table of
-- counterexamples can alter them.
use Rattle.std.specs.Prelude.{Bool, not, ◌&&◌, ◌||◌, ℕ, ◌+◌, ◌*◌, ℤ, pos, ◌+ℤ◌, ◌*ℤ◌}
use Rattle.std.specs.Int.Signed.{le_z, lt_z, shr_z}
use Rattle.integers.specs.Whole.{quotient, sign, same_z}
use Rattle.lists.specs.Lists.{at}
use Rattle.model.specs.Problem.{Problem, price, image, slack, distance}
use Rattle.model.specs.Rounds.{eighth, nearest_eighth, quick_rounds, Steady, steady_rounds}

-- ---- Runs

-- The flow P that quick rounds leave, the R ahead of it, and how a run ends whose steady rounds add this share of a fall
abbrev pub start : Problem → ℕ → ℕ → ℤ
start p quick = at (quick_rounds eighth p quick).iterate

abbrev pub ahead : Problem → ℕ → ℕ → ℤ
ahead p quick = at (quick_rounds eighth p quick).extrapolated

abbrev pub ends : (ℤ → ℤ) → Problem → ℕ → ℕ → Steady
ends share p quick allowance = steady_rounds share p allowance (quick_rounds eighth p quick).iterate

-- .. and how document 01's run ends, as request F-1 has it
abbrev pub run : Problem → ℕ → ℕ → Steady
run = ends nearest_eighth

-- d / 8 rounded down, and away from zero
abbrev pub eighth_down : ℤ → ℤ
eighth_down d = shr_z d 8

abbrev pub eighth_away : ℤ → ℤ
eighth_away d = quotient (d +ℤ pos 7 *ℤ sign d) (pos 8)

-- ---- Statements

-- The distance law for an image x against y, s standing for the slack: price + squared distance ≤ other price + slack
unfoldable pub close : ℤ → Problem → (ℕ → ℤ) → (ℕ → ℤ) → Bool
close s p x y = le_z (price p x +ℤ distance p x y) (price p y +ℤ s)

-- .. for a flow's image, with the slack of the flow
unfoldable pub certified : Problem → (ℕ → ℤ) → (ℕ → ℤ) → Bool
certified p f y = close (slack p f) p (image p f) y

-- The flow's image equals y exactly when their prices are equal ..
unfoldable pub alike : Problem → (ℕ → ℤ) → (ℕ → ℤ) → Bool
alike p f y =
    let prices : Bool = same_z (price p (image p f)) (price p y) in
    let images : Bool = same_z (distance p (image p f) y) (pos 0) in
    prices && images || not prices && not images

-- .. where the slack is 0
unfoldable pub alike_at_zero : Problem → (ℕ → ℤ) → (ℕ → ℤ) → Bool
alike_at_zero p f y = not (same_z (slack p f) (pos 0)) || alike p f y

-- Two images x and y, s standing for the sum of their slacks: r × squared distance ≤ sum, with 2 for r as request F-5 has it
unfoldable pub near : ℕ → ℤ → Problem → (ℕ → ℤ) → (ℕ → ℤ) → Bool
near r s p x y = le_z (pos r *ℤ distance p x y) s

-- .. for the images of two flows, of one problem or of two, with the slack of each
unfoldable pub within_slacks : Problem → (ℕ → ℤ) → Problem → (ℕ → ℤ) → Bool
within_slacks p f q g = near 2 (slack p f +ℤ slack q g) p (image p f) (image q g)

-- .. and equal images where s and r, standing for the slacks, are 0
unfoldable pub equal_at_zero : ℤ → ℤ → Problem → (ℕ → ℤ) → (ℕ → ℤ) → Bool
equal_at_zero s r p f g =
    not (same_z s (pos 0) && same_z r (pos 0)) || same_z (distance p (image p f) (image p g)) (pos 0)

-- A number on a whole division is c times the one on the grid
abbrev pub times_as_large : ℕ → ℤ → ℤ → Bool
times_as_large c there here = same_z there (pos c *ℤ here)

-- The slack of a settled run is at most the bound
unfoldable pub settled_within : ℕ → Problem → Steady → Bool
settled_within bound p e = not e.settled || le_z (slack p (at e.flow)) (pos bound)

-- r × moved is at most the slack of the flow f
unfoldable pub moved_within : ℕ → Problem → (ℕ → ℤ) → Steady → Bool
moved_within r p f e = le_z (pos (r * e.moved)) (slack p f)

-- A run settles whenever r × (allowance + 1) exceeds the slack of the flow that its quick rounds leave
unfoldable pub settles_when : ℕ → (ℤ → ℤ) → Problem → ℕ → ℕ → Bool
settles_when r share p quick allowance =
    not (lt_z (slack p (start p quick)) (pos (r * (allowance + 1)))) || (ends share p quick allowance).settled
