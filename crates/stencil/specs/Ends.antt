-- The two ends of a range, in sub-units: those of the box, and values within a range.
use Rattle.std.specs.Prelude.{List, ◌≡◌, ℕ, ◌<◌, ℤ, length, ◌≤ℤ◌}
use Rattle.model.specs.declared.Terms.{Terms}
use Rattle.lists.specs.Lists.{at}
use Rattle.model.specs.Grid.{low_end, high_end}

-- Two numbers are the ends of a job's box (the bounds of the box constraint) (SPECIFICATION 1.6)
pub record BoxEnds (t : Terms) (low high : ℤ) : Type 0 where
  pub low_is : low ≡ low_end t.low
  pub high_is : high ≡ high_end t.high

-- Every value lies between the two ends (in the interval), as those of an image of the box do (SPECIFICATION 2.8)
abbrev pub Between : ℤ → ℤ → List ℤ → Type 0
Between low high values = (i : ℕ) → i < length values → (low ≤ℤ at values i) × (at values i ≤ℤ high)
