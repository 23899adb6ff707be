-- What quick rounds leave in the buffers beside the flow, which holds the last Pₖ.
use Rattle.std.specs.Prelude.{List, ◌++◌, ℕ, zero, suc, ℤ}
use Rattle.model.specs.declared.Terms.{Terms}
use Rattle.lists.specs.Lists.{zeros}
use Rattle.model.specs.Problem.{Problem, pair_count}
use Rattle.model.specs.Grid.{grid}
use Rattle.model.specs.Rounds.{eighth, quick_rounds}
use Rattle.model.specs.Calls.{image_of}

-- The earlier flow, Pₖ₋₁; zeros before the first round
abbrev pub earlier : Problem → ℕ → List ℤ
earlier p zero = zeros (pair_count p)
earlier p (suc k) = (quick_rounds eighth p k).iterate

-- The work buffer: its first half holds the earlier flow, its second half the one ahead, Rₖ₊₁
abbrev pub quick_work : Problem → ℕ → List ℤ
quick_work p k = earlier p k ++ (quick_rounds eighth p k).extrapolated

-- The image buffer: the image of the last Rₖ that was stepped on; its former values where no round was made
abbrev pub quick_image : Terms → List ℕ → List ℤ → ℕ → List ℤ → List ℤ
quick_image t samples weights zero former = former
quick_image t samples weights (suc k) former = image_of t samples (quick_rounds eighth (grid t samples weights) k).extrapolated
