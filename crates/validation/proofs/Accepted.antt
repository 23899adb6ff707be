-- The size is allowed where the rows of the terms accept. Assumes nothing.
use mathlib.Core.Path.{◌≡◌}
use mathlib.Core.Bool.{true}
use mathlib.Core.List.{[], ◌∷◌}
use borrow.Author.Tests.{not-false}
use Rattle.model.specs.declared.Terms.{Terms}
use Rattle.model.specs.Verdict.{Accept, first_refusal}
use Rattle.model.specs.Grid.{size_allowed}
use Rattle.model.specs.Calls.{size_row, weight_row, box_row}
use Rattle.model.proofs.Refusals.{accepted-row}

pub accepted-size : (t : Terms) → first_refusal (size_row t 0 ∷ weight_row t.weight 0 ∷ box_row t 0 ∷ []) ≡ Accept → size_allowed t.width t.height ≡ true
accepted-size t h = not-false _ (accepted-row (size_row t 0) (weight_row t.weight 0 ∷ box_row t 0 ∷ []) h).0
