use mathlib.Core.Path.{◌∙◌, ap₂}
use mathlib.Core.List.{[], ◌∷◌}
use lib.IntN.{ℤ}
use borrow.Author.Rules.{rules}
use Rattle.model.specs.Verdict.{first_refusal}
use Rattle.validation.specs.Outside.{outside_row}
use Rattle.validation.proofs.rows.judge_image.Goals as goal

pub returns : goal.returns
returns c =
    c.require_none.ensures _ _ c.first_outside.ensures
    ∙ ap₂ (λ (low high : ℤ). first_refusal (outside_row low high c.args.image.now ∷ [])) (search rules) (search rules)
