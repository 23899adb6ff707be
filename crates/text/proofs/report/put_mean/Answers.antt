use mathlib.Core.Path.{◌≡◌, refl, ap₂, ◌∙◌}
use Prim.Native.Nat.{ℕ, zero, suc, ◌/◌, ◌%◌, ◌<◌}
use native.Mathlib.Omega.{arith}
use Rattle.std.specs.Prelude.{Option, None, Some, SomeIff}
use Rattle.std.specs.Option.{unwrap_or}
use Rattle.model.specs.Text.{ascii}
use Rattle.model.specs.Season.{line_of_two, mean_line}
use Rattle.output.proofs.Puts.{put_as}
use Rattle.text.proofs.report.put_mean.Goals as goal

-- the line for the quotient and the remainder; where there are no pixels, neither is there
mean_of : (total pixels : ℕ) (q r : Option ℕ) → SomeIff q (0 < pixels) (total / pixels) → SomeIff r (0 < pixels) (total % pixels) →
    line_of_two "mean" (unwrap_or q 0) (unwrap_or r 0) ≡ mean_line total pixels
mean_of total zero None None _ _ = refl
mean_of total zero (Some q) _ (some, _) _ = absurd (omega arith)
mean_of total zero None (Some r) _ (some, _) = absurd (omega arith)
mean_of total (suc n) None _ none _ = absurd (none (omega arith))
mean_of total (suc n) (Some q) None _ none = absurd (none (omega arith))
mean_of total (suc n) (Some q) (Some r) (_, e) (_, f) = ap₂ (line_of_two "mean") e f

pub returns-clause-put : goal.returns-clause-put
unfolding ascii
returns-clause-put c =
    put_as
    (ap₂ (line_of_two "mean") c.unwrap_or-quotient.ensures c.unwrap_or-remainder.ensures
    ∙ mean_of c.args.total c.args.pixels c.checked_div.result c.checked_rem.result c.checked_div.ensures c.checked_rem.ensures)
    c.put_line_of_two.ensures.put
