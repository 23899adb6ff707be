-- It goes down the rows: those of the terms, of the lengths, of the weights, of the image.
use mathlib.Core.List.{List, [], ◌∷◌}
use Prim.Native.Nat.{ℕ}
use lib.IntN.{ℤ}
use lib.ListN.{length}
use borrow.Author.Rules.{rules}
use Rattle.model.proofs.Refusals.{stopped, went_on, passes}
use Rattle.model.specs.Verdict.{Row}
use Rattle.model.specs.declared.Terms.{Terms}
use Rattle.model.specs.Calls.{pixels_of, pairs_of}
use Rattle.validation.specs.Lengths.{price_length_rows}
use Rattle.validation.proofs.Accepted.{accepted-size}
use Rattle.validation.proofs.UnderTerms.{terms_rows}
use Rattle.validation.proofs.refusals.judge_price.Goals as goal

abbrev lengths : Terms → ℕ → List ℤ → List ℤ → List Row
lengths t samples weights image = price_length_rows (pixels_of t) (pairs_of t) samples (length weights) (length image)

pub returns-in_err-judge_terms : goal.returns-in_err-judge_terms
returns-in_err-judge_terms c = stopped (terms_rows c.args.t) _ c.judge_terms.ensures c.in_err-judge_terms.was (search rules)

pub judge_price_lengths-requires : goal.judge_price_lengths-requires
judge_price_lengths-requires c = accepted-size c.args.t (passes c.judge_terms.ensures c.in_ok-judge_terms.was)

pub returns-in_err-judge_price_lengths : goal.returns-in_err-judge_price_lengths
returns-in_err-judge_price_lengths c =
    went_on (terms_rows c.args.t) _ c.judge_terms.ensures c.in_ok-judge_terms.was
    (stopped (lengths c.args.t c.args.samples c.args.weights.now c.args.image.now) _ c.judge_price_lengths.ensures c.in_err-judge_price_lengths.was (search rules))

pub returns-in_err-judge_weights : goal.returns-in_err-judge_weights
returns-in_err-judge_weights c =
    went_on (terms_rows c.args.t) _ c.judge_terms.ensures c.in_ok-judge_terms.was
    (went_on (lengths c.args.t c.args.samples c.args.weights.now c.args.image.now) _ c.judge_price_lengths.ensures c.in_ok-judge_price_lengths.was
    (stopped (_ ∷ []) _ c.judge_weights.ensures c.in_err-judge_weights.was (search rules)))

pub returns : goal.returns
returns c =
    went_on (terms_rows c.args.t) _ c.judge_terms.ensures c.in_ok-judge_terms.was
    (went_on (lengths c.args.t c.args.samples c.args.weights.now c.args.image.now) _ c.judge_price_lengths.ensures c.in_ok-judge_price_lengths.was
    (went_on (_ ∷ []) _ c.judge_weights.ensures c.in_ok-judge_weights.was c.judge_image.ensures))
