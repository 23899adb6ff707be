-- It goes down the rows: those of the terms, of the rounds, of the lengths, of the work buffer, of the weights.
use mathlib.Core.Path.{◌≡◌, ap, ◌∙◌}
use mathlib.Core.List.{[], ◌∷◌}
use Prim.Native.Nat.{ℕ, ◌*◌}
use native.Mathlib.Omega.{arith}
use borrow.Author.Rules.{rules}
use borrow.Author.Tests.{not-false, eqb-true}
use Rattle.model.specs.Verdict.{Accept, first_refusal}
use Rattle.model.specs.Calls.{pixels_of, pairs_of, exact_row}
use Rattle.model.specs.declared.Terms.{Terms}
use Rattle.model.proofs.Refusals.{accepted-rows, stopped, went_on, passes}
use Rattle.validation.specs.Lengths.{length_rows}
use Rattle.validation.proofs.Accepted.{accepted-size}
use Rattle.validation.proofs.Size.{allowed-size}
use Rattle.validation.proofs.UnderTerms.{terms_rows}
use Rattle.validation.proofs.refusals.judge_run.Goals as goal

-- past the rows of the lengths the flow is as long as it is due
flow-due : (t : Terms) (samples weights flow image : ℕ) →
    first_refusal (length_rows (pixels_of t) (pairs_of t) samples weights flow image) ≡ Accept → flow ≡ pairs_of t
flow-due t samples weights flow image h =
    eqb-true flow (pairs_of t) (not-false _ (accepted-rows (length_rows (pixels_of t) (pairs_of t) samples weights flow image) h).1.0)

pub returns-in_err-judge_terms : goal.returns-in_err-judge_terms
returns-in_err-judge_terms c = stopped (terms_rows c.args.t) _ c.judge_terms.ensures c.in_err-judge_terms.was (search rules)

pub returns-in_err-judge_rounds : goal.returns-in_err-judge_rounds
returns-in_err-judge_rounds c =
    went_on (terms_rows c.args.t) _ c.judge_terms.ensures c.in_ok-judge_terms.was
    (stopped (_ ∷ []) _ c.judge_rounds.ensures c.in_err-judge_rounds.was (search rules))

pub judge_lengths-requires : goal.judge_lengths-requires
judge_lengths-requires c = accepted-size c.args.t (passes c.judge_terms.ensures c.in_ok-judge_terms.was)

pub returns-in_err-judge_lengths : goal.returns-in_err-judge_lengths
returns-in_err-judge_lengths c =
    went_on (terms_rows c.args.t) _ c.judge_terms.ensures c.in_ok-judge_terms.was
    (went_on (_ ∷ []) _ c.judge_rounds.ensures c.in_ok-judge_rounds.was
    (stopped (length_rows _ _ _ _ _ _) _ c.judge_lengths.ensures c.in_err-judge_lengths.was (search rules)))

pub overflow_mul-flow : goal.overflow_mul-flow
overflow_mul-flow c =
    let t = c.args.t in
    let due = flow-due t _ _ _ _ (passes c.judge_lengths.ensures c.in_ok-judge_lengths.was) in
    let size = allowed-size (accepted-size t (passes c.judge_terms.ensures c.in_ok-judge_terms.was)) in
    record { fits = omega (arith, due, size.pairs) }

pub returns-in_err-require : goal.returns-in_err-require
returns-in_err-require c =
    let due = flow-due c.args.t _ _ _ _ (passes c.judge_lengths.ensures c.in_ok-judge_lengths.was) in
    went_on (terms_rows c.args.t) _ c.judge_terms.ensures c.in_ok-judge_terms.was
    (went_on (_ ∷ []) _ c.judge_rounds.ensures c.in_ok-judge_rounds.was
    (went_on (length_rows _ _ _ _ _ _) _ c.judge_lengths.ensures c.in_ok-judge_lengths.was
    (stopped (_ ∷ []) _ (c.require.ensures ∙ ap (λ (m : ℕ). first_refusal (exact_row 7 c.args.work (2 * m) ∷ [])) due) c.in_err-require.was (search rules))))

pub returns : goal.returns
returns c =
    let due = flow-due c.args.t _ _ _ _ (passes c.judge_lengths.ensures c.in_ok-judge_lengths.was) in
    went_on (terms_rows c.args.t) _ c.judge_terms.ensures c.in_ok-judge_terms.was
    (went_on (_ ∷ []) _ c.judge_rounds.ensures c.in_ok-judge_rounds.was
    (went_on (length_rows _ _ _ _ _ _) _ c.judge_lengths.ensures c.in_ok-judge_lengths.was
    (went_on (_ ∷ []) _ (c.require.ensures ∙ ap (λ (m : ℕ). first_refusal (exact_row 7 c.args.work (2 * m) ∷ [])) due) c.in_ok-require.was c.judge_weights.ensures)))
