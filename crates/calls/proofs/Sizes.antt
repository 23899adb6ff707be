-- The slack that check and run give, by the pixels of the job. Assumes nothing.
use mathlib.Core.Path.{◌≡◌, refl, sym, subst}
use mathlib.Core.List.{List}
use Prim.Native.Nat.{ℕ, ◌*◌, ◌^◌, ◌≤◌, ◌<◌, zero-le}
use native.Mathlib.Nat.{mul-le-mul}
use native.Mathlib.Omega.{arith}
use lib.IntN.{ℤ, nat_abs}
use lib.ListN.{get_or}
use Rattle.model.specs.declared.Terms.{Terms}
use Rattle.model.specs.declared.Rounds.{Rounds}
use Rattle.model.specs.Verdict.{Verdict, Accept, Refuse}
use Rattle.model.specs.Calls.{Answer, pixels_of, figures_of, ending, check_verdict, check_answer, run_verdict, run_answer}
use Rattle.lists.specs.Lists.{at}
use Rattle.model.proofs.Accepted.{check_accepted, check_feasible, run-accepted}
use Rattle.model.proofs.Answers.{check_answer_lem, run-answer}
use Rattle.model.proofs.Range.{widest_fits}
use Rattle.calls.proofs.Bounds.{slack-by-pixels}
use Rattle.certificate.proofs.Grid.{ending-flow}
use Rattle.calls.specs.Slack.{most_slack}
use Rattle.calls.proofs.Jobs.{with_bytes}

-- so the slacks of 65,535 jobs of 4,096 pixels add up to less than 2 ^ 64
pub most-slack-fits : most_slack ≤ 10 * 2 ^ 32
most-slack-fits = omega (arith, mul-le-mul widest_fits widest_fits)

module _ (t : Terms) (samples : List ℕ) (weights : List ℤ) (high : t.high < 256) (bytes : (i : ℕ) → get_or samples i 0 < 256) where
  abbrev Small : Answer → Type 0
  Small a = nat_abs a.slack ≤ most_slack * pixels_of t

  pub check_small : (flow values : List ℤ) → Small (check_answer t samples weights flow values)
  unfolding figures_of
  check_small flow values = go (check_verdict t samples weights flow values) refl
    where
      go : (v : Verdict) → check_verdict t samples weights flow values ≡ v → Small (check_answer t samples weights flow values)
      go Accept e =
          let a = (check_accepted t samples weights flow values).0 e in
          subst Small (sym (check_answer_lem t samples weights flow values e))
          (omega (arith, slack-by-pixels t samples weights (with_bytes t samples weights a.terms a.pair_weights high bytes) (at flow) (check_feasible t samples weights flow values a)))
      go (Refuse n q) e = subst Small (sym (check_answer_lem t samples weights flow values e)) zero-le

  pub run_small : (r : Rounds) (flow values work : List ℤ) → Small (run_answer t r samples weights flow values work)
  unfolding figures_of
  run_small r flow values work = go (run_verdict t r samples weights flow values work) refl
    where
      go : (v : Verdict) → run_verdict t r samples weights flow values work ≡ v → Small (run_answer t r samples weights flow values work)
      go Accept e =
          let a = (run-accepted t r samples weights flow values work).0 e in
          subst Small (sym (run-answer t r samples weights flow values work e))
          (omega (arith, slack-by-pixels t samples weights (with_bytes t samples weights a.terms a.pair_weights high bytes) (at (ending t r samples weights).flow) (ending-flow t r samples weights a.terms.box).1))
      go (Refuse n q) e = subst Small (sym (run-answer t r samples weights flow values work e)) zero-le
