use native.Mathlib.Omega.{arith}
use mathlib.Core.Path.{sym, subst}
use Prim.Native.Nat.{◌*◌, ◌≤◌}
use lib.IntN.{nat_abs}
use Rattle.std.specs.Prelude.{Result}
use Rattle.model.specs.declared.Job.{Job}
use Rattle.model.specs.declared.Refusal.{Refusal}
use Rattle.model.specs.Calls.{Answer, pixels_of}
use Rattle.model.specs.Answers.{answer_of, read_answer_of}
use Rattle.calls.specs.Slack.{most_slack}
use Rattle.job.proofs.Slacks.{slack-most}
use Rattle.job.proofs.answer.answer_of.Goals as goal

pub returns-clause-result_bound : goal.returns-clause-result_bound
returns-clause-result_bound c =
    let a = c.args in
    let job = c.in_ok-job.job in
    let small =
    slack-most job.terms job.rounds job.weighted job.flowed a.samples.now a.weights.now a.flow.now a.image.now a.work.now (omega arith)
    (λ i. omega (arith, c.type_inv.samples i))
    in
    subst
    (λ (r : Result Job Refusal). nat_abs (answer_of c.check_or_run.result).slack ≤ most_slack * pixels_of (read_answer_of r).terms)
    (sym c.in_ok-job.was)
    (subst (λ (x : Answer). nat_abs x.slack ≤ most_slack * pixels_of job.terms) (sym c.check_or_run.ensures.result_value) small)
