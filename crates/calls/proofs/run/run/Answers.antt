use mathlib.Core.Path.{◌≡◌, sym, ap, ap₂, ◌∙◌, subst}
use mathlib.Core.List.{List}
use mathlib.Core.Bool.{Bool, cond}
use Prim.Native.Nat.{ℕ, ◌*◌}
use native.Mathlib.Omega.{arith}
use lib.IntN.{ℤ, pos}
use lib.ListN.{length, replicate}
use Rattle.lists.specs.Lists.{at}
use Rattle.model.specs.Problem.{Feasible}
use Rattle.model.specs.Grid.{grid}
use Rattle.model.specs.Rounds.{Steady}
use Rattle.model.specs.Calls.{settled, spent, image_of, figures_of, ending, run_verdict}
use Rattle.model.specs.Accepted.{RunAllowed}
use Rattle.model.proofs.Answers.{run-answer, run-flow, run-image, run-work}
use Rattle.model.proofs.Accepted.{zero-as, run-accepted, run-number}
use Rattle.certificate.proofs.Grid.{run-demand, ending-flow}
use Rattle.calls.proofs.Objectives.{figured}
use Rattle.model.specs.declared.Terms.{Terms}
use Rattle.model.specs.declared.Rounds.{Rounds}
use borrow.Author.Rules.{rules}
use Rattle.std.specs.Prelude.{Err}
use Rattle.model.specs.Verdict.{Accept}
use Rattle.model.specs.Answers.{answer_of}
use Rattle.model.proofs.Refusals.{passes}
use Rattle.calls.proofs.run.run.Goals as goal

pub returns-in_err-judge_run : goal.returns-in_err-judge_run
unfolding run_verdict
returns-in_err-judge_run c =
    let h = passes c.judge_run.ensures c.in_err-judge_run.was in
    let failed : c.from_residual.result ≡ Err c.in_err-judge_run.field-0.0 = search rules in
    let t = c.args.t in
    let r = c.args.r in
    let b = c.args.samples.now in
    let o = c.args.weights.now in
    let f = c.args.flow.now in
    let x = c.args.image.now in
    let w = c.args.work.now in
    let e = ap answer_of failed ∙ sym (run-answer t r b o f x w h) in
    let g = sym (run-flow t r b o f x w h) in
    let k = sym (run-image t r b o f x w h) in
    record {
      result_value = e;
      flow_after = g;
      image_after = k;
      work_after = sym (run-work t r b o f x w h);
      accepted = zero-as e (run-number t r b o f x w);
      run_demand = run-demand t r b o f x w e g k;
    }

-- ---- past the verdict

facts : (t : Terms) (r : Rounds) (samples : List ℕ) (weights flow values work : List ℤ) → run_verdict t r samples weights flow values work ≡ Accept →
    RunAllowed t r samples weights flow values work
facts t r samples weights flow values work accepted = (run-accepted t r samples weights flow values work).0 accepted

pub of-scan-requires : goal.of-scan-requires
unfolding run_verdict
of-scan-requires c =
    let accepted = passes c.judge_run.ensures c.in_ok-judge_run.was in
    let a = facts c.args.t c.args.r c.args.samples.now c.args.weights.now c.args.flow.now c.args.image.now c.args.work.now accepted in
    omega (arith, a.terms.weight_most)

pub solve-end-requires : goal.solve-end-requires
unfolding run_verdict
solve-end-requires c =
    let accepted = passes c.judge_run.ensures c.in_ok-judge_run.was in
    let a = facts c.args.t c.args.r c.args.samples.now c.args.weights.now c.args.flow.now c.args.image.now c.args.work.now accepted in
    let e = c.of-scan.ensures in
    rw (e.terms, e.samples, e.weights)
    (record {
      limits = a.terms;
      pair_weights = a.pair_weights;
      lengths = record { samples_length = a.samples_length; flow_length = a.flow_length; image_length = a.image_length };
      quick_most = omega (arith, a.quick_most);
      work_length = a.work_length ∙ ap (λ (n : ℕ). 2 * n) (sym a.flow_length);
    })

pub returns : goal.returns
unfolding run_verdict
returns c =
    let t = c.args.t in
    let r = c.args.r in
    let b = c.args.samples.now in
    let o = c.args.weights.now in
    let f = c.args.flow.now in
    let x = c.args.image.now in
    let w = c.args.work.now in
    let yes = passes c.judge_run.ensures c.in_ok-judge_run.was in
    let a = facts t r b o f x w yes in
    let n = rw (c.of-scan.ensures.terms, c.of-scan.ensures.samples, c.of-scan.ensures.weights) at c.solve-end.ensures in
    let g = c.of_flow-figures.ensures in
    -- how the rounds end
    let end : Steady = ending t r b o in
    let answer =
    c.ending_of.ensures
    ∙ figured (cond c.solve-end.result.settled settled spent) c.solve-end.result.moved t b o c.solve-end.new.flow g.price_value g.floor_value g.slack_value
    ∙ ap₂ (λ (m : ℕ) (z : List ℤ). figures_of (cond c.solve-end.result.settled settled spent) m t b o z) n.moved_value n.flow_after
    ∙ ap (λ (z : Bool). figures_of (cond z settled spent) end.moved t b o end.flow) n.settled_value
    ∙ sym (run-answer t r b o f x w yes)
    in
    let flow = n.flow_after ∙ sym (run-flow t r b o f x w yes) in
    let image = n.image_after ∙ sym (run-image t r b o f x w yes) in
    let work = n.work_after ∙ ap (λ (i : ℕ). replicate i (pos 0)) a.work_length ∙ sym (run-work t r b o f x w yes) in
    record {
      result_value = answer;
      flow_after = flow;
      image_after = image;
      work_after = work;
      accepted = zero-as answer (run-number t r b o f x w);
      run_demand = run-demand t r b o f x w answer flow image;
    }

pub of_flow-figures-requires : goal.of_flow-figures-requires
unfolding run_verdict
of_flow-figures-requires c =
    let accepted = passes c.judge_run.ensures c.in_ok-judge_run.was in
    let a = facts c.args.t c.args.r c.args.samples.now c.args.weights.now c.args.flow.now c.args.image.now c.args.work.now accepted in
    let t = c.args.t in
    let b = c.args.samples.now in
    let o = c.args.weights.now in
    let g = ending-flow t c.args.r b o a.terms.box in
    let n = rw (c.of-scan.ensures.terms, c.of-scan.ensures.samples, c.of-scan.ensures.weights) at c.solve-end.ensures in
    let flow-is = n.flow_after in
    record {
      terms = a.terms;
      pair_weights = a.pair_weights;
      samples_length = a.samples_length;
      flow_length = ap length flow-is ∙ g.0;
      feasible = subst (λ (h : List ℤ). Feasible (grid t b o) (at h)) (sym flow-is) g.1;
      image = n.image_after ∙ ap (image_of t b) (sym flow-is);
    }
