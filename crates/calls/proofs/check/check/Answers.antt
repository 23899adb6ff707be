use mathlib.Core.Path.{◌≡◌, sym, ap, ◌∙◌}
use Rattle.lists.specs.Lists.{at}
use Rattle.model.specs.Problem.{Feasible}
use Rattle.model.specs.Grid.{grid}
use Rattle.model.specs.Calls.{checked, check_verdict}
use Rattle.model.specs.Accepted.{CheckAllowed}
use Rattle.model.proofs.Answers.{check_answer_lem, check_image_lem}
use Rattle.model.proofs.Accepted.{zero-as, check_feasible, check_accepted, check_number}
use Rattle.layout.proofs.Pairs.{grid-count}
use Rattle.certificate.proofs.Grid.{check_demand}
use Rattle.image.proofs.Model.{image-is}
use Rattle.calls.proofs.Jobs.{flow_most}
use Rattle.calls.proofs.Objectives.{figured}
use Rattle.model.specs.declared.Terms.{Terms}
use lib.IntN.{ℤ}
use Prim.Native.Nat.{ℕ}
use mathlib.Core.List.{List}
use borrow.Author.Rules.{rules}
use Rattle.std.specs.Prelude.{Err}
use Rattle.model.specs.Verdict.{Accept}
use Rattle.model.specs.Answers.{answer_of}
use Rattle.model.proofs.Refusals.{passes}
use Rattle.calls.proofs.check.check.Goals as goal

pub returns-in_err-judge_check : goal.returns-in_err-judge_check
unfolding check_verdict
returns-in_err-judge_check c =
    let a = c.args in
    let h = passes c.judge_check.ensures c.in_err-judge_check.was in
    let failed : c.from_residual.result ≡ Err c.in_err-judge_check.field-0.0 = search rules in
    let e = ap answer_of failed ∙ sym (check_answer_lem a.t a.samples.now a.weights.now a.flow.now a.image.now h) in
    let g = sym (check_image_lem a.t a.samples.now a.weights.now a.flow.now a.image.now h) in
    record {
      result_value = e;
      image_after = g;
      accepted = zero-as e (check_number a.t a.samples.now a.weights.now a.flow.now a.image.now);
      check_demand = check_demand a.t a.samples.now a.weights.now a.flow.now a.image.now e g;
    }

-- ---- past the verdict

module _ (t : Terms) (samples : List ℕ) (weights flow values : List ℤ) (accepted : check_verdict t samples weights flow values ≡ Accept) where
  facts : CheckAllowed t samples weights flow values
  facts = (check_accepted t samples weights flow values).0 accepted

  feasible : Feasible (grid t samples weights) (at flow)
  feasible = check_feasible t samples weights flow values facts

pub fill_image-requires : goal.fill_image-requires
unfolding check_verdict
fill_image-requires c =
    let t = c.args.t in
    let accepted = passes c.judge_check.ensures c.in_ok-judge_check.was in
    let a = facts t c.args.samples.now c.args.weights.now c.args.flow.now c.args.image.now accepted in
    rw c.of-s.ensures.value
    (record {
      width_least = a.terms.width_least;
      height_least = a.terms.height_least;
      image_count = a.image_length;
      sample_count = a.samples_length;
      flow_count = a.flow_length ∙ grid-count t.width t.height;
      flow_most = flow_most t c.args.samples.now c.args.weights.now c.args.flow.now a.flow_length a.pair_weights a.terms.weight_most (feasible t c.args.samples.now c.args.weights.now c.args.flow.now c.args.image.now accepted);
    })

pub returns : goal.returns
unfolding check_verdict
returns c =
    let a = c.args in
    let t = a.t in
    let accepted = passes c.judge_check.ensures c.in_ok-judge_check.was in
    let k =
    figured checked 0 t a.samples.now a.weights.now a.flow.now c.of_flow-figures.ensures.price_value c.of_flow-figures.ensures.floor_value c.of_flow-figures.ensures.slack_value
    ∙ sym (check_answer_lem t a.samples.now a.weights.now a.flow.now a.image.now accepted)
    in
    let g =
    rw c.of-s.ensures.value at c.fill_image.ensures
    ∙ image-is t a.samples.now a.flow.now
    (record { low_is = search rules ∙ c.of-ends.ensures.low_is; high_is = search rules ∙ c.of-ends.ensures.high_is })
    ∙ sym (check_image_lem t a.samples.now a.weights.now a.flow.now a.image.now accepted)
    in
    record {
      result_value = k;
      image_after = g;
      accepted = zero-as k (check_number t a.samples.now a.weights.now a.flow.now a.image.now);
      check_demand = check_demand t a.samples.now a.weights.now a.flow.now a.image.now k g;
    }

pub of_flow-figures-requires : goal.of_flow-figures-requires
unfolding check_verdict
of_flow-figures-requires c =
    let t = c.args.t in
    let accepted = passes c.judge_check.ensures c.in_ok-judge_check.was in
    let a = facts t c.args.samples.now c.args.weights.now c.args.flow.now c.args.image.now accepted in
    record {
      terms = a.terms;
      pair_weights = a.pair_weights;
      samples_length = a.samples_length;
      flow_length = a.flow_length;
      feasible = feasible t c.args.samples.now c.args.weights.now c.args.flow.now c.args.image.now accepted;
      image =
          rw c.of-s.ensures.value at c.fill_image.ensures
          ∙ image-is t c.args.samples.now c.args.flow.now
          (record { low_is = search rules ∙ c.of-ends.ensures.low_is; high_is = search rules ∙ c.of-ends.ensures.high_is });
    }
