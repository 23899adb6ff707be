use mathlib.Core.Path.{◌≡◌, sym, ap, ◌∙◌}
use lib.IntN.{ℤ, pos}
use Rattle.model.specs.Calls.{figures, checked}
use Rattle.model.proofs.Answers.{price-answer}
use Rattle.model.proofs.Accepted.{zero-as, price-inside, price-accepted, price-number}
use Rattle.validation.proofs.UnderTerms.{price-verdict}
use borrow.Author.Rules.{rules}
use Rattle.std.specs.Prelude.{Err}
use Rattle.model.specs.Verdict.{verdict_of}
use Rattle.model.specs.Answers.{answer_of}
use Rattle.calls.proofs.price.price.Goals as goal

pub returns-in_err-judge_price : goal.returns-in_err-judge_price
returns-in_err-judge_price c =
    let a = c.args in
    let judged =
    c.judge_price.ensures
    ∙ price-verdict a.t a.samples.now a.weights.now a.image.now
    (record { low_is = search rules ∙ c.of-ends.ensures.low_is; high_is = search rules ∙ c.of-ends.ensures.high_is })
    in
    let failed : c.from_residual.result ≡ Err c.in_err-judge_price.field-0.0 = search rules in
    let e = ap answer_of failed ∙ sym (price-answer a.t a.samples.now a.weights.now a.image.now (sym judged ∙ ap verdict_of c.in_err-judge_price.was)) in
    record { result_value = e; accepted = zero-as e (price-number a.t a.samples.now a.weights.now a.image.now) }

pub image_price-price-requires : goal.image_price-price-requires
image_price-price-requires c =
    let a = c.args in
    let judged =
    c.judge_price.ensures
    ∙ price-verdict a.t a.samples.now a.weights.now a.image.now
    (record { low_is = search rules ∙ c.of-ends.ensures.low_is; high_is = search rules ∙ c.of-ends.ensures.high_is })
    in
    let p = (price-accepted a.t a.samples.now a.weights.now a.image.now).0 (sym judged ∙ ap verdict_of c.in_ok-judge_price.was) in
    record {
      terms = p.terms;
      pair_weights = p.pair_weights;
      samples_length = p.samples_length;
      image_length = p.image_length;
      inside = price-inside a.t a.samples.now a.weights.now a.image.now p;
    }

pub returns : goal.returns
returns c =
    let a = c.args in
    let judged =
    c.judge_price.ensures
    ∙ price-verdict a.t a.samples.now a.weights.now a.image.now
    (record { low_is = search rules ∙ c.of-ends.ensures.low_is; high_is = search rules ∙ c.of-ends.ensures.high_is })
    in
    let e =
    ap (λ (z : ℤ). figures checked 0 z (pos 0) (pos 0)) c.image_price-price.ensures
    ∙ sym (price-answer a.t a.samples.now a.weights.now a.image.now (sym judged ∙ ap verdict_of c.in_ok-judge_price.was))
    in
    record { result_value = e; accepted = zero-as e (price-number a.t a.samples.now a.weights.now a.image.now) }
