use mathlib.Core.Path.{sym, ap, ◌∙◌}
use Prim.Native.Nat.{ℕ}
use Rattle.std.specs.Prelude.{Result, Ok}
use Rattle.model.specs.declared.Ending.{Ending}
use Rattle.model.specs.declared.Refusal.{Refusal}
use Rattle.model.specs.Calls.{refusal}
use Rattle.model.specs.Text.{ascii}
use Rattle.model.specs.Program.{refusal_text, answer_text}
use Rattle.model.specs.Answers.{answer_of}
use Rattle.output.proofs.Puts.{put_as}
use Rattle.text.proofs.Answers.{accepted-text, was_checked, has_settled, was_spent}
use Rattle.text.proofs.answer.put_answer.Goals as goal

pub returns-in-Err : goal.returns-in-Err
unfolding answer_text
returns-in-Err c =
    put_as
    (ap (λ (n : ℕ). refusal_text (refusal n c.in-Err.refusal.place)) c.number.ensures
    ∙ ap (λ (a : Result Ending Refusal). answer_text (answer_of a) c.args.t c.args.image.now) (sym c.in-Err.is))
    c.put_refusal.ensures

pub returns-in-Ok-Checked : goal.returns-in-Ok-Checked
unfolding ascii
returns-in-Ok-Checked c =
    let k = c.in-Ok-Checked in
    let ends = rw k.is at k.field-0-is in
    put_as
    (accepted-text c.args.t c.args.image.now 0 k.figures was_checked
    ∙ ap (λ (a : Result Ending Refusal). answer_text (answer_of a) c.args.t c.args.image.now) (sym (k.is ∙ ap Ok ends)))
    c.put_accepted.ensures

pub returns-in-Ok-Settled : goal.returns-in-Ok-Settled
unfolding ascii
returns-in-Ok-Settled c =
    let k = c.in-Ok-Settled in
    let ends = rw k.is at k.field-0-is in
    put_as
    (accepted-text c.args.t c.args.image.now k.moved k.figures has_settled
    ∙ ap (λ (a : Result Ending Refusal). answer_text (answer_of a) c.args.t c.args.image.now) (sym (k.is ∙ ap Ok ends)))
    c.put_accepted-in-Ok-Settled.ensures

pub returns-in-Ok-Spent : goal.returns-in-Ok-Spent
unfolding ascii
returns-in-Ok-Spent c =
    let k = c.in-Ok-Spent in
    let ends = rw k.is at k.field-0-is in
    put_as
    (accepted-text c.args.t c.args.image.now k.moved k.figures was_spent
    ∙ ap (λ (a : Result Ending Refusal). answer_text (answer_of a) c.args.t c.args.image.now) (sym (k.is ∙ ap Ok ends)))
    c.put_accepted-in-Ok-Spent.ensures
