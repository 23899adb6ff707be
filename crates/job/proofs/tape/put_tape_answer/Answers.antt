use native.Mathlib.Omega.{arith}
use mathlib.Core.Path.{◌≡◌, sym, subst⁻¹}
use mathlib.Core.List.{List}
use Prim.Native.Nat.{ℕ, ◌+◌, ◌*◌, ◌≤◌}
use lib.IntN.{ℤ}
use lib.ListN.{length, get_or, take}
use lib.Seq.{length-take-le}
use mir.Syntax.{w8}
use mir.Val.{Fits}
use Rattle.model.specs.declared.Terms.{Terms}
use Rattle.std.specs.Prelude.{Result}
use Rattle.model.specs.declared.Job.{Job}
use Rattle.model.specs.declared.Refusal.{Refusal}
use Rattle.model.specs.Answers.{read_answer_of}
use Rattle.model.specs.Tape.{read_answer}
use Rattle.output.proofs.Puts.{put_as}
use Rattle.job.proofs.Tapes.{ReadFrom, size-read, tables-read, held-read}
use Rattle.job.proofs.Texts.{read-text, enough}
use Rattle.job.proofs.tape.put_tape_answer.Goals as goal

-- what was read of the tape
reads : {input samples : List ℕ} {weights flow : List ℤ} {r : Result Job Refusal} → ((i : ℕ) → Fits w8 (get_or input i 0)) →
    read_answer_of r ≡ read_answer input samples weights flow → ReadFrom input samples weights flow r
reads bytes e = record { byte = λ i. omega (arith, bytes i); answer = e }

pub answer_of-answer-requires : goal.answer_of-answer-requires
answer_of-answer-requires c =
    let kept = c.read-got.auto in
    tables-read c.read-got.result (reads c.type_inv.input c.read-got.ensures.result_value) c.requires.holds kept.samples
    kept.weights kept.flow

pub pixels_of-n-requires : goal.pixels_of-n-requires
pixels_of-n-requires c = size-read c.read-got.result (reads c.type_inv.input c.read-got.ensures.result_value)

-- the image table holds the job's image
pub slice_bounds-put_answer-end : goal.slice_bounds-put_answer-end
slice_bounds-put_answer-end c =
    omega (arith, held-read c.read-got.result (reads c.type_inv.input c.read-got.ensures.result_value), c.answer_of-answer.auto.image)

pub slice_bounds-put_answer-end-2 : goal.slice_bounds-put_answer-end-2
slice_bounds-put_answer-end-2 c =
    let held = held-read c.read-got.result (reads c.type_inv.input c.read-got.ensures.result_value) in
    sym (length-take-le _ _ (omega (arith, held, c.answer_of-answer.auto.image)))

pub put_answer-requires : goal.put_answer-requires
put_answer-requires c =
    let got = reads c.type_inv.input c.read-got.ensures.result_value in
    let held : c.pixels_of-n.result ≤ length c.answer_of-answer.new.image =
    omega (arith, held-read c.read-got.result got, c.answer_of-answer.auto.image)
    in
    subst⁻¹
    (λ (u : Terms).
    (u.height * u.width ≤ length (take c.pixels_of-n.result c.answer_of-answer.new.image))
    × (125 + u.height * (22 * u.width + 1) ≤ length c.args.output.now))
    c.terms_of.ensures (
      omega (arith, length-take-le c.pixels_of-n.result c.answer_of-answer.new.image held),
      enough c.read-got.result got c.requires.output_holds,
    )

pub returns : goal.returns
returns c =
    let answer = c.answer_of-answer.ensures in
    let e = c.read-got.ensures in
    put_as
    (read-text c.read-got.result (reads c.type_inv.input e.result_value) c.args.image.now c.args.work.now c.requires.holds
    e.samples_after e.weights_after e.flow_after c.terms_of.ensures c.pixels_of-n.ensures answer.result_value answer.image_after)
    c.put_answer.ensures
