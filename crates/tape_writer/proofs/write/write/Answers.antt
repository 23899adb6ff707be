-- The verdict is that of write's rows, for the tape's length as it is counted.
use mathlib.Core.Path.{◌≡◌, sym, ap, ◌∙◌}
use Prim.Native.Nat.{ℕ}
use native.Mathlib.Omega.{arith}
use lib.ListN.{length}
use Rattle.std.specs.Prelude.{Err}
use Rattle.model.specs.Verdict.{Accept, verdict_of, first_refusal}
use Rattle.model.specs.Tape.{write_rows}
use Rattle.model.proofs.Accepted.{write_accepted}
use Rattle.model.proofs.Refusals.{passes}
use Rattle.roundtrip.proofs.Offsets.{tape_length}
use Rattle.roundtrip.proofs.WriteRows.{written_answer, written-output}
use Rattle.tape_writer.proofs.Promised.{promised}
use Rattle.tape_writer.proofs.write.write.Goals as goal

pub returns-in-Err : goal.returns-in-Err
returns-in-Err c =
    let a = c.args in
    let v : first_refusal (write_rows a.t a.r a.samples.now a.weights.now a.flow.now (length a.output.now)) ≡ verdict_of {A = ℕ} (Err c.in-Err.refusal) =
    rw (tape_length a.t a.r a.samples.now a.weights.now a.flow.now) (passes c.judge_write.ensures c.in-Err.is) in
    let p = promised a.t a.r a.samples.now a.weights.now a.flow.now a.output.now (omega (arith, c.well_formed))
    (sym (written_answer a.t a.r a.samples.now a.weights.now a.flow.now a.output.now v))
    (sym (written-output a.t a.r a.samples.now a.weights.now a.flow.now a.output.now v)) in
    record { result_value = p.0; output_after = p.1.0; accepted = p.1.1.0; reads_back = p.1.1.1 }

pub put_tape-requires : goal.put_tape-requires
put_tape-requires c =
    let a = c.args in
    let v : first_refusal (write_rows a.t a.r a.samples.now a.weights.now a.flow.now (length a.output.now)) ≡ Accept =
    rw (tape_length a.t a.r a.samples.now a.weights.now a.flow.now) (passes c.judge_write.ensures c.in-Ok.is) in
    ((write_accepted _ _ _ _ _ a.output.now).0 v).output_length

pub returns-in-Ok : goal.returns-in-Ok
returns-in-Ok c =
    let a = c.args in
    let v : first_refusal (write_rows a.t a.r a.samples.now a.weights.now a.flow.now (length a.output.now)) ≡ Accept =
    rw (tape_length a.t a.r a.samples.now a.weights.now a.flow.now) (passes c.judge_write.ensures c.in-Ok.is) in
    let p = promised a.t a.r a.samples.now a.weights.now a.flow.now a.output.now (omega (arith, c.well_formed))
    (ap (λ (n : ℕ). record { number = 0; place = 0; count = n }) c.put_tape.ensures.value
    ∙ sym (written_answer a.t a.r a.samples.now a.weights.now a.flow.now a.output.now v))
    (c.put_tape.ensures.output_after ∙ sym (written-output a.t a.r a.samples.now a.weights.now a.flow.now a.output.now v)) in
    record { result_value = p.0; output_after = p.1.0; accepted = p.1.1.0; reads_back = p.1.1.1 }
