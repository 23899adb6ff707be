use mathlib.Core.Path.{ap, ◌∙◌}
use Prim.Native.Nat.{ℕ}
use Rattle.model.specs.Calls.{refusal}
use Rattle.model.specs.Program.{refusal_text}
use Rattle.output.proofs.Puts.{put_as, put_front}
use Rattle.relief.proofs.Limits.{too_long, not-too_long}
use Rattle.relief.proofs.clean.clean.Goals as goal

pub returns-then-input-gt65536 : goal.returns-then-input-gt65536
returns-then-input-gt65536 c =
    let f = put_front (put_as (ap (λ (n : ℕ). refusal_text (refusal n 0)) c.number.ensures ∙ too_long c.args.input.now c.if-input-gt65536.true) c.put_refusal.ensures) in
    record { value = f.counted; output_after = f.filled; prefix_len = (f.within, f.first) }

pub returns : goal.returns
returns c =
    let f = put_front (put_as (not-too_long c.args.input.now c.if-input-gt65536.false) c.put_tape_answer.ensures) in
    record { value = f.counted; output_after = f.filled; prefix_len = (f.within, f.first) }
