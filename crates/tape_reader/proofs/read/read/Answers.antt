use mathlib.Core.Path.{◌≡◌, refl, sym, ap, ◌∙◌, subst, subst⁻¹}
use borrow.Author.Rules.{rules}
use lib.IntN.{ℤ}
use Rattle.std.specs.Prelude.{Result, Ok, Err}
use Rattle.model.specs.Verdict.{number_of, refused}
use Rattle.model.specs.Answers.{read_answer_of}
use mathlib.Core.List.{List}
use Prim.Native.Nat.{ℕ}
use native.Mathlib.Omega.{arith}
use Rattle.model.specs.declared.Lent.{Lent}
use Rattle.model.specs.Tape.{lent_by, nothing, parse, turned}
use Rattle.tape_records.specs.State.{state_of}
use Rattle.tape_records.specs.declared.state.ParserState.{ParserState}
use Rattle.tape_reader.specs.declared.scan.Stopped.{Stopped}
use Rattle.tape_reader.specs.Scan.{Reached, StopsAt}
use Rattle.tape_reader.proofs.Promised.{promised}
use Rattle.tape_reader.proofs.Reached.{start, whole-tape, refused as scan-refused}
use Rattle.roundtrip.proofs.Judged.{refused-parse, answer-by, samples-by, weights-by, flow-by}
use Rattle.tape_reader.proofs.read.read.Goals as goal

-- where nothing has been read, the first record is reached, whatever is lent
begun : {tape : List ℕ} {lent : Lent} {t : ParserState} → t ≡ state_of nothing → Reached tape lent t 0
begun {tape} {lent} e = subst⁻¹ (λ (t : ParserState). Reached tape lent t 0) e (start tape lent)

pub scan_tape-requires : goal.scan_tape-requires
scan_tape-requires c = begun c.initial.ensures

-- the number and the place of the refusal at which a scan stopped
abbrev told_by : Result (ParserState × ℕ) Stopped → Result (ParserState × ℕ) (ℕ × ℕ)
told_by (Ok counted) = Ok counted
told_by (Err s) = refused (number_of s.refusal.reason) s.refusal.place

-- they are the parse's
parse-told : (tape samples : List ℕ) (weights flow : List ℤ) (r : Result (ParserState × ℕ) Stopped) → StopsAt tape (lent_by samples weights flow) r →
    {n q : ℕ} → told_by r ≡ refused n q → parse tape (lent_by samples weights flow) ≡ turned n q
parse-told tape samples weights flow (Ok counted) s e = absurd (cc)
parse-told tape samples weights flow (Err stopped) s {n} {q} e =
    let same : ◌≡◌ {A = ℕ × ℕ} (number_of stopped.refusal.reason, stopped.refusal.place) (n, q) = cc in
    refused-parse tape samples weights flow (scan-refused _ _ s.0 s.1) ∙ ap (λ (x : ℕ × ℕ). turned x.0 x.1) same

pub returns-in_err-state : goal.returns-in_err-state
returns-in_err-state c =
    let a = c.args in
    let refusal = c.in_err-state.field-0.0.refusal in
    let told : told_by c.scan_tape.result ≡ refused (number_of refusal.reason) refusal.place = search rules in
    let failed : c.from_residual.result ≡ Err refusal = search rules in
    let r = parse-told a.tape.now a.samples.now a.weights.now a.flow.now _ c.scan_tape.ensures told in
    let p = promised a.tape.now a.samples.now a.weights.now a.flow.now (λ i. omega (arith, c.type_inv.tape i))
    (ap read_answer_of failed ∙ sym (answer-by a.tape.now a.samples.now a.weights.now a.flow.now r))
    (sym (samples-by a.tape.now a.samples.now a.weights.now a.flow.now r))
    (sym (weights-by a.tape.now a.samples.now a.weights.now a.flow.now r))
    (sym (flow-by a.tape.now a.samples.now a.weights.now a.flow.now r)) in
    record {
      result_value = p.0;
      samples_after = p.1.0;
      weights_after = p.1.1.0;
      flow_after = p.1.1.1.0;
      accepted = p.1.1.1.1.0;
      writes_back = p.1.1.1.1.1;
    }

pub returns : goal.returns
returns c =
    let a = c.args in
    let e = c.read_numbers.ensures in
    let p = promised a.tape.now a.samples.now a.weights.now a.flow.now (λ i. omega (arith, c.type_inv.tape i))
    e.result_value e.samples_after e.weights_after e.flow_after in
    record {
      result_value = p.0;
      samples_after = p.1.0;
      weights_after = p.1.1.0;
      flow_after = p.1.1.1.0;
      accepted = p.1.1.1.1.0;
      writes_back = p.1.1.1.1.1;
    }

pub read_numbers-requires : goal.read_numbers-requires
read_numbers-requires c =
    let a = c.args in
    let was : c.scan_tape.result ≡ Ok (c.in_ok-state.state, c.in_ok-state.field-0-1) = search rules in
    let s = subst (StopsAt a.tape.now (lent_by a.samples.now a.weights.now a.flow.now)) was c.scan_tape.ensures in
    whole-tape _ _ s.0 refl s.1
