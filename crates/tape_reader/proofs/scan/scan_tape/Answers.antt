use mathlib.Core.Path.{◌≡◌, sym, ap, ◌∙◌, subst}
use mathlib.Core.List.{List}
use Prim.Native.Nat.{ℕ, ◌<◌}
use native.Mathlib.Omega.{arith}
use denote.Bor.{Bor}
use Rattle.std.specs.Prelude.{Option, Some, None, Result, Ok}
use Rattle.model.specs.declared.Entry.{Entry}
use Rattle.model.specs.declared.Lent.{Lent}
use Rattle.model.specs.declared.Refusal.{Refusal}
use Rattle.model.specs.Verdict.{told}
use Rattle.tape_records.specs.declared.state.ParserState.{ParserState}
use Rattle.tape_records.specs.declared.parse.Cursor.{Cursor}
use Rattle.tape_records.specs.Record.{result_at}
use Rattle.tape_reader.specs.Transition.{transition_on, transition_at}
use Rattle.tape_reader.specs.Scan.{Reached}
use Rattle.tape_reader.proofs.Reached.{onward}
use Rattle.tape_reader.proofs.scan.scan_tape.Goals as goal

-- the transition that was made is that of the tape, whose bytes the reader holds
made : (tape : List ℕ) (o : ℕ) (t : ParserState) (lent : Lent) {held : List ℕ} {g : Result (Entry × Cursor) (ℕ × ℕ)}
    {x y : Result (Option (ParserState × Cursor)) Refusal} →
    held ≡ tape → g ≡ result_at lent.followed held o t → told x ≡ transition_on g o t lent → x ≡ y → told y ≡ transition_at tape o t lent
unfolding transition_at
made tape o t lent h e f k =
    sym (ap told k)
    ∙ f
    ∙ ap (λ (g : Result (Entry × Cursor) (ℕ × ℕ)). transition_on g o t lent) (e ∙ ap (λ (l : List ℕ). result_at lent.followed l o t) h)

pub returns-in-Err : goal.returns-in-Err
returns-in-Err c =
    let a = c.args in
    let l = c.records in
    (l.invariant.1, made a.tape.now l.reader.at l.state a.lent l.invariant.0 c.next-read.ensures c.on_result.ensures c.in-Err.is)

pub returns-in-Ok-None : goal.returns-in-Ok-None
returns-in-Ok-None c =
    let a = c.args in
    let l = c.records in
    let x : c.on_result.result ≡ Ok None = cc in
    (l.invariant.1, made a.tape.now l.reader.at l.state a.lent l.invariant.0 c.next-read.ensures c.on_result.ensures x)

-- where the reader is moved on to
moved-on : (c : goal.After-forward-reader) → let a = c.args in
    Reached a.tape.now a.lent c.in-Ok-Some.counted c.forward-reader.result.at × (c.records.reader.at < c.forward-reader.result.at)
moved-on c =
    let a = c.args in
    let l = c.records in
    let x : c.on_result.result ≡ Ok (Some (c.in-Ok-Some.counted, c.in-Ok-Some.cursor)) = cc in
    let e = onward a.tape.now a.lent l.invariant.1
    (made a.tape.now l.reader.at l.state a.lent l.invariant.0 c.next-read.ensures c.on_result.ensures x) in
    let at = sym c.forward-reader.ensures.1 in
    (subst (Reached a.tape.now a.lent c.in-Ok-Some.counted) at e.0, subst (λ (n : ℕ). l.reader.at < n) at e.1)

pub records-smaller : goal.records-smaller
records-smaller c = let m = moved-on c in omega (arith, m.0.inside, m.1)

pub records-preserved : goal.records-preserved
records-preserved c =
    (ap (λ (s : Bor (List ℕ)). s.now) c.forward-reader.ensures.0 ∙ c.records.invariant.0, (moved-on c).0)
