-- One record at an offset.
use Rattle.std.specs.Prelude.{Bool, cond, List, ℕ, ◌+◌, length, get_or, Option, Some, None, Result, Ok}
use Rattle.model.specs.declared.Entry.{Entry}
use Rattle.model.specs.Verdict.{first_refusal, decided, refused, number_of}
use Rattle.model.specs.Tape.{known, body_length, decoded, body_rows, record_rows}
use Rattle.tape_records.specs.declared.state.ParserState.{ParserState}
use Rattle.tape_records.specs.declared.parse.Layout.{Layout}
use Rattle.tape_records.specs.declared.parse.Cursor.{Cursor}
use Rattle.tape_records.specs.declared.parse.RecordResult.{RecordResult}
use Rattle.tape_records.specs.State.{may}

-- what reading a record gives, with number and place in place of the refusal
abbrev pub told_of : RecordResult → Result (Entry × Cursor) (ℕ × ℕ)
told_of (RecordResult.Record e next) = Ok (e, next)
told_of (RecordResult.Refused r) = refused (number_of r.reason) r.place

-- what a kind gives: the length of its body, and whether it is allowed
abbrev pub layout_of : ℕ → Bool → Option Layout
layout_of kind ok = cond (known kind) (Some (record { body = body_length kind; allowed = ok })) None

-- the record at offset o with the offset of the next
abbrev pub record_at : List ℕ → ℕ → Entry × Cursor
record_at tape o =
    (decoded (get_or tape o 0) (λ i. get_or tape (o + 1 + i) 0), record { at = o + 1 + body_length (get_or tape o 0) })

-- that record where its kind is known, or the refusal of the first row that applies
abbrev pub whole_at : Bool → List ℕ → ℕ → Bool → Result (Entry × Cursor) (ℕ × ℕ)
whole_at followed tape o ok =
    decided (first_refusal (body_rows followed (length tape) o (get_or tape o 0) ok)) (Ok (record_at tape o)) refused

-- the same of any kind, and where the input ends
unfoldable pub result_at : Bool → List ℕ → ℕ → ParserState → Result (Entry × Cursor) (ℕ × ℕ)
result_at followed tape o t = decided (first_refusal (record_rows followed tape o (may t))) (Ok (record_at tape o)) refused
