-- The rows of a record, as the code goes down them. Assumes nothing.
use mathlib.Core.Path.{◌≡◌, refl, sym, ap, ◌∙◌}
use mathlib.Core.Bool.{Bool, true, false, not, cond}
use mathlib.Core.List.{List}
use Prim.Native.Nat.{ℕ, ◌+◌, ◌≤◌, ◌<◌}
use lib.ListN.{length, get_or}
use borrow.Author.Tests.{ltb-false, lt-leb}
use Rattle.std.specs.Prelude.{Option, Some, None, Ok}
use Rattle.model.specs.Verdict.{Verdict, first_refusal, decided, refused}
use Rattle.model.specs.Tape.{known, body_length, body_rows, record_rows}
use Rattle.model.proofs.Refusals.{passed, accepted-row}
use Rattle.tape_records.specs.declared.parse.Layout.{Layout}
use Rattle.tape_records.specs.declared.state.ParserState.{ParserState}
use Rattle.tape_records.specs.State.{may as may_come}
use Rattle.tape_records.specs.Record.{layout_of, record_at, result_at}

-- what a form says of its kind
pub layout_unknown : (kind : ℕ) (ok : Bool) → layout_of kind ok ≡ None → known kind ≡ false
layout_unknown kind ok h = go (known kind) h
  where
    go : (k : Bool) → cond {A = Option Layout} k (Some (record { body = body_length kind; allowed = ok })) None ≡ None → k ≡ false
    go true e = cc
    go false e = refl

pub layout_known : (kind : ℕ) (ok : Bool) {l : Layout} → layout_of kind ok ≡ Some l →
    (known kind ≡ true) × (l.body ≡ body_length kind) × (l.allowed ≡ ok)
layout_known kind ok {l} h = go (known kind) h
  where
    go : (k : Bool) → cond {A = Option Layout} k (Some (record { body = body_length kind; allowed = ok })) None ≡ Some l →
        (k ≡ true) × (l.body ≡ body_length kind) × (l.allowed ≡ ok)
    go true e = (refl, cc, cc)
    go false e = (cc, cc, cc)

module _ (followed : Bool) (tape : List ℕ) (o : ℕ) (may : ℕ → Bool) where
  -- the record is there, and its kind is known: the rows of a known kind decide
  pub known-kind : o < length tape → known (get_or tape o 0) ≡ true →
      first_refusal (record_rows followed tape o may)
      ≡ first_refusal (body_rows followed (length tape) o (get_or tape o 0) (may (get_or tape o 0)))
  unfolding record_rows
  known-kind h k = passed _ _ (lt-leb (length tape) o h) ∙ passed _ _ (ap not k)

-- where the rows of a known kind accept, the body is whole
pub body_fits : (followed : Bool) (len at kind : ℕ) (allowed : Bool) → first_refusal (body_rows followed len at kind allowed) ≡ Verdict.Accept →
    at + 1 + body_length kind ≤ len
body_fits followed len at kind allowed e =
    ltb-false len (at + 1 + body_length kind) (accepted-row _ _ (accepted-row _ _ e).1).0

-- what the verdict of the rows gives
pub result_by : (followed : Bool) (tape : List ℕ) (o : ℕ) (t : ParserState) {v : Verdict} →
    first_refusal (record_rows followed tape o (may_come t)) ≡ v → decided v (Ok (record_at tape o)) refused ≡ result_at followed tape o t
unfolding result_at
result_by followed tape o t e = ap (λ (v : Verdict). decided v (Ok (record_at tape o)) refused) (sym e)
