use mathlib.Core.Path.{ap, sym, ◌∙◌}
use mathlib.Core.Bool.{not}
use Prim.Native.Nat.{ℕ}
use borrow.Author.Tests.{lt-leb}
use Rattle.model.specs.Tape.{known, record_rows}
use Rattle.model.proofs.Refusals.{refused, passed}
use Rattle.tape_records.specs.State.{may}
use Rattle.tape_records.specs.Record.{whole_at}
use Rattle.tape_records.proofs.RecordRows.{layout_unknown, layout_known, known-kind, result_by}
use Rattle.tape_records.proofs.parse.record_of.Goals as goal

pub returns-in_default : goal.returns-in_default
unfolding record_rows
returns-in_default c =
    let a = c.args in
    result_by a.followed a.tape.now a.at a.state
    (passed _ _ (lt-leb _ _ c.requires.0)
    ∙ refused _ _
    (ap (λ (k : ℕ). not (known k)) (sym c.requires.1)
    ∙ ap not (layout_unknown a.kind (may a.state a.kind) (sym c.layout_of.ensures ∙ c.in_default.is))))

pub whole_record-requires : goal.whole_record-requires
whole_record-requires c =
    let a = c.args in
    (c.requires.0, c.requires.1, (layout_known a.kind (may a.state a.kind) (sym c.layout_of.ensures ∙ c.in-Some.is)).1)

pub returns : goal.returns
returns c =
    let a = c.args in
    let f = layout_known a.kind (may a.state a.kind) (sym c.layout_of.ensures ∙ c.in-Some.is) in
    c.whole_record.ensures
    ∙ ap (whole_at a.followed a.tape.now a.at) (f.2 ∙ ap (may a.state) c.requires.1)
    ∙ result_by a.followed a.tape.now a.at a.state
    (known-kind _ _ _ _ c.requires.0 (ap known (sym c.requires.1) ∙ f.0))
