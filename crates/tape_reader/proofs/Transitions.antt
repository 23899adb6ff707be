-- The transition that the code makes on a record, by the verdict on it and by its kind: the turn of reading that the
-- definition makes. Assumes nothing.
use mathlib.Core.Path.{◌≡◌, refl, ap, ◌∙◌}
use mathlib.Core.Bool.{Bool, true, false, cond}
use mathlib.Core.List.{List, [], ◌∷◌}
use Prim.Native.Nat.{ℕ, ◌+◌}
use lib.Dec.{eqb}
use lib.IntN.{pos}
use lib.ListN.{get_or, length-append}
use Rattle.model.specs.declared.Entry.{Entry}
use Rattle.model.specs.declared.Entry.TheVariants.{End, Size, WeightBox, RoundLimits, Sample, Flow, PairWeight}
use Rattle.model.specs.declared.Lent.{Lent}
use Rattle.std.specs.Prelude.{Some, None, Ok}
use Rattle.model.specs.Verdict.{Verdict, decided, refused}
use Rattle.model.specs.Tape.{kinds, known, decoded, Progress, allowed, absorbed}
use Rattle.tape_records.specs.declared.state.ParserState.{ParserState}
use Rattle.tape_records.specs.declared.parse.Cursor.{Cursor}
use Rattle.tape_records.specs.State.{state_of}
use Rattle.tape_records.specs.Record.{record_at, result_at}
use Rattle.tape_reader.specs.Transition.{Transition, advanced, continued, with_next, transition_on, transition_at}
use Rattle.roundtrip.proofs.EachKind.{each_kind}
use Rattle.roundtrip.proofs.Turns.{entry_at, next_at, terms_verdict, record_verdict, verdict, passed_record}

-- the counts of what has been read once this record has been, too
pub advanced-absorbed : (p : Progress) (e : Entry) → advanced (state_of p) e ≡ state_of (absorbed p e)
advanced-absorbed p End = refl
advanced-absorbed p (Size w h) = refl
advanced-absorbed p (WeightBox weight low high) = refl
advanced-absorbed p (RoundLimits q a) = refl
advanced-absorbed p (Sample s) = rw (length-append p.samples (s ∷ []))
advanced-absorbed p (Flow f) = rw (length-append p.flow (f ∷ []))
advanced-absorbed p (PairWeight w) = rw (length-append p.weights (pos w ∷ []))

-- only the end ends
continued-kind : (t : ParserState) (kind : ℕ) (b : ℕ → ℕ) → known kind ≡ true →
    continued t (decoded kind b) ≡ Ok (cond (eqb kind 0) None (Some (advanced t (decoded kind b))))
unfolding kinds
continued-kind t kind b h =
    each_kind (λ n. continued t (decoded n b) ≡ Ok (cond (eqb n 0) None (Some (advanced t (decoded n b))))) refl refl refl refl refl refl refl kind h

module _ (tape : List ℕ) (lent : Lent) (o : ℕ) (p : Progress) where
  abbrev behind : Cursor
  behind = record { at = next_at tape o }

  -- by the verdict, and by whether the record is the end
  abbrev pub transition_by : Verdict → Bool → Transition
  transition_by (Verdict.Refuse number place) end = refused number place
  transition_by Verdict.Accept true = Ok None
  transition_by Verdict.Accept false = Ok (Some (state_of (absorbed p (entry_at tape o)), behind))

  ends : (end : Bool) →
      with_next behind (Ok (cond end None (Some (advanced (state_of p) (entry_at tape o))))) ≡ transition_by Verdict.Accept end
  ends true = refl
  ends false = ap (λ (t : ParserState). Ok (Some (t, behind))) (advanced-absorbed p (entry_at tape o))

  judged : (v : Verdict) → known (get_or tape o 0) ≡ true →
      with_next behind (decided v (continued (state_of p) (entry_at tape o)) refused) ≡ transition_by v (eqb (get_or tape o 0) 0)
  judged (Verdict.Refuse number place) h = refl
  judged Verdict.Accept h =
      ap (with_next behind) (continued-kind (state_of p) (get_or tape o 0) (λ i. get_or tape (o + 1 + i) 0) h)
      ∙ ends (eqb (get_or tape o 0) 0)

  read_one : (v : Verdict) → record_verdict tape lent o p ≡ v →
      transition_on (decided v (Ok (record_at tape o)) refused) o (state_of p) lent
      ≡ transition_by (decided v (terms_verdict tape lent o) Verdict.Refuse) (eqb (get_or tape o 0) 0)
  read_one (Verdict.Refuse number place) e = refl
  read_one Verdict.Accept e =
      judged (terms_verdict tape lent o) (passed_record lent.followed tape o (allowed p) e).is_known

  pub transition_is : transition_at tape o (state_of p) lent ≡ transition_by (verdict tape lent o p) (eqb (get_or tape o 0) 0)
  unfolding transition_at result_at
  transition_is = read_one (record_verdict tape lent o p) refl
