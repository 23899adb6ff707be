-- What a scan keeps from record to record, and what it says of the tape where it stops: of every tape that begins alike.
-- Assumes nothing.
use mathlib.Core.Path.{◌≡◌, refl, sym, ap, ap₂, ◌∙◌, subst}
use mathlib.Core.Bool.{Bool, true, false}
use mathlib.Core.List.{List, ◌++◌}
use Prim.Native.Nat.{ℕ, suc, ◌+◌, ◌≤◌, ◌<◌, zero-le}
use native.Mathlib.Omega.{arith}
use lib.Dec.{eqb}
use lib.ListN.{length, get_or, take, length-append}
use lib.Seq.{take-take, take-append-le}
use Rattle.model.specs.declared.Entry.{Entry}
use Rattle.model.specs.declared.Entry.TheVariants.{End, Size, WeightBox, RoundLimits, Sample, Flow, PairWeight}
use Rattle.std.specs.Prelude.{Some, None, Result, Ok}
use Rattle.model.specs.Verdict.{Verdict, first_refusal, refused as turned_back}
use Rattle.model.specs.declared.Lent.{Lent}
use Rattle.model.specs.Tape.{kinds, Progress, nothing, allowed, absorbed, body_length, decoded, entry_rows, Parse, turned, whole, parse_from, too_short}
use Rattle.model.proofs.Refusals.{accepted}
use Rattle.tape_records.specs.declared.state.ParserState.{ParserState}
use Rattle.tape_records.specs.declared.parse.Cursor.{Cursor}
use Rattle.tape_records.specs.State.{state_of}
use Rattle.tape_records.specs.Record.{result_at}
use Rattle.tape_reader.specs.Transition.{Transition, numbers_read, advanced, transition_on, transition_at}
use Rattle.tape_reader.specs.Scan.{records_of, WholeRecords, lent_for, Reached}
use Rattle.roundtrip.proofs.Turns.{entry_at, next_at, terms_verdict, verdict, Passed, Turn, turn, unrolled_on, unrolled_end, enough}
use Rattle.tape_reader.proofs.Transitions.{advanced-absorbed, transition_by, transition_is}
use Rattle.roundtrip.proofs.Walk.{record-passes}
use Rattle.tape_reader.proofs.Prefix.{kind_alike, next_alike, entry-alike, passed_alike, verdict_alike, result_alike}

-- a record adds one number at most
advanced-count : (t : ParserState) (e : Entry) → numbers_read (advanced t e) ≤ numbers_read t + 1
advanced-count t End = omega arith
advanced-count t (Size w h) = omega arith
advanced-count t (WeightBox weight low high) = omega arith
advanced-count t (RoundLimits q a) = omega arith
advanced-count t (Sample s) = omega arith
advanced-count t (Flow f) = omega arith
advanced-count t (PairWeight w) = omega arith

-- nothing has been read yet
pub start : (tape : List ℕ) (lent : Lent) → Reached tape lent (state_of nothing) 0
start tape lent =
    record {
      progress = nothing;
      counted = refl;
      inside = zero-le;
      counts = zero-le;
      goes_on = λ other _ _ f k l. enough other (lent_for lent f) (suc (length other)) k 0 nothing zero-le (omega arith) l;
    }

-- the bytes that have been read stand at the front of another tape, too
pub moved : {tape : List ℕ} {lent : Lent} {t : ParserState} {o : ℕ} → Reached tape lent t o → (other : List ℕ) → o ≤ length other → take o other ≡ take o tape → Reached other lent t o
moved r other l same =
    record {
      progress = r.progress;
      counted = r.counted;
      inside = l;
      counts = r.counts;
      goes_on = λ another long alike f k h. r.goes_on another long (alike ∙ same) f k h;
    }

module _ (tape : List ℕ) (lent : Lent) {t : ParserState} {o : ℕ} (r : Reached tape lent t o) where
  abbrev p : Progress
  p = r.progress

  -- the transition, by the verdict on the record and by whether it is the end
  by-verdict : {x : Transition} → x ≡ transition_at tape o t lent → transition_by tape lent o p (verdict tape lent o p) (eqb (get_or tape o 0) 0) ≡ x
  by-verdict e =
      sym (transition_is tape lent o p) ∙ ap (λ (u : ParserState). transition_at tape o u lent) (sym r.counted) ∙ sym e

  -- a record that is read on this tape is read on every other that has its bytes
  module _ (h : Passed lent.followed tape o (allowed p)) (v : terms_verdict tape lent o ≡ Verdict.Accept)
      (other : List ℕ) (l : next_at tape o ≤ length other) (same : take (next_at tape o) other ≡ take (next_at tape o) tape) (f : Bool) where
    before : take o other ≡ take o tape
    before =
        sym (take-take o (next_at tape o) other (omega arith))
        ∙ ap (take o) same
        ∙ take-take o (next_at tape o) tape (omega arith)

    judged : terms_verdict other (lent_for lent f) o ≡ Verdict.Accept
    judged = verdict_alike tape other o same h.is_known lent f ∙ v

    rows : (f ≡ false → get_or tape o 0 ≡ 0 → length other ≤ o + 1) → Passed f other o (allowed p)
    rows last = passed_alike tape other o same h l last

    reads_on : ¬ (get_or tape o 0 ≡ 0) → (k : ℕ) → length other < next_at tape o + k →
        records_of other (lent_for lent f) ≡ parse_from k other (lent_for lent f) (next_at tape o) (absorbed p (entry_at tape o))
    reads_on z k more =
        let n : ℕ = length other in
        r.goes_on other (omega arith) before f (suc n) (omega arith)
        ∙ unrolled_on other (lent_for lent f) n o p (record-passes f other o (allowed p) (rows (λ _ y. absurd (z y)))) judged
        (λ y. z (sym (kind_alike tape other o same) ∙ y))
        ∙ ap₂ (λ (i : ℕ) (e : Entry). parse_from n other (lent_for lent f) i (absorbed p e)) (next_alike tape other o same) (entry-alike tape other o same h.is_known)
        ∙ enough other (lent_for lent f) n k (next_at tape o) (absorbed p (entry_at tape o)) l (omega arith) more

    reads_end : get_or tape o 0 ≡ 0 → (f ≡ false → length other ≤ o + 1) → records_of other (lent_for lent f) ≡ whole p
    reads_end z last =
        r.goes_on other (omega arith) before f (suc (length other)) (omega arith)
        ∙ unrolled_end other (lent_for lent f) (length other) o p (record-passes f other o (allowed p) (rows (λ y _. last y))) judged
        (kind_alike tape other o same ∙ z)

  -- the next record
  pub onward : {u : ParserState} {next : Cursor} → Ok (Some (u, next)) ≡ transition_at tape o t lent → Reached tape lent u next.at × (o < next.at)
  onward {u} {next} e = go (turn tape lent 0 o p) (by-verdict e)
    where
      go : {v : Verdict} {end : Bool} {all : Parse} → Turn tape lent 0 o p v end all → transition_by tape lent o p v end ≡ Ok (Some (u, next)) → Reached tape lent u next.at × (o < next.at)
      go (Turn.refuse n q _) h = let z : ◌≡◌ {A = ℕ} 0 1 = cc in absurd (omega arith)
      go (Turn.done a z) h = let z : ◌≡◌ {A = ℕ} 0 1 = cc in absurd (omega arith)
      go (Turn.more a v z) h =
          let both : ◌≡◌ {A = ParserState × Cursor} (u, next) (state_of (absorbed p (entry_at tape o)), record { at = next_at tape o }) = cc in
          let same-state : u ≡ state_of (absorbed p (entry_at tape o)) = ap (λ (x : ParserState × Cursor). x.0) both in
          let one_more : u ≡ advanced t (entry_at tape o) =
          same-state ∙ sym (advanced-absorbed p (entry_at tape o)) ∙ ap (λ (x : ParserState). advanced x (entry_at tape o)) (sym r.counted) in
          let same_place : next_at tape o ≡ next.at = sym (ap (λ (x : ParserState × Cursor). x.1.at) both) in (
            subst (Reached tape lent u) same_place
                (record {
                  progress = absorbed p (entry_at tape o);
                  counted = same-state;
                  inside = a.fits;
                  counts = omega (arith, ap numbers_read one_more, advanced-count t (entry_at tape o), r.counts);
                  goes_on = λ other l same f k h. reads_on a v other l same f z k h;
                }),
            subst (λ (i : ℕ). o < i) same_place (omega arith),
          )

  -- the end record: the job is whole on every tape that has its bytes, and ends there or may be followed
  pub record Ended : Type 0 where
    pub inside : o + 1 ≤ length tape
    pub alone : lent.followed ≡ false → length tape ≡ o + 1
    pub counted : t ≡ state_of p
    pub job : (other : List ℕ) → o + 1 ≤ length other → take (o + 1) other ≡ take (o + 1) tape → (f : Bool) → (f ≡ false → length other ≤ o + 1) →
        records_of other (lent_for lent f) ≡ whole p

  pub finished : Ok None ≡ transition_at tape o t lent → Ended
  unfolding kinds
  finished e = go (turn tape lent 0 o p) (by-verdict e)
    where
      no_terms : get_or tape o 0 ≡ 0 → terms_verdict tape lent o ≡ Verdict.Accept
      no_terms z = ap (λ (kind : ℕ). first_refusal (entry_rows o lent (decoded kind (λ i. get_or tape (o + 1 + i) 0)))) z ∙ accepted

      go : {v : Verdict} {end : Bool} {all : Parse} → Turn tape lent 0 o p v end all → transition_by tape lent o p v end ≡ Ok None → Ended
      go (Turn.refuse n q _) h = let z : ◌≡◌ {A = ℕ} 0 1 = cc in absurd (omega arith)
      go (Turn.more a v z) h = let z : ◌≡◌ {A = ℕ} 0 1 = cc in absurd (omega arith)
      go (Turn.done a z) h =
          let body : body_length (get_or tape o 0) ≡ body_length 0 = ap body_length z in
          let here : next_at tape o ≡ o + 1 = omega (arith, body) in
          record {
            inside = omega (arith, a.inside);
            alone = λ y. omega (arith, a.inside, a.last y z);
            counted = r.counted;
            job = λ other l same f last. reads_end a (no_terms z) other (omega (arith, here)) (subst (λ (i : ℕ). take i other ≡ take i tape) (sym here) same) f z last;
          }

  -- a refusal: the tape is turned back with it ..
  pub refused : {n q : ℕ} → turned_back n q ≡ transition_at tape o t lent → records_of tape lent ≡ turned n q
  refused {n} {q} e = r.goes_on tape r.inside refl lent.followed (suc (length tape)) (omega arith) ∙ go (turn tape lent (length tape) o p) (by-verdict e)
    where
      go : {v : Verdict} {end : Bool} {all : Parse} → Turn tape lent (length tape) o p v end all → transition_by tape lent o p v end ≡ turned_back n q → all ≡ turned n q
      go (Turn.refuse m l _) h =
          let both : ◌≡◌ {A = ℕ × ℕ} (m, l) (n, q) = cc in ap (λ (x : ℕ × ℕ). turned x.0 x.1) both
      go (Turn.done a z) h = cc
      go (Turn.more a v z) h = cc

-- .. and so it is with more bytes behind, unless it says that the input ends too early
module _ (tape : List ℕ) (lent : Lent) {t : ParserState} {o : ℕ} (r : Reached tape lent t o) (f : lent.followed ≡ true) {n q : ℕ}
    (e : turned_back n q ≡ transition_at tape o t lent) (s : too_short n ≡ false) (behind : List ℕ) where
  step-alike : transition_at (tape ++ behind) o t lent ≡ transition_at tape o t lent
  unfolding transition_at
  step-alike =
      ap (λ (g : Result (Entry × Cursor) (ℕ × ℕ)). transition_on g o t lent)
      (subst (λ (b : Bool). result_at b (tape ++ behind) o t ≡ result_at b tape o t) (sym f) (result_alike tape behind o t long))
    where
      long : (m l : ℕ) → result_at true tape o t ≡ turned_back m l → too_short m ≡ false
      long m l h =
          let x : turned_back n q ≡ turned_back m l = e ∙ ap (λ (g : Result (Entry × Cursor) (ℕ × ℕ)). transition_on g o t lent) (ap (λ (b : Bool). result_at b tape o t) f ∙ h) in
          let both : ◌≡◌ {A = ℕ × ℕ} (n, q) (m, l) = cc in
          let y : n ≡ m = ap (λ (x : ℕ × ℕ). x.0) both in
          subst (λ (i : ℕ). too_short i ≡ false) y s

  pub refused-longer : records_of (tape ++ behind) lent ≡ turned n q
  refused-longer =
      refused (tape ++ behind) lent
      (moved r (tape ++ behind) (omega (arith, r.inside, length-append tape behind)) (take-append-le o tape behind r.inside))
      (e ∙ sym step-alike)

-- the end record of a tape that nothing may follow
pub whole-tape : (tape : List ℕ) (lent : Lent) {t : ParserState} {o : ℕ} → Reached tape lent t o → lent.followed ≡ false → Ok None ≡ transition_at tape o t lent →
    WholeRecords tape lent t
whole-tape tape lent r f e =
    let d = finished tape lent r e in
    (r.progress, d.job tape d.inside refl lent.followed (λ _. omega (arith, d.alone f)), r.counted)
