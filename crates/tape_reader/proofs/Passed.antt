-- What the counts of a tape that has passed say: its length, that the buffers are long enough, and what read gives and
-- leaves. Assumes nothing.
use mathlib.Core.Path.{◌≡◌, refl, sym, ap, ◌∙◌, subst, subst⁻¹}
use mathlib.Core.Bool.{not}
use mathlib.Core.List.{List}
use Prim.Native.Nat.{ℕ, ◌+◌, ◌*◌, ◌≤◌, ◌<◌}
use native.Mathlib.Omega.{arith}
use lib.Dec.{eqb}
use lib.IntN.{ℤ, pos}
use lib.ListN.{length, get_or}
use Rattle.lists.specs.Lists.{table, overwritten}
use Rattle.model.specs.Tape.{Progress, turned, whole, parse, read_answer, read_samples, read_weights, read_flow, lent_by}
use Rattle.model.proofs.Accepted.{up_to}
use Rattle.tape_records.specs.declared.state.ParserState.{ParserState}
use Rattle.model.specs.declared.Lent.{Lent}
use Rattle.tape_records.specs.State.{state_of}
use Rattle.tape_reader.specs.Scan.{WholeRecords}
use Rattle.roundtrip.proofs.Accepted.{Job, accepted-job}
use Rattle.tape_reader.proofs.Numbers.{code_on, weight_on, number_on, first_on, job-length, codes-are, weights-are, numbers-are, first-is}
use Rattle.roundtrip.proofs.Judged.{all, beyond_parse, whole-parse, answer-by, samples-by, weights-by, flow-by}

-- the tape's length, and that the buffers are long enough
abbrev pub Room : List ℕ → Lent → ParserState → Type 0
Room tape lent t =
    (length tape ≡ 16 + 2 * t.samples + 3 * t.weights + 5 * t.flows)
    × (t.samples ≤ lent.samples)
    × (t.weights ≤ lent.weights)
    × (t.flows ≤ lent.flow)

module _ (tape : List ℕ) (byte : (i : ℕ) → get_or tape i 0 < 256) (samples : List ℕ) (weights flow : List ℤ) where
  abbrev lent : Lent
  lent = lent_by samples weights flow

  -- what holds of the counts of every accepted job holds of these
  by-job : (P : ParserState → Type 0) →
      ((p : Progress) → all tape samples weights flow ≡ whole p → Job tape lent byte p → P (state_of p)) →
      {t : ParserState} → WholeRecords tape (lent_by samples weights flow) t → P t
  by-job P k h = let (p, e, f) = h in subst⁻¹ P f (k p e (accepted-job tape lent byte refl p e))

  room_of : (p : Progress) → Job tape lent byte p → Room tape lent (state_of p)
  room_of p j =
      let s = j.sound.size (omega (arith, j.complete)) in
      (job-length tape lent byte p j, omega (arith, j.samples, s.1), up_to j.weights s.2, up_to j.flow s.3)

  module _ {t : ParserState} (h : WholeRecords tape (lent_by samples weights flow) t) where
    pub room : Room tape (lent_by samples weights flow) t
    room = by-job (Room tape lent) (λ p e j. room_of p j) h

    pub beyond : first_on tape t < t.flows → parse tape (lent_by samples weights flow) ≡ turned 8 (first_on tape t)
    beyond = by-job (λ u. first_on tape u < u.flows → parse tape lent ≡ turned 8 (first_on tape u)) far h
      where
        far : (p : Progress) → all tape samples weights flow ≡ whole p → Job tape lent byte p →
            first_on tape (state_of p) < length p.flow → parse tape lent ≡ turned 8 (first_on tape (state_of p))
        far p e j l =
            let f = first-is tape lent byte p j in
            beyond_parse tape samples weights flow p e (subst (λ (n : ℕ). n < length p.flow) f l) ∙ ap (turned 8) (sym f)

    -- what read gives and leaves where no number is beyond its pair's weight
    abbrev Left : ParserState → Type 0
    Left u =
        (read_answer tape samples weights flow
        ≡ record {
          number = 0;
          place = 0;
          terms = u.terms;
          rounds = u.rounds;
          weighted = not (eqb u.weights 0);
          flowed = not (eqb u.flows 0);
        })
        × (read_samples tape samples weights flow ≡ overwritten (table u.samples (code_on tape)) samples)
        × (read_weights tape samples weights flow
        ≡ overwritten (table u.weights (λ i. pos (weight_on tape u.samples i))) weights)
        × (read_flow tape samples weights flow ≡ overwritten (table u.flows (number_on tape u.samples u.weights)) flow)

    pub left : t.flows ≤ first_on tape t → Left t
    left = by-job (λ u. u.flows ≤ first_on tape u → Left u) whole-job h
      where
        filled : {A : Type 0} {new read : List A} (buffer : List A) → new ≡ read → overwritten read buffer ≡ overwritten new buffer
        filled buffer e = ap (λ (front : List _). overwritten front buffer) (sym e)

        whole-job : (p : Progress) → all tape samples weights flow ≡ whole p → Job tape lent byte p →
            length p.flow ≤ first_on tape (state_of p) → Left (state_of p)
        whole-job p e j l =
            let within = subst (λ (n : ℕ). length p.flow ≤ n) (first-is tape lent byte p j) l in
            let r = whole-parse tape samples weights flow p e within in (
              answer-by tape samples weights flow r,
              samples-by tape samples weights flow r ∙ filled samples (codes-are tape lent byte p j),
              weights-by tape samples weights flow r ∙ filled weights (weights-are tape lent byte p j),
              flow-by tape samples weights flow r ∙ filled flow (numbers-are tape lent byte p j),
            )
