-- The job at the front of some bytes, from what a scan says where it stops. Assumes nothing.
use mathlib.Core.Path.{◌≡◌, refl, sym, ap, ◌∙◌}
use mathlib.Core.Bool.{Bool, true, false, true≢false}
use mathlib.Core.List.{List, [], ◌∷◌, ◌++◌}
use Prim.Native.Nat.{ℕ, ◌+◌, ◌*◌, ◌≤◌, ◌<◌}
use native.Mathlib.Omega.{arith}
use lib.Dec.{ltb}
use lib.IntN.{ℤ, nat_abs}
use lib.ListN.{length, get_or, take, length-append}
use lib.Seq.{length-take-le, take-take, take-append-le}
use Rattle.model.specs.declared.Lent.{Lent}
use Rattle.model.specs.declared.Terms.{Terms}
use Rattle.model.specs.declared.Totals.{Totals}
use Rattle.std.specs.Prelude.{Result, Ok, Err, None}
use Rattle.model.specs.declared.Ending.{Ending}
use Rattle.model.specs.declared.Job.{Job}
use Rattle.model.specs.declared.Refusal.{Refusal}
use Rattle.model.specs.Verdict.{Verdict, Accept, Refuse, or_else, first_refusal, refused as turned_back}
use Rattle.model.specs.Grid.{weight_of}
use Rattle.model.specs.Calls as Calls
use Rattle.model.specs.Calls.{pixels_of, first_beyond, flow_row}
use Rattle.model.specs.Answers.{answer_of, read_answer_of}
use Rattle.model.specs.Tape.{Progress, turned, whole, judged, unless, parse, too_short, lent_by, read_answer, read_samples, read_weights, read_flow}
use Rattle.model.specs.Season.{bytes_of}
use Rattle.tape_records.specs.declared.state.ParserState.{ParserState}
use Rattle.tape_reader.specs.Transition.{transition_at}
use Rattle.tape_reader.specs.Scan.{records_of, WholeRecords, Reached}
use Rattle.tape_reader.proofs.Reached as scan
use Rattle.roundtrip.proofs.Accepted.{accepted-job}
use Rattle.roundtrip.proofs.Judged.{passed_parse}
use Rattle.calls.specs.Slack.{most_slack}
use Rattle.job.specs.Tables.{answer_for}
use Rattle.job.proofs.Shown.{Shows}
use Rattle.job.proofs.Tapes.{ReadFrom, turned-back, allowed, job-taken, read-shown}
use Rattle.job.proofs.Slacks.{front_bytes}
use Rattle.stream.specs.Jobs.{Ready, lent_in, Short, Refused, Stopped, Answered}

module _ (bytes : List ℕ) (lent : Lent) {t : ParserState} {o : ℕ} (r : Reached bytes lent t o) where
  -- the scan stops at a record that is refused
  module _ {n q : ℕ} (e : turned_back n q ≡ transition_at bytes o t lent) where
    stopped_short : too_short n ≡ true → Short bytes lent n q t o
    unfolding parse
    stopped_short s = record { reached = r; refused = ap judged (scan.refused bytes lent r e); short = s }

    stopped_refused : lent.followed ≡ true → too_short n ≡ false → Refused bytes lent n q
    unfolding parse
    stopped_refused f s = record { refused = λ behind. ap judged (scan.refused-longer bytes lent r f e s behind); faulty = s }

-- .. or at the end record
module _ (bytes samples : List ℕ) (weights flow : List ℤ) {t : ParserState} {o : ℕ}
    (r : Reached bytes (lent_in (length samples) (length weights) (length flow)) t o)
    (e : Ok None ≡ transition_at bytes o t (lent_in (length samples) (length weights) (length flow))) where
  abbrev lent : Lent
  lent = lent_in (length samples) (length weights) (length flow)

  -- a pair's own weight
  abbrev weight : ℕ → ℕ
  weight = weight_of r.progress.terms r.progress.weights

  abbrev tape : List ℕ
  tape = take (o + 1) bytes

  pub inside : o + 1 ≤ length bytes
  inside = (scan.finished bytes lent r e).inside

  size : length tape ≡ o + 1
  size = length-take-le (o + 1) bytes inside

  alone : records_of tape (lent_by samples weights flow) ≡ whole r.progress
  alone =
      (scan.finished bytes lent r e).job tape (omega (arith, size)) (take-take (o + 1) (o + 1) bytes (omega arith)) false
      (λ _. omega (arith, size))

  pub records : WholeRecords tape (lent_by samples weights flow) t
  records = (r.progress, alone, r.counted)

  followed : (behind : List ℕ) → records_of (bytes ++ behind) lent ≡ whole r.progress
  followed behind =
      (scan.finished bytes lent r e).job (bytes ++ behind) (omega (arith, inside, length-append bytes behind))
      (take-append-le (o + 1) bytes behind inside) true (λ z. absurd (true≢false z))

  -- so what is read of the job's own bytes is what is read of all
  same : (behind : List ℕ) → parse (bytes ++ behind) lent ≡ parse tape (lent_by samples weights flow)
  unfolding parse
  same behind = ap judged (followed behind ∙ sym alone)

  -- 8 is no number that says that the input ends
  faulty : {n q : ℕ} → parse tape (lent_by samples weights flow) ≡ turned n q → too_short n ≡ false
  unfolding parse first_refusal
  faulty {n} {q} h = go (first_refusal (flow_row weight r.progress.flow ∷ [])) refl (sym (ap judged alone) ∙ h)
    where
      eight : (b : Bool) (x : ℕ) {m l : ℕ} → or_else b (Refuse 8 x) Accept ≡ Refuse m l → m ≡ 8
      eight true x e = cc
      eight false x e = cc

      go : (v : Verdict) → first_refusal (flow_row weight r.progress.flow ∷ []) ≡ v →
          unless v (whole r.progress) ≡ turned n q → too_short n ≡ false
      go Accept e h = cc
      go (Refuse m l) e h =
          let is : n ≡ m = cc in
          let flow : List ℤ = r.progress.flow in
          let first : ℕ = first_beyond weight flow in
          ap too_short (is ∙ eight (ltb first (length flow)) first e)

  -- a job's bytes are its tape's
  bytes-of : ((i : ℕ) → get_or bytes i 0 < 256) → {p : Progress} → parse tape (lent_by samples weights flow) ≡ whole p →
      length tape ≡ bytes_of p
  unfolding bytes_of
  bytes-of byte {p} h =
      ap length (accepted-job tape (lent_by samples weights flow) (front_bytes (o + 1) bytes byte) refl p
      (passed_parse tape samples weights flow p h).0).bytes

-- of an answer alone the image is not shown
answer-shows : Shows (λ (a : Calls.Answer) (_ : List ℤ). a)
answer-shows = record { alike = λ _ _ _ _. refl }

module _ (bytes samples : List ℕ) (weights flow : List ℤ) {t : ParserState} {o : ℕ}
    (r : Reached bytes (lent_in (length samples) (length weights) (length flow)) t o) where
  -- at a record that is refused
  pub stopped : {n q : ℕ} → turned_back n q ≡ transition_at bytes o t (lent_in (length samples) (length weights) (length flow)) →
      Stopped bytes (lent_in (length samples) (length weights) (length flow)) n q t o
  stopped e = (stopped_short bytes _ r e, stopped_refused bytes _ r e refl)

  -- at the end record
  module _ (e : Ok None ≡ transition_at bytes o t (lent_in (length samples) (length weights) (length flow)))
      (byte : (i : ℕ) → get_or bytes i 0 < 256) {v : Result Job Refusal}
      (read : read_answer_of v ≡ read_answer (take (o + 1) bytes) samples weights flow) where
    pub read-from : ReadFrom (take (o + 1) bytes) samples weights flow v
    read-from = record { byte = front_bytes (o + 1) bytes byte; answer = read }

  pub answered : (e : Ok None ≡ transition_at bytes o t (lent_in (length samples) (length weights) (length flow))) →
      (byte : (i : ℕ) → get_or bytes i 0 < 256) → {totals : Totals} (image work : List ℤ) →
      Ready totals (length samples) (length flow) (length image) (length work) → {S : List ℕ} {W F : List ℤ} →
      S ≡ read_samples (take (o + 1) bytes) samples weights flow → W ≡ read_weights (take (o + 1) bytes) samples weights flow →
      F ≡ read_flow (take (o + 1) bytes) samples weights flow → (v : Result Job Refusal) (a : Result Ending Refusal) →
      read_answer_of v ≡ read_answer (take (o + 1) bytes) samples weights flow → answer_of a ≡ answer_for v S W F image work →
      nat_abs (answer_of a).slack ≤ most_slack * pixels_of (read_answer_of v).terms →
      Answered bytes (lent_in (length samples) (length weights) (length flow)) totals v a (o + 1)
  answered e byte image work ready s w f (Err x) a read _ _ =
      let is = turned-back (take (o + 1) bytes) samples weights flow (front_bytes (o + 1) bytes byte) x read in
      record {
        refused = λ behind. same bytes samples weights flow r e behind ∙ is;
        faulty = faulty bytes samples weights flow r e is;
      }
  answered e byte image work ready s w f (Ok job) a read answer small =
      let k = job-taken (read-from e byte read) in
      let pixels = ap (λ (x : Terms). pixels_of x) k.terms in
      let shown = read-shown k image work ready.holds s w f (λ (_ : Terms) (x : Calls.Answer) (_ : List ℤ). x) (λ _. answer-shows) answer refl in
      record {
        job = k.p;
        read = λ behind. same bytes samples weights flow r e behind ∙ k.is;
        length_in_bytes = sym (size bytes samples weights flow r e) ∙ bytes-of bytes samples weights flow r e byte k.is;
        inside = inside bytes samples weights flow r e;
        sized = allowed k;
        pixels = pixels;
        answer = shown;
        countable =
            record {
              bounded = ready.bounded;
              not_last = ready.not_last;
              pixels_allowed = omega (arith, k.fits.samples_hold, ready.samples_most);
              slack_allowed = omega (arith, small, ap (λ (x : Calls.Answer). nat_abs x.slack) shown, ap (λ (n : ℕ). most_slack * n) pixels);
            };
      }
