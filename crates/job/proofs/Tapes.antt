-- A tape that has been read into tables: what is shown of its job's answer and image. Assumes nothing.
use mathlib.Core.Path.{◌≡◌, refl, sym, ap, ap₂, ◌∙◌, subst}
use mathlib.Core.Bool.{Bool, true, false, not, cond, true≢false}
use mathlib.Core.List.{List, []}
use mathlib.Core.Logic.{◌⊎◌, ⊎_elim}
use Prim.Native.Nat.{ℕ, ◌*◌, ◌≤◌, ◌<◌, zero-le}
use native.Mathlib.Omega.{arith}
use lib.Dec.{eqb}
use lib.IntN.{ℤ}
use lib.ListN.{length, get_or, take, drop, length-append, length-drop, length-replicate}
use lib.Seq.{length-take-le, take_at}
use borrow.Author.Tests.{eqb-true, eqb-false}
use Rattle.model.specs.declared.Terms.{Terms}
use Rattle.std.specs.Prelude.{Result, Ok, Err}
use Rattle.model.specs.declared.Rounds.{Rounds}
use Rattle.lists.specs.Lists.{zeros, overwritten}
use Rattle.model.specs.Grid.{size_allowed}
use Rattle.model.specs.Verdict.{Verdict, Accept, Refuse, left, number_of}
use Rattle.model.specs.Calls.{Answer, refusal, pixels_of, pairs_of, image_of, check_verdict, check_answer, check_image, run_verdict, run_answer, run_image}
use Rattle.model.specs.Tape.{Progress, nothing, Parse, turned, whole, parse, ReadAnswer, read_of, read_answer, read_samples, read_weights, read_flow, lent_by}
use Rattle.model.specs.declared.Job.{Job}
use Rattle.model.specs.declared.Refusal.{Refusal}
use Rattle.model.specs.Answers.{read_answer_of}
use Rattle.model.specs.Program.{job_answer, job_image}
use Rattle.lists.proofs.Tables.{length-table}
use Rattle.lists.proofs.Placed.{take-overwritten}
use Rattle.roundtrip.proofs.Accepted.{accepted-job}
use Rattle.roundtrip.proofs.Judged.{accepted-parse, passed_parse, answer-by, samples-by, weights-by, flow-by}
use Rattle.roundtrip.proofs.RoundTrip.{counted}
use Rattle.model.specs.RoundTrip.{all_of}
use Rattle.job.specs.Tables.{Tables, Holds, answer_in, image_front, image_in, SizeAllowed, TablesFor, answer_for, image_for}
use Rattle.job.proofs.Shown.{Shows, of_check, same_check, of_run, same-run}

-- the image that a call leaves is as long as the one it was lent, if that has a value for each pixel
left-length : (n : ℕ) (v : Verdict) (new former : List ℤ) → length new ≡ n → length former ≡ n → length (left v new former) ≡ n
left-length n Accept new former e g = e
left-length n (Refuse number place) new former e g = g

module _ (t : Terms) (samples : List ℕ) (weights : List ℤ) where
  image_length : (flow : List ℤ) → length (image_of t samples flow) ≡ pixels_of t
  unfolding image_of
  image_length flow = length-table (pixels_of t) _

  check_length : (flow image : List ℤ) → length image ≡ pixels_of t → length (check_image t samples weights flow image) ≡ pixels_of t
  unfolding check_image
  check_length flow image e = left-length (pixels_of t) (check_verdict t samples weights flow image) _ image (image_length _) e

  run_length : (r : Rounds) (flow image work : List ℤ) → length image ≡ pixels_of t →
      length (run_image t r samples weights flow image work) ≡ pixels_of t
  unfolding run_image
  run_length r flow image work e =
      left-length (pixels_of t) (run_verdict t r samples weights flow image work) _ image (image_length _) e

zeros-length : (n : ℕ) → length (zeros n) ≡ n
zeros-length n = length-replicate n _

-- what holds of a whole job and of the tables that it was read into
pub record Fits (samples weights flow : ℕ) (p : Progress) : Type 0 where
  pub size : size_allowed p.terms.width p.terms.height ≡ true
  pub samples_hold : pixels_of p.terms ≤ samples
  pub weights_hold : pairs_of p.terms ≤ weights
  pub flow_holds : pairs_of p.terms ≤ flow
  pub sampled : length p.samples ≡ pixels_of p.terms
  pub weighs : (length p.weights ≡ 0) ⊎ (length p.weights ≡ pairs_of p.terms)
  pub flows : (length p.flow ≡ 0) ⊎ (length p.flow ≡ pairs_of p.terms)

pub whole-fits : (input samples : List ℕ) (weights flow : List ℤ) → ((i : ℕ) → get_or input i 0 < 256) → (p : Progress) →
    parse input (lent_by samples weights flow) ≡ whole p → Fits (length samples) (length weights) (length flow) p
whole-fits input samples weights flow byte p e =
    let j = accepted-job input (lent_by samples weights flow) byte refl p (passed_parse input samples weights flow p e).0 in
    let size = j.sound.size (omega (arith, j.complete)) in
    record {
      size = size.0;
      samples_hold = size.1;
      weights_hold = size.2;
      flow_holds = size.3;
      sampled = j.samples;
      weighs = j.weights;
      flows = j.flow;
    }

-- what is shown of a job whose numbers stand in the fronts of the tables
module _ {X : Type 0} (shown : Answer → List ℤ → X) (shows : Shows shown) (p : Progress) (samples : List ℕ)
    (weights flow image work : List ℤ) (f : Fits (length samples) (length weights) (length flow) p)
    (image_holds : pixels_of p.terms ≤ length image) (work_holds : 2 * pairs_of p.terms ≤ length work) where
  abbrev weighted : Bool
  weighted = not (eqb (length p.weights) 0)

  abbrev flowed : Bool
  flowed = not (eqb (length p.flow) 0)

  abbrev S : List ℕ
  S = overwritten p.samples samples

  abbrev W : List ℤ
  W = overwritten p.weights weights

  abbrev F : List ℤ
  F = overwritten p.flow flow

  codes : take (pixels_of p.terms) S ≡ p.samples
  codes = take-overwritten samples p.samples f.sampled

  own : take (all_of weighted (pairs_of p.terms)) W ≡ p.weights
  own = take-overwritten weights p.weights (sym (counted (length p.weights) (pairs_of p.terms) f.weighs))

  front_length : length (take (pixels_of p.terms) image) ≡ pixels_of p.terms
  front_length = length-take-le _ image image_holds

  -- the image by its front
  by_front : (b : Bool) → length (image_front p.terms p.rounds weighted b S W F image work) ≡ pixels_of p.terms
  by_front true = check_length p.terms _ _ _ _ front_length
  by_front false = run_length p.terms _ _ p.rounds _ _ _ front_length

  abbrev front : Bool → X
  front b =
      shown (answer_in p.terms p.rounds weighted b S W F image work)
      (image_front p.terms p.rounds weighted b S W F image work)

  checked : length p.flow ≡ pairs_of p.terms →
      front true ≡ of_check shown shows p.terms p.samples p.weights p.flow (zeros (pixels_of p.terms))
  checked e =
      let t : Terms = p.terms in
      ap₂ (λ (s : List ℕ) (w : List ℤ). of_check shown shows t s w (take (pairs_of t) F) (take (pixels_of t) image)) codes own
      ∙ ap (λ (g : List ℤ). of_check shown shows t p.samples p.weights g (take (pixels_of t) image))
      (take-overwritten flow p.flow e)
      ∙ same_check shown shows t p.samples p.weights p.flow (take (pixels_of t) image) (zeros (pixels_of t))
      (front_length ∙ sym (zeros-length (pixels_of t)))

  ran : length p.flow ≡ 0 →
      front false
      ≡ of_run shown shows p.terms p.rounds p.samples p.weights (zeros (pairs_of p.terms))
      (zeros (pixels_of p.terms)) (zeros (2 * pairs_of p.terms))
  ran e =
      let t : Terms = p.terms in
      let long : pairs_of t ≤ length F =
      omega (arith, f.flow_holds, length-append p.flow (drop (length p.flow) flow), length-drop (length p.flow) flow) in
      ap₂
      (λ (s : List ℕ) (w : List ℤ).
      of_run shown shows t p.rounds s w (take (pairs_of t) F) (take (pixels_of t) image) (take (2 * pairs_of t) work))
      codes own
      ∙ same-run shown shows t p.rounds p.samples p.weights _ _ _ (zeros (pairs_of t)) (zeros (pixels_of t))
      (zeros (2 * pairs_of t)) (length-take-le _ F long ∙ sym (zeros-length (pairs_of t)))
      (front_length ∙ sym (zeros-length (pixels_of t))) (length-take-le _ work work_holds ∙ sym (zeros-length (2 * pairs_of t)))

  pub job-shown : shown (answer_in p.terms p.rounds weighted flowed S W F image work)
      (take (pixels_of p.terms) (image_in p.terms p.rounds weighted flowed S W F image work))
      ≡ shown (job_answer p) (job_image p)
  unfolding job_answer job_image
  job-shown =
      ap (shown (answer_in p.terms p.rounds weighted flowed S W F image work))
      (take_at (image_front p.terms p.rounds weighted flowed S W F image work) (drop (pixels_of p.terms) image)
      (pixels_of p.terms) (by_front flowed))
      ∙ go (eqb (length p.flow) 0) refl
    where
      t : Terms
      t = p.terms

      listed : eqb (length p.flow) 0 ≡ false → length p.flow ≡ pairs_of t
      listed h =
          ⊎_elim (λ (z : length p.flow ≡ 0). absurd (eqb-false _ _ h z)) (λ (e : length p.flow ≡ pairs_of t). e) f.flows

      go : (b : Bool) → eqb (length p.flow) 0 ≡ b →
          front (not b)
          ≡ shown
          (cond b
          (run_answer t p.rounds p.samples p.weights (zeros (pairs_of t)) (zeros (pixels_of t)) (zeros (2 * pairs_of t)))
          (check_answer t p.samples p.weights p.flow (zeros (pixels_of t))))
          (cond b
          (run_image t p.rounds p.samples p.weights (zeros (pairs_of t)) (zeros (pixels_of t)) (zeros (2 * pairs_of t)))
          (check_image t p.samples p.weights p.flow (zeros (pixels_of t))))
      go true h = ran (eqb-true _ _ h)
      go false h = checked (listed h)

-- ---- what read's answer says of the tape

none_small : size_allowed 0 0 ≡ false
unfolding size_allowed
none_small = refl

module _ (input samples : List ℕ) (weights flow : List ℤ) (byte : (i : ℕ) → get_or input i 0 < 256) where
  abbrev tape : Parse
  tape = parse input (lent_by samples weights flow)

  -- a job: the tape is whole
  pub record Taken (j : Job) : Type 0 where
    pub p : Progress
    pub is : tape ≡ whole p
    pub fits : Fits (length samples) (length weights) (length flow) p
    pub answer : read_answer_of (Ok j) ≡ read_of (whole p)
    pub terms : j.terms ≡ p.terms

  pub taken : (j : Job) → read_answer_of (Ok j) ≡ read_answer input samples weights flow → Taken j
  taken j e = go (accepted-parse input samples weights flow (ap (λ (a : ReadAnswer). a.number) (sym e)))
    where
      go : (p : Progress) × (tape ≡ whole p) → Taken j
      go (p, h) =
          let a : read_answer_of (Ok j) ≡ read_of (whole p) =
          e ∙ answer-by input samples weights flow h in
          record {
            p = p;
            is = h;
            fits = whole-fits input samples weights flow byte p h;
            answer = a;
            terms = ap (λ (x : ReadAnswer). x.terms) a;
          }

  -- a refusal: the tape is turned back with it
  pub turned-back : (f : Refusal) → read_answer_of (Err f) ≡ read_answer input samples weights flow → tape ≡ turned (number_of f.reason) f.place
  turned-back f e = go tape refl
    where
      go : (r : Parse) → tape ≡ r → tape ≡ turned (number_of f.reason) f.place
      go (turned n q) h =
          let a : read_answer_of (Err f) ≡ read_of (turned n q) =
          e ∙ answer-by input samples weights flow h in
          h ∙ ap₂ turned (sym (ap (λ (x : ReadAnswer). x.number) a)) (sym (ap (λ (x : ReadAnswer). x.place) a))
      go (whole p) h =
          let a : read_answer_of (Err f) ≡ read_of (whole p) =
          e ∙ answer-by input samples weights flow h in
          let small =
          subst (λ (t : Terms). size_allowed t.width t.height ≡ true) (sym (ap (λ (x : ReadAnswer). x.terms) a))
          (whole-fits input samples weights flow byte p h).size in
          absurd (true≢false (sym small ∙ none_small))

-- ---- a job in the tables

module _ {input samples : List ℕ} {weights flow : List ℤ} {byte : (i : ℕ) → get_or input i 0 < 256} {j : Job}
    (k : Taken input samples weights flow byte j) where
  abbrev t : Terms
  t = j.terms

  pub allowed : size_allowed t.width t.height ≡ true
  allowed = subst (λ (u : Terms). size_allowed u.width u.height ≡ true) (sym k.terms) k.fits.size

  pub held : (pixels_of t ≤ length samples) × (pairs_of t ≤ length weights) × (pairs_of t ≤ length flow)
  held =
      subst (λ (u : Terms). (pixels_of u ≤ length samples) × (pairs_of u ≤ length weights) × (pairs_of u ≤ length flow))
      (sym k.terms) (k.fits.samples_hold, k.fits.weights_hold, k.fits.flow_holds)

  module _ {image work : ℕ} (holds : Holds (length samples) (length flow) image work) where
    pub tables : {s w f : ℕ} → s ≡ length samples → w ≡ length weights → f ≡ length flow → Tables t s w f image work
    tables e h g =
        record {
          size = allowed;
          samples_hold = omega (arith, held);
          weights_hold = omega (arith, held);
          flow_holds = omega (arith, held);
          image_holds = omega (arith, held, holds.image_holds);
          work_holds = omega (arith, held, holds.work_holds);
        }

  -- what is shown of the job
  module _ (image work : List ℤ) (holds : Holds (length samples) (length flow) (length image) (length work))
      {S : List ℕ} {W F : List ℤ} (s : S ≡ read_samples input samples weights flow)
      (w : W ≡ read_weights input samples weights flow) (f : F ≡ read_flow input samples weights flow) where
    pub read-shown : {X : Type 0} (shown : Terms → Answer → List ℤ → X) → ((u : Terms) → Shows (shown u)) →
        {a : Answer} {values : List ℤ} → a ≡ answer_in t j.rounds j.weighted j.flowed S W F image work →
        values ≡ image_in t j.rounds j.weighted j.flowed S W F image work →
        shown t a (take (pixels_of t) values) ≡ shown k.p.terms (job_answer k.p) (job_image k.p)
    read-shown {X} shown shows e g =
        ap₂ (λ (b : Answer) (l : List ℤ). shown t b (take (pixels_of t) l)) e g
        ∙ ap (λ (x : ReadAnswer). there x S W F) k.answer
        ∙ ap₂ (λ (l : List ℕ) (m : List ℤ). there (read_of (whole k.p)) l m F)
        (s ∙ samples-by input samples weights flow k.is) (w ∙ weights-by input samples weights flow k.is)
        ∙ ap (there (read_of (whole k.p)) _ _) (f ∙ flow-by input samples weights flow k.is)
        ∙ job-shown (shown k.p.terms) (shows k.p.terms) k.p samples weights flow image work k.fits
        (omega (arith, k.fits.samples_hold, holds.image_holds)) (omega (arith, k.fits.flow_holds, holds.work_holds))
      where
        there : ReadAnswer → List ℕ → List ℤ → List ℤ → X
        there x l m n =
            shown x.terms (answer_in x.terms x.rounds x.weighted x.flowed l m n image work)
            (take (pixels_of x.terms) (image_in x.terms x.rounds x.weighted x.flowed l m n image work))

-- ---- what was read, a job or a refusal

-- what read gives for a tape
pub record ReadFrom (input samples : List ℕ) (weights flow : List ℤ) (r : Result Job Refusal) : Type 0 where
  pub byte : (i : ℕ) → get_or input i 0 < 256
  pub answer : read_answer_of r ≡ read_answer input samples weights flow

-- what is shown of a parse
abbrev pub shown_of : {X : Type 0} → (Terms → Answer → List ℤ → X) → Parse → X
shown_of shown (turned number place) = shown nothing.terms (refusal number place) []
shown_of shown (whole p) = shown p.terms (job_answer p) (job_image p)

module _ {input samples : List ℕ} {weights flow : List ℤ} where
  pub job-taken : {j : Job} (k : ReadFrom input samples weights flow (Ok j)) → Taken input samples weights flow k.byte j
  job-taken k = taken input samples weights flow k.byte _ k.answer

  pub size-read : (r : Result Job Refusal) → ReadFrom input samples weights flow r → SizeAllowed r
  size-read (Ok _) k = allowed (job-taken k)
  size-read (Err _) k = tt

  pub tables-read : (r : Result Job Refusal) → ReadFrom input samples weights flow r → {image work : ℕ} →
      Holds (length samples) (length flow) image work → {s w f : ℕ} →
      s ≡ length samples → w ≡ length weights → f ≡ length flow → TablesFor r s w f image work
  tables-read (Ok _) k holds = tables (job-taken k) holds
  tables-read (Err _) k holds = λ _ _ _. tt

  -- the samples hold every pixel
  pub held-read : (r : Result Job Refusal) → ReadFrom input samples weights flow r → pixels_of (read_answer_of r).terms ≤ length samples
  held-read (Ok _) k = (held (job-taken k)).0
  held-read (Err _) k = zero-le

  module _ (image work : List ℤ) (holds : Holds (length samples) (length flow) (length image) (length work))
      {S : List ℕ} {W F : List ℤ} {X : Type 0} (shown : Terms → Answer → List ℤ → X) (shows : (u : Terms) → Shows (shown u)) where
    pub answer-shown : (r : Result Job Refusal) → ReadFrom input samples weights flow r → S ≡ read_samples input samples weights flow →
        W ≡ read_weights input samples weights flow → F ≡ read_flow input samples weights flow → {a : Answer} {values : List ℤ} →
        a ≡ answer_for r S W F image work → values ≡ image_for r S W F image work →
        shown (read_answer_of r).terms a (take (pixels_of (read_answer_of r).terms) values)
        ≡ shown_of shown (parse input (lent_by samples weights flow))
    answer-shown (Ok _) k s w f a g =
        read-shown (job-taken k) image work holds s w f shown shows a g ∙ ap (shown_of shown) (sym (job-taken k).is)
    answer-shown (Err r) k s w f {a = _} {values} a g =
        ap (λ (y : Answer). shown nothing.terms y (take 0 values)) a
        ∙ (shows nothing.terms).alike (number_of r.reason) r.place (take 0 values) []
        ∙ ap (shown_of shown) (sym (turned-back input samples weights flow k.byte r k.answer))
