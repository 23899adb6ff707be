-- The text of the answer to a tape that has been read into tables. Assumes nothing.
use mathlib.Core.Path.{◌≡◌, refl, ap₂, ◌∙◌}
use mathlib.Core.List.{List}
use Prim.Native.Nat.{ℕ, ◌+◌, ◌*◌, ◌≤◌}
use native.Mathlib.Nat.{mul-le-mul_right}
use native.Mathlib.Omega.{arith}
use lib.IntN.{ℤ}
use lib.ListN.{length, take}
use Rattle.std.specs.Prelude.{Result, Ok, Err}
use Rattle.model.specs.declared.Terms.{Terms}
use Rattle.model.specs.declared.Job.{Job}
use Rattle.model.specs.declared.Refusal.{Refusal}
use Rattle.model.specs.Calls.{Answer, pixels_of}
use Rattle.model.specs.Tape.{Parse, turned, whole, lent_by, parse, read_samples, read_weights, read_flow}
use Rattle.model.specs.Program.{answer_text, read_text}
use Rattle.model.specs.Answers.{read_answer_of}
use Rattle.validation.proofs.Size.{allowed-size}
use Rattle.job.specs.Tables.{Holds, answer_for, image_for}
use Rattle.job.proofs.Shown.{Shows}
use Rattle.job.proofs.Tapes.{ReadFrom, allowed, held, job-taken, shown_of, answer-shown}

abbrev text_of : Terms → Answer → List ℤ → List ℕ
text_of t a values = answer_text a t values

-- of a refusal the text does not show the image
text-shows : (t : Terms) → Shows (text_of t)
unfolding answer_text
text-shows t = record { alike = λ _ _ _ _. refl }

text-shown : (r : Parse) → shown_of text_of r ≡ read_text r
unfolding answer_text
text-shown (turned number place) = refl
text-shown (whole p) = refl

module _ {input samples : List ℕ} {weights flow : List ℤ} (r : Result Job Refusal) (k : ReadFrom input samples weights flow r)
    (image work : List ℤ) (holds : Holds (length samples) (length flow) (length image) (length work)) {S : List ℕ} {W F : List ℤ}
    (s : S ≡ read_samples input samples weights flow) (w : W ≡ read_weights input samples weights flow)
    (f : F ≡ read_flow input samples weights flow) where
  pub read-text : {t : Terms} {n : ℕ} → t ≡ (read_answer_of r).terms → n ≡ pixels_of (read_answer_of r).terms →
      {a : Answer} {values : List ℤ} → a ≡ answer_for r S W F image work → values ≡ image_for r S W F image work →
      answer_text a t (take n values) ≡ read_text (parse input (lent_by samples weights flow))
  read-text is pixels {a} {values} e g =
      ap₂ (λ (t : Terms) (n : ℕ). answer_text a t (take n values)) is pixels
      ∙ answer-shown image work holds text_of text-shows r k s w f e g
      ∙ text-shown (parse input (lent_by samples weights flow))

-- the room that the text asks
pub enough : {input samples : List ℕ} {weights flow : List ℤ} (r : Result Job Refusal) → ReadFrom input samples weights flow r →
    {output : ℕ} → 125 + 23 * length samples ≤ output →
    125 + (read_answer_of r).terms.height * (22 * (read_answer_of r).terms.width + 1) ≤ output
enough (Ok job) k room =
    let t : Terms = job.terms in
    let low : 1 * t.height ≤ t.width * t.height = mul-le-mul_right t.height (allowed-size (allowed (job-taken k))).broad in
    omega (arith, held (job-taken k))
enough (Err _) k room = omega arith
