-- A job whose numbers stand in the fronts of tables: what it asks of their lengths, its answer, and what it leaves in them.
use Rattle.std.specs.Prelude.{◌≡◌, Bool, true, cond, List, ◌++◌, ℕ, ◌+◌, ◌*◌, ◌≤◌, ℤ, Result, Ok, Err, take, drop}
use Rattle.model.specs.declared.Terms.{Terms}
use Rattle.model.specs.declared.Rounds.{Rounds}
use Rattle.model.specs.declared.Job.{Job}
use Rattle.model.specs.declared.Refusal.{Refusal}
use Rattle.model.specs.Verdict.{number_of}
use Rattle.model.specs.Grid.{size_allowed}
use Rattle.model.specs.RoundTrip.{all_of}
use Rattle.model.specs.Calls.{Answer, refusal, pixels_of, pairs_of, check_answer, check_image, run_answer, run_image}

-- an allowed size, and tables that are long enough
pub record Tables (t : Terms) (samples weights flow image work : ℕ) : Type 0 where
  pub size : size_allowed t.width t.height ≡ true
  pub samples_hold : pixels_of t ≤ samples
  pub weights_hold : pairs_of t ≤ weights
  pub flow_holds : pairs_of t ≤ flow
  pub image_holds : pixels_of t ≤ image
  pub work_holds : 2 * pairs_of t ≤ work

-- tables that hold the image and the work of every job whose samples and flow the others hold
pub record Holds (samples flow image work : ℕ) : Type 0 where
  pub image_holds : samples ≤ image
  pub work_holds : 2 * flow ≤ work

-- .. and an output for the text of its answer
pub record TextTables (samples flow image work output : ℕ) : Type 0 where
  pub holds : Holds samples flow image work
  pub output_holds : 125 + 23 * samples ≤ output

module _ (t : Terms) (r : Rounds) (weighted flowed : Bool) (samples : List ℕ) (weights flow image work : List ℤ) where
  -- what the calls are lent: the tables' fronts
  abbrev samples_lent : List ℕ
  samples_lent = take (pixels_of t) samples

  abbrev weights_lent : List ℤ
  weights_lent = take (all_of weighted (pairs_of t)) weights

  abbrev flow_lent : List ℤ
  flow_lent = take (pairs_of t) flow

  abbrev image_lent : List ℤ
  image_lent = take (pixels_of t) image

  abbrev work_lent : List ℤ
  work_lent = take (2 * pairs_of t) work

  -- their answer, and what they leave in the image's front; the rest is left
  abbrev pub answer_in : Answer
  answer_in =
      cond flowed
      (check_answer t samples_lent weights_lent flow_lent image_lent)
      (run_answer t r samples_lent weights_lent flow_lent image_lent work_lent)

  abbrev pub image_front : List ℤ
  image_front =
      cond flowed
      (check_image t samples_lent weights_lent flow_lent image_lent)
      (run_image t r samples_lent weights_lent flow_lent image_lent work_lent)

  abbrev pub image_in : List ℤ
  image_in = image_front ++ drop (pixels_of t) image

-- the same of what was read: a job, or a refusal, which asks nothing of the tables
abbrev pub SizeAllowed : Result Job Refusal → Type 0
SizeAllowed (Ok job) = size_allowed job.terms.width job.terms.height ≡ true
SizeAllowed (Err r) = Unit {0}

abbrev pub TablesFor : Result Job Refusal → ℕ → ℕ → ℕ → ℕ → ℕ → Type 0
TablesFor (Ok job) samples weights flow image work = Tables job.terms samples weights flow image work
TablesFor (Err r) samples weights flow image work = Unit {0}

abbrev pub answer_for : Result Job Refusal → List ℕ → List ℤ → List ℤ → List ℤ → List ℤ → Answer
answer_for (Ok job) samples weights flow image work =
    answer_in job.terms job.rounds job.weighted job.flowed samples weights flow image work
answer_for (Err r) samples weights flow image work = refusal (number_of r.reason) r.place

abbrev pub image_for : Result Job Refusal → List ℕ → List ℤ → List ℤ → List ℤ → List ℤ → List ℤ
image_for (Ok job) samples weights flow image work =
    image_in job.terms job.rounds job.weighted job.flowed samples weights flow image work
image_for (Err r) samples weights flow image work = image
