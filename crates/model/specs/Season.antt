-- The season report: the text that it prints for tapes that follow one another (docs/SPECIFICATION.md, section 10).
use Rattle.std.specs.Prelude.{Bool, true, false, cond, List, [], ◌∷◌, ◌++◌, ◌≡◌, ℕ, zero, suc, ◌+◌, ◌/◌, ◌%◌, max, eqb, ltb, nat_abs, length, get_or, take, drop}
use Prim.Native.String.{String}
pub use Rattle.model.specs.declared.Totals.{Totals}
use Rattle.lists.specs.Lists.{first_where, overwritten}
use Rattle.model.specs.Text.{ascii, decimal}
use Rattle.model.specs.Verdict.{Verdict, Accept, Refuse}
use Rattle.model.specs.Calls.{Outcome, refused, checked, settled, spent, Answer, refusal, pixels_of}
use Rattle.model.specs.Tape.{Lent, Progress, Parse, turned, whole, parse, too_short, tape_of}
use Rattle.model.specs.Program.{field, refusal_text, job_answer, tables}

-- ---- The jobs of a season

-- 17 in place of a reading that finds the job's first 65,536 bytes too short, where the input goes past them
abbrev pub too_long : Parse → Parse
too_long (turned number place) = cond (too_short number) (turned 17 0) (turned number place)
too_long (whole p) = whole p

-- The job at the front of the input: read as a tape is, but that more may follow its end (SPECIFICATION 10.3, 10.4)
unfoldable pub first_job : Lent → List ℕ → Parse
first_job lent input = elim (ltb 65536 (length input)) [
  | true ↦ too_long (parse (take 65536 input) lent)
  | false ↦ parse input lent
]

-- how many bytes a job has
unfoldable pub bytes_of : Progress → ℕ
bytes_of p = length (tape_of p.terms p.rounds p.samples p.weights p.flow)

-- A job that was treated: its pixels, and the answer that the cleaning program gives. (A job that was read whole is refused
-- by no call any more; this is proved: `whole-accepted` in `job/proofs/Accepts`.)
pub record Treated : Type 0 where
  pub pixels : ℕ
  pub answer : Answer

abbrev pub treated : Progress → Treated
treated p = record { pixels = pixels_of p.terms; answer = job_answer p }

-- A season: the jobs treated, and whether another one behind them was refused, with its number and place
pub record Season : Type 0 where
  pub jobs : List Treated
  pub ending : Verdict

abbrev pub ended : Verdict → Season
ended v = record { jobs = []; ending = v }

abbrev pub followed_by : Treated → Season → Season
followed_by job s = record { jobs = job ∷ s.jobs; ending = s.ending }

-- At most so many jobs, one behind the other, to the input's end or a refusal (SPECIFICATION 10.2, 10.5)
unfoldable pub season_from : Lent → ℕ → List ℕ → Season
season_from lent zero input = ended Accept
season_from lent (suc n) input = elim (eqb (length input) 0) [
  | true ↦ ended Accept
  | false ↦
      elim (first_job lent input) [
        | turned number place ↦ ended (Refuse number place)
        | whole p ↦ followed_by (treated p) (season_from lent n (drop (bytes_of p) input))
      ]
]

-- ---- The report

-- a sum over jobs
unfoldable pub sum_over : (Treated → ℕ) → List Treated → ℕ
sum_over f [] = 0
sum_over f (job ∷ jobs) = f job + sum_over f jobs

-- 1 for a job that ended so, else 0
abbrev pub settled_one : Outcome → ℕ
settled_one refused = 0
settled_one checked = 0
settled_one settled = 1
settled_one spent = 0

abbrev pub spent_one : Outcome → ℕ
spent_one refused = 0
spent_one checked = 0
spent_one settled = 0
spent_one spent = 1

abbrev pub checked_one : Outcome → ℕ
checked_one refused = 0
checked_one checked = 1
checked_one settled = 0
checked_one spent = 0

-- a job's slack, which is never negative
abbrev pub slack_of : Treated → ℕ
slack_of job = nat_abs job.answer.slack

unfoldable pub largest_slack : List Treated → ℕ
largest_slack [] = 0
largest_slack (job ∷ jobs) = max (slack_of job) (largest_slack jobs)

-- whether job i, counted from 0, has this slack
abbrev pub has_slack : List Treated → ℕ → ℕ → Bool
has_slack jobs slack i = eqb (slack_of (get_or jobs i (record { pixels = 0; answer = refusal 0 0 }))) slack

-- the first job, counted from 1, that has the largest slack; 0 where there is none
unfoldable pub first_largest : List Treated → ℕ
first_largest [] = 0
first_largest (job ∷ jobs) = suc (first_where (length (job ∷ jobs)) (has_slack (job ∷ jobs) (largest_slack (job ∷ jobs))))

-- The numbers of the report (`Totals`, declared in src/lib.rt) (SPECIFICATION 10.6)
abbrev pub totals_of : List Treated → Totals
totals_of jobs =
    record {
      jobs = length jobs;
      pixels = sum_over (λ j. j.pixels) jobs;
      settled = sum_over (λ j. settled_one j.answer.outcome) jobs;
      spent = sum_over (λ j. spent_one j.answer.outcome) jobs;
      checked = sum_over (λ j. checked_one j.answer.outcome) jobs;
      total = sum_over slack_of jobs;
      largest = largest_slack jobs;
      first = first_largest jobs;
    }

-- ---- The text

-- a line: a word and one number, or two
abbrev pub line : String → ℕ → List ℕ
line name n = ascii name ++ field (decimal n) ++ ascii "\n"

abbrev pub line_of_two : String → ℕ → ℕ → List ℕ
line_of_two name m n = ascii name ++ field (decimal m) ++ field (decimal n) ++ ascii "\n"

-- slack per pixel, as a whole quotient and its remainder; zeros where there is no pixel
abbrev pub mean_line : ℕ → ℕ → List ℕ
mean_line total zero = line_of_two "mean" 0 0
mean_line total (suc pixels) = line_of_two "mean" (total / suc pixels) (total % suc pixels)

-- One line each (SPECIFICATION 10.6, 10.7)
unfoldable pub totals_text : Totals → List ℕ
totals_text t =
    line "jobs" t.jobs
    ++ line "pixels" t.pixels
    ++ line "settled" t.settled
    ++ line "spent" t.spent
    ++ line "checked" t.checked
    ++ line "total" t.total
    ++ line_of_two "largest" t.largest t.first
    ++ mean_line t.total t.pixels

-- a refused job's line: its number, counted from 1, then as the cleaning program has it (SPECIFICATION 10.8)
unfoldable pub ending_text : ℕ → Verdict → List ℕ
ending_text jobs Accept = []
ending_text jobs (Refuse number place) = ascii "job" ++ field (decimal (jobs + 1)) ++ ascii " " ++ refusal_text (refusal number place)

-- the text for what the jobs come to and how the season ends
abbrev pub report_text : Totals → Verdict → List ℕ
report_text t v = totals_text t ++ ending_text t.jobs v

-- It ends after 65,535 jobs, and has the cleaning program's tables (SPECIFICATION 10.1, 10.2)
unfoldable pub season_text : List ℕ → List ℕ
season_text input = let s : Season = season_from (tables true) 65535 input in report_text (totals_of s.jobs) s.ending

-- ---- What the program prints

-- bytes that may follow those read: none where the input had ended
abbrev pub Follows : Bool → List ℕ → Type 0
Follows ended rest = ended ≡ true → rest ≡ []

-- The text stands at the front of the output, and counts so many bytes: that of some input, and, unless that had ended, of
-- every input that begins with it. Which input, this leaves open: the text of any season meets it (DECISIONS 54)
pub record TextOf (former : List ℕ) (count : ℕ) (output : List ℕ) : Type 0 where
  pub input : List ℕ
  pub ended : Bool
  pub counted : (rest : List ℕ) → Follows ended rest → count ≡ length (season_text (input ++ rest))
  pub laid : (rest : List ℕ) → Follows ended rest → output ≡ overwritten (season_text (input ++ rest)) former
