-- The cleaning program: the text that it prints for the bytes that it reads (docs/SPECIFICATION.md, section 7).
use Rattle.std.specs.Prelude.{Bool, true, false, cond, List, ◌++◌, ℕ, ◌*◌, ltb, eqb, ℤ, length}
use Prim.Native.String.{String}
use Rattle.lists.specs.Lists.{at, zeros, chain}
use Rattle.model.specs.Text.{ascii, decimal, signed_decimal}
use Rattle.model.specs.Grid.{Terms, pixel}
use Rattle.model.specs.Calls.{Outcome, refused, checked, settled, spent, Answer, refusal, pixels_of, pairs_of, check_answer, check_image, run_answer, run_image}
use Rattle.model.specs.Tape.{Lent, Progress, Parse, turned, whole, parse}

-- the word of an outcome
abbrev pub word : Outcome → String
word refused = "refused"
word checked = "checked"
word settled = "settled"
word spent = "spent"

-- a number's text with a space in front
abbrev pub field : List ℕ → List ℕ
field digits = ascii " " ++ digits

-- A refusal prints only its number and place (SPECIFICATION 7.5)
unfoldable pub refusal_text : Answer → List ℕ
refusal_text a = ascii "refused " ++ decimal a.number ++ ascii " at " ++ decimal a.place ++ ascii "\n"

-- the numbers of an accepted answer, to the end of their line
abbrev pub numbers_text : ℕ → ℤ → ℤ → ℤ → List ℕ
numbers_text moved price floor slack =
    field (decimal moved)
    ++ field (signed_decimal price)
    ++ field (signed_decimal floor)
    ++ field (signed_decimal slack)
    ++ ascii "\n"

-- The header line and the line of numbers (SPECIFICATION 7.4)
unfoldable pub figures_text : Answer → List ℕ
figures_text a =
    ascii "outcome moved price floor slack\n"
    ++ ascii (word a.outcome)
    ++ numbers_text a.moved a.price a.floor a.slack

-- a row's values, with a space between two
abbrev pub row_text : ℕ → (ℕ → ℤ) → List ℕ
row_text width value =
    chain width (λ column. cond (eqb column 0) (signed_decimal (value column)) (field (signed_decimal (value column))))
    ++ ascii "\n"

-- One line of image values for each row (SPECIFICATION 7.4)
unfoldable pub image_text : Terms → List ℤ → List ℕ
image_text t values =
    chain t.height (λ row. row_text t.width (λ column. at values (pixel t.width row column)))

-- the text of an answer
unfoldable pub answer_text : Answer → Terms → List ℤ → List ℕ
answer_text a t values = elim a.outcome [
  | refused ↦ refusal_text a
  | checked ↦ figures_text a ++ image_text t values
  | settled ↦ figures_text a ++ image_text t values
  | spent ↦ figures_text a ++ image_text t values
]

-- With flow records it checks, else it runs: the job's answer, and the image that it leaves (SPECIFICATION 7.3)
unfoldable pub job_answer : Progress → Answer
job_answer p =
    let t : Terms = p.terms in
    cond (eqb (length p.flow) 0)
    (run_answer t p.rounds p.samples p.weights (zeros (pairs_of t)) (zeros (pixels_of t)) (zeros (2 * pairs_of t)))
    (check_answer t p.samples p.weights p.flow (zeros (pixels_of t)))

unfoldable pub job_image : Progress → List ℤ
job_image p =
    let t : Terms = p.terms in
    cond (eqb (length p.flow) 0)
    (run_image t p.rounds p.samples p.weights (zeros (pairs_of t)) (zeros (pixels_of t)) (zeros (2 * pairs_of t)))
    (check_image t p.samples p.weights p.flow (zeros (pixels_of t)))

-- the text for what was read
abbrev pub read_text : Parse → List ℕ
read_text (turned number place) = refusal_text (refusal number place)
read_text (whole p) = answer_text (job_answer p) p.terms (job_image p)

-- The tables hold 4,096 samples, 8,064 pair weights and 8,064 flow values (SPECIFICATION 7.2)
abbrev pub tables : Bool → Lent
tables followed = record { samples = 4096; weights = 8064; flow = 8064; followed = followed }

-- It reads one tape; 17 over 65,536 bytes (SPECIFICATION 7.1, 7.2)
unfoldable pub program_text : List ℕ → List ℕ
program_text input = elim (ltb 65536 (length input)) [
  | true ↦ refusal_text (refusal 17 0)
  | false ↦ read_text (parse input (tables false))
]
