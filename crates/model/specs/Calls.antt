-- The calls check, price and run: where each turns back, its answer, and what it leaves in each lent buffer. `Rounds`,
-- declared in src/lib.rt, are the other numbers of a job: quick rounds and the allowance of steady rounds
-- (docs/SPECIFICATION.md, sections 4 and 6).
use Rattle.std.specs.Prelude.{Bool, not, ◌||◌, cond, List, [], ◌∷◌, ℕ, ◌*◌, eqb, ltb, ℤ, pos, nat_abs, length}
use Rattle.std.specs.Int.Signed.{lt_z}
pub use Rattle.model.specs.declared.Rounds.{Rounds}
use Rattle.lists.specs.Lists.{at, zeros, table, first_where}
use Rattle.model.specs.Problem.{image, price, floor, slack}
use Rattle.model.specs.Grid.{limit, Terms, size_allowed, weight_allowed, pair_weight_allowed, weight_of, box_allowed, grid_pairs, grid, low_end, high_end}
use Rattle.model.specs.Rounds.{eighth, nearest_eighth, quick_rounds, Steady, steady_rounds}
use Rattle.model.specs.Verdict.{Verdict, Row, row, first_refusal, decided, left}

-- How a call ended (SPECIFICATION 4.4)
pub data Outcome : Type 0 where
  refused checked settled spent : Outcome

-- What check, price and run give. Accepted: number and place are 0. Refused: zeros but for number and place
-- (SPECIFICATION 4.3, 4.4)
pub record Answer : Type 0 where
  pub outcome : Outcome
  pub number : ℕ
  pub place : ℕ
  pub moved : ℕ
  pub price : ℤ
  pub floor : ℤ
  pub slack : ℤ

abbrev pub refusal : ℕ → ℕ → Answer
refusal n p =
    record { outcome = refused; number = n; place = p; moved = 0; price = pos 0; floor = pos 0; slack = pos 0 }

abbrev pub figures : Outcome → ℕ → ℤ → ℤ → ℤ → Answer
figures o m p f s = record { outcome = o; number = 0; place = 0; moved = m; price = p; floor = f; slack = s }

-- The size of a job in pixels and in pairs (SPECIFICATION 1.2, 1.8)
abbrev pub pixels_of : Terms → ℕ
pixels_of t = t.width * t.height

abbrev pub pairs_of : Terms → ℕ
pairs_of t = length (grid_pairs t.width t.height)

-- Terms: 1 size; 2 weight; 3 low above high; 10 quick rounds over 4,096. The place is 0 in a call, the record's offset in a
-- tape (SPECIFICATION 6.2, 6.3)
abbrev pub size_row : Terms → ℕ → Row
size_row t place = row (not (size_allowed t.width t.height)) 1 place

abbrev pub weight_row : ℕ → ℕ → Row
weight_row weight place = row (not (weight_allowed weight)) 2 place

abbrev pub box_row : Terms → ℕ → Row
box_row t place = row (not (box_allowed t.low t.high)) 3 place

abbrev pub rounds_row : Rounds → ℕ → Row
rounds_row r place = row (ltb limit.quick r.quick) 10 place

-- So many of something that comes for all pairs or for none, and not a part of it (SPECIFICATION 5.3, 6.2)
abbrev pub all_or_none : ℕ → ℕ → Bool
all_or_none count pairs = eqb count 0 || eqb count pairs

-- Lent lengths, which must be exact: 4 samples; 5 flow; 6 image; 7 work (SPECIFICATION 6.2)
abbrev pub exact_row : ℕ → ℕ → ℕ → Row
exact_row number lent due = row (not (eqb lent due)) number 0

abbrev pub length_row : {A : Type 0} → ℕ → List A → ℕ → Row
length_row number buffer due = exact_row number (length buffer) due

-- .. or, of a buffer that need not be lent, exact or 0: 19 weights; 5 the flow to be written
abbrev pub wrong_length : ℕ → ℕ → Bool
wrong_length lent due = not (all_or_none lent due)

abbrev pub exact_or_none_row : ℕ → ℕ → ℕ → Row
exact_or_none_row number lent due = row (wrong_length lent due) number 0

abbrev pub optional_row : {A : Type 0} → ℕ → List A → ℕ → Row
optional_row number buffer due = exact_or_none_row number (length buffer) due

-- Contents: 2 pair weight below 0 or over the limit, 8 flow number beyond ± its pair's weight, 9 image value outside the box; the
-- place is the first index (SPECIFICATION 6.2, 6.3)
unfoldable pub first_over : List ℤ → ℕ
first_over weights = first_where (length weights) (λ j. not (pair_weight_allowed (at weights j)))

unfoldable pub first_beyond : (ℕ → ℕ) → List ℤ → ℕ
first_beyond weight flow = first_where (length flow) (λ j. ltb (weight j) (nat_abs (at flow j)))

unfoldable pub first_outside : Terms → List ℤ → ℕ
first_outside t values =
    first_where (length values) (λ i. lt_z (at values i) (low_end t.low) || lt_z (high_end t.high) (at values i))

abbrev pub pair_weights_row : List ℤ → Row
pair_weights_row weights = row (ltb (first_over weights) (length weights)) 2 (first_over weights)

abbrev pub flow_row : (ℕ → ℕ) → List ℤ → Row
flow_row weight flow = row (ltb (first_beyond weight flow) (length flow)) 8 (first_beyond weight flow)

abbrev pub image_row : Terms → List ℤ → Row
image_row t values = row (ltb (first_outside t values) (length values)) 9 (first_outside t values)

-- The image and the figures of a flow of this job; weights have no part in an image (SPECIFICATION 2.5, 4.5)
unfoldable pub image_of : Terms → List ℕ → List ℤ → List ℤ
image_of t samples flow = table (pixels_of t) (image (grid t samples []) (at flow))

unfoldable pub figures_of : Outcome → ℕ → Terms → List ℕ → List ℤ → List ℤ → Answer
figures_of o moved t samples weights flow =
    figures o moved (price (grid t samples weights) (image (grid t samples weights) (at flow))) (floor (grid t samples weights) (at flow))
    (slack (grid t samples weights) (at flow))

-- Check judges a given flow and fills the image (SPECIFICATION 4.5, 6.4)
unfoldable pub check_verdict : Terms → List ℕ → List ℤ → List ℤ → List ℤ → Verdict
check_verdict t samples weights flow values =
    first_refusal
    (size_row t 0
    ∷ weight_row t.weight 0
    ∷ box_row t 0
    ∷ length_row 4 samples (pixels_of t)
    ∷ length_row 5 flow (pairs_of t)
    ∷ optional_row 19 weights (pairs_of t)
    ∷ length_row 6 values (pixels_of t)
    ∷ pair_weights_row weights
    ∷ flow_row (weight_of t weights) flow
    ∷ [])

unfoldable pub check_answer : Terms → List ℕ → List ℤ → List ℤ → List ℤ → Answer
check_answer t samples weights flow values =
    decided (check_verdict t samples weights flow values) (figures_of checked 0 t samples weights flow) refusal

unfoldable pub check_image : Terms → List ℕ → List ℤ → List ℤ → List ℤ → List ℤ
check_image t samples weights flow values = left (check_verdict t samples weights flow values) (image_of t samples flow) values

-- Price judges a given image, and gives floor and slack as 0 (SPECIFICATION 4.6, 6.4)
unfoldable pub price_verdict : Terms → List ℕ → List ℤ → List ℤ → Verdict
price_verdict t samples weights values =
    first_refusal
    (size_row t 0
    ∷ weight_row t.weight 0
    ∷ box_row t 0
    ∷ length_row 4 samples (pixels_of t)
    ∷ optional_row 19 weights (pairs_of t)
    ∷ length_row 6 values (pixels_of t)
    ∷ pair_weights_row weights
    ∷ image_row t values
    ∷ [])

abbrev pub price_figures : Terms → List ℕ → List ℤ → List ℤ → Answer
price_figures t samples weights values = figures checked 0 (price (grid t samples weights) (at values)) (pos 0) (pos 0)

unfoldable pub price_answer : Terms → List ℕ → List ℤ → List ℤ → Answer
price_answer t samples weights values =
    decided (price_verdict t samples weights values) (price_figures t samples weights values) refusal

-- Run does the rounds and fills flow and image (SPECIFICATION 4.7, 6.4). The flow that its quick rounds leave (3.7), and how
-- its steady rounds end (3.11):
unfoldable pub quick_flow : Terms → Rounds → List ℕ → List ℤ → List ℤ
quick_flow t r samples weights = (quick_rounds eighth (grid t samples weights) r.quick).iterate

unfoldable pub ending : Terms → Rounds → List ℕ → List ℤ → Steady
ending t r samples weights = steady_rounds nearest_eighth (grid t samples weights) r.allowance (quick_flow t r samples weights)

unfoldable pub run_verdict : Terms → Rounds → List ℕ → List ℤ → List ℤ → List ℤ → List ℤ → Verdict
run_verdict t r samples weights flow values work =
    first_refusal
    (size_row t 0
    ∷ weight_row t.weight 0
    ∷ box_row t 0
    ∷ rounds_row r 0
    ∷ length_row 4 samples (pixels_of t)
    ∷ length_row 5 flow (pairs_of t)
    ∷ optional_row 19 weights (pairs_of t)
    ∷ length_row 6 values (pixels_of t)
    ∷ length_row 7 work (2 * pairs_of t)
    ∷ pair_weights_row weights
    ∷ [])

unfoldable pub run_answer : Terms → Rounds → List ℕ → List ℤ → List ℤ → List ℤ → List ℤ → Answer
run_answer t r samples weights flow values work =
    let e : Steady = ending t r samples weights in
    decided (run_verdict t r samples weights flow values work)
    (figures_of (cond e.settled settled spent) e.moved t samples weights e.flow)
    refusal

unfoldable pub run_flow : Terms → Rounds → List ℕ → List ℤ → List ℤ → List ℤ → List ℤ → List ℤ
run_flow t r samples weights flow values work = left (run_verdict t r samples weights flow values work) (ending t r samples weights).flow flow

unfoldable pub run_image : Terms → Rounds → List ℕ → List ℤ → List ℤ → List ℤ → List ℤ → List ℤ
run_image t r samples weights flow values work =
    left (run_verdict t r samples weights flow values work) (image_of t samples (ending t r samples weights).flow) values

-- The work buffer holds only zeros after an accepted run (SPECIFICATION 4.7)
unfoldable pub run_work : Terms → Rounds → List ℕ → List ℤ → List ℤ → List ℤ → List ℤ → List ℤ
run_work t r samples weights flow values work =
    left (run_verdict t r samples weights flow values work) (zeros (2 * pairs_of t)) work
