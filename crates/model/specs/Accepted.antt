-- What an accepted call has been lent: allowed terms, exact lengths and allowed contents, in the words of demand 2. That
-- a call is accepted exactly when this holds stands in the calls' promises (proved in proofs/Accepted.antt; of the tape in
-- crate `roundtrip`). The records are the points of SPECIFICATION 8.3.
use Rattle.std.specs.Prelude.{List, ◌⊎◌, ◌≡◌, ℕ, ◌*◌, ◌≤◌, ◌<◌, ℤ, pos, nat_abs, length, ◌≤ℤ◌}
use Rattle.lists.specs.Lists.{at}
use Rattle.model.specs.Grid.{Terms, limit, weight_of, low_end, high_end}
use Rattle.model.specs.Calls.{Rounds, pixels_of, pairs_of}
use Rattle.model.specs.Tape.{tape_of}

-- Terms: width and height each 1 to 4,096, their product at most 1,048,576; weight 0 to 65,280; low at most high
pub record TermsAllowed (t : Terms) : Type 0 where
  pub width_least : 1 ≤ t.width
  pub width_most : t.width ≤ limit.side
  pub height_least : 1 ≤ t.height
  pub height_most : t.height ≤ limit.side
  pub pixels_most : t.width * t.height ≤ limit.pixels
  pub weight_most : t.weight ≤ limit.weight
  pub box : t.low ≤ t.high

-- Pair weights: none lent, or one for each pair, each 0 to 65,280
pub record WeightsAllowed (t : Terms) (weights : List ℤ) : Type 0 where
  pub count : (length weights ≡ 0) ⊎ (length weights ≡ pairs_of t)
  pub range : (j : ℕ) → j < length weights → (pos 0 ≤ℤ at weights j) × (at weights j ≤ℤ pos limit.weight)

-- Check: no value of the flow exceeds its pair's weight in size (a feasible dual point)
pub record CheckAllowed (t : Terms) (samples : List ℕ) (weights flow values : List ℤ) : Type 0 where
  pub terms : TermsAllowed t
  pub pair_weights : WeightsAllowed t weights
  pub samples_length : length samples ≡ pixels_of t
  pub flow_length : length flow ≡ pairs_of t
  pub image_length : length values ≡ pixels_of t
  pub contents : (j : ℕ) → j < length flow → nat_abs (at flow j) ≤ weight_of t weights j

-- Price: every value of the image lies within the box (a feasible primal point)
pub record PriceAllowed (t : Terms) (samples : List ℕ) (weights values : List ℤ) : Type 0 where
  pub terms : TermsAllowed t
  pub pair_weights : WeightsAllowed t weights
  pub samples_length : length samples ≡ pixels_of t
  pub image_length : length values ≡ pixels_of t
  pub contents :
      (i : ℕ) → i < length values → (low_end t.low ≤ℤ at values i) × (at values i ≤ℤ high_end t.high)

-- Run: quick rounds 0 to 4,096; of the buffers that it fills only the lengths count
pub record RunAllowed (t : Terms) (r : Rounds) (samples : List ℕ) (weights flow values work : List ℤ) : Type 0 where
  pub terms : TermsAllowed t
  pub pair_weights : WeightsAllowed t weights
  pub quick_most : r.quick ≤ limit.quick
  pub samples_length : length samples ≡ pixels_of t
  pub flow_length : length flow ≡ pairs_of t
  pub image_length : length values ≡ pixels_of t
  pub work_length : length work ≡ 2 * pairs_of t

-- A job to be written: a sample for each pixel, and a number for each pair or none, no value of which exceeds its pair's
-- weight in size
pub record JobAllowed (t : Terms) (r : Rounds) (samples : List ℕ) (weights numbers : List ℤ) : Type 0 where
  pub terms : TermsAllowed t
  pub pair_weights : WeightsAllowed t weights
  pub quick_most : r.quick ≤ limit.quick
  pub samples_length : length samples ≡ pixels_of t
  pub flow_length : (length numbers ≡ 0) ⊎ (length numbers ≡ pairs_of t)
  pub contents : (j : ℕ) → j < length numbers → nat_abs (at numbers j) ≤ weight_of t weights j

-- Write: such a job, and an output that holds its tape
pub record WriteAllowed (t : Terms) (r : Rounds) (samples : List ℕ) (weights numbers : List ℤ) (output : List ℕ) : Type 0 where
  pub job : JobAllowed t r samples weights numbers
  pub output_length : length (tape_of t r samples weights numbers) ≤ length output

-- Read: the tape of such a job, whose allowance is 0 to 65,535 (elsewhere its type says so), a sample buffer that holds all its
-- samples, and a weight buffer and a flow buffer that each hold a number for every pair
pub record ReadAllowed (tape samples : List ℕ) (weights flow : List ℤ) : Type 0 where
  pub terms : Terms
  pub rounds : Rounds
  pub codes : List ℕ
  pub own : List ℤ
  pub numbers : List ℤ
  pub bytes : tape ≡ tape_of terms rounds codes own numbers
  pub job : JobAllowed terms rounds codes own numbers
  pub allowance_most : rounds.allowance ≤ 65535
  pub samples_length : pixels_of terms ≤ length samples
  pub weights_length : pairs_of terms ≤ length weights
  pub flow_length : pairs_of terms ≤ length flow
