-- Demand 3 and request F-5, said of the numbers that a call gives and of what the lent buffers hold when it returns
-- (SPECIFICATION 8.4 to 8.8, 8.10).
use Rattle.std.specs.Prelude.{List, ◌↔◌, ◌≡◌, ℕ, ◌+◌, ◌*◌, ◌≤◌, ◌<◌, ℤ, pos, ◌+ℤ◌, ◌*ℤ◌, ◌≤ℤ◌, ◌<ℤ◌}
use Rattle.model.specs.declared.Terms.{Terms}
use Rattle.model.specs.declared.Rounds.{Rounds}
use Rattle.lists.specs.Lists.{at}
use Rattle.model.specs.Problem as Model
use Rattle.model.specs.Problem.{Problem, Feasible, InBox, weight_sum, distance, divided, times}
use Rattle.model.specs.Grid.{grid}
use Rattle.model.specs.Calls as Calls
use Rattle.model.specs.Calls.{Answer, quick_flow}

-- x is the image of flow f, and price, floor and slack are those that document 01 defines for them (SPECIFICATION 8.4)
pub record HasFigures (p : Problem) (f x : ℕ → ℤ) (price floor slack : ℤ) : Type 0 where
  pub images : (i : ℕ) → i < p.pixels → x i ≡ Model.image p f i
  pub prices : price ≡ Model.price p x
  pub floors : floor ≡ Model.floor p f
  pub slacks : slack ≡ Model.slack p f

-- Images x and y of slack s and r: 2 × squared distance ≤ sum of the slacks, and where both slacks are 0 the images are equal
-- (a primal distance bounded by two duality gaps) (SPECIFICATION 8.10)
pub record WithinSlacks (p : Problem) (x y : ℕ → ℤ) (s r : ℤ) : Type 0 where
  pub near : (pos 2 *ℤ distance p x y) ≤ℤ (s +ℤ r)
  pub equal : s ≡ pos 0 → r ≡ pos 0 → (i : ℕ) → i < p.pixels → x i ≡ y i

-- Image x, of this price, against every image y of the box: returned price + squared distance ≤ other price + slack; and
-- at slack 0 the two are equal exactly when their prices are (an optimality certificate) (SPECIFICATION 8.4, 8.5). And
-- against the image of every other flow g within the weights, with the slack of g (SPECIFICATION 8.10)
pub record Certified (p : Problem) (x : ℕ → ℤ) (price slack : ℤ) : Type 0 where
  pub close : (y : ℕ → ℤ) → InBox p y → (price +ℤ distance p x y) ≤ℤ (Model.price p y +ℤ slack)
  pub exact :
      (y : ℕ → ℤ) → InBox p y → slack ≡ pos 0 →
      (price ≡ Model.price p y) ↔ ((i : ℕ) → i < p.pixels → x i ≡ y i)
  pub others : (g : ℕ → ℤ) → Feasible p g → WithinSlacks p x (Model.image p g) slack (Model.slack p g)

-- The certificate of an answer, of the flow and the image in the buffers: the flow is within the weights, and the image is
-- certified on the grid itself, and on every whole division k of it, where the image is k times as large, and price, floor
-- and slack are k² times as large (SPECIFICATION 8.4, 8.6, 8.10)
pub record Certificate (p : Problem) (flow image : List ℤ) (a : Answer) : Type 0 where
  pub within : Feasible p (at flow)
  pub figures : HasFigures p (at flow) (at image) a.price a.floor a.slack
  pub here : Certified p (at image) a.price a.slack
  pub scaled :
      (k : ℕ) → 1 ≤ k →
      HasFigures (divided k p) (times k (at flow)) (times k (at image)) (pos (k * k) *ℤ a.price) (pos (k * k) *ℤ a.floor)
      (pos (k * k) *ℤ a.slack)
  pub divisions :
      (k : ℕ) → 1 ≤ k →
      Certified (divided k p) (times k (at image)) (pos (k * k) *ℤ a.price) (pos (k * k) *ℤ a.slack)

-- Demand 3 for check: the certificate of the flow that it was lent and of the image that it leaves (SPECIFICATION 8.4)
abbrev pub CheckDemand : Terms → List ℕ → List ℤ → List ℤ → List ℤ → Answer → Type 0
CheckDemand t samples weights flow image a = Certificate (grid t samples weights) flow image a

-- Demand 3 for run: the certificate of the flow and the image that it leaves; 8 × moved is at most the slack of the flow
-- that the quick rounds leave; a run settles whenever 2 × (allowance + 1) exceeds that slack, as request F-1 has it, and
-- already when 8 × (allowance + 1) does; and a settled run's slack is at most 16 × the sum of the weights (SPECIFICATION 8.7,
-- 8.8), which without a weight buffer is weight × pairs (`uniform_sum` of model/proofs/Weights.antt)
pub record RunDemand (t : Terms) (r : Rounds) (samples : List ℕ) (weights flow image : List ℤ) (a : Answer) : Type 0 where
  pub certificate : Certificate (grid t samples weights) flow image a
  pub moved : pos (8 * a.moved) ≤ℤ Model.slack (grid t samples weights) (at (quick_flow t r samples weights))
  pub settles :
      Model.slack (grid t samples weights) (at (quick_flow t r samples weights)) <ℤ pos (2 * (r.allowance + 1)) →
      a.outcome ≡ Calls.settled
  pub settles_sooner :
      Model.slack (grid t samples weights) (at (quick_flow t r samples weights)) <ℤ pos (8 * (r.allowance + 1)) →
      a.outcome ≡ Calls.settled
  pub settled : a.outcome ≡ Calls.settled → a.slack ≤ℤ (pos 16 *ℤ weight_sum (grid t samples weights))

-- Two accepted calls for one problem, each a check or a run, with flows f and g, images x and y in the buffers and answers a
-- and b: the images are within their slacks, on the grid and on every whole division k, where the squared distance, as each
-- slack (by its certificate), is k² times as large (SPECIFICATION 8.10)
pub record TwoFlows (p : Problem) (f g x y : List ℤ) (a b : Answer) : Type 0 where
  pub one : Certificate p f x a
  pub other : Certificate p g y b
  pub here : WithinSlacks p (at x) (at y) a.slack b.slack
  pub grown :
      (k : ℕ) → 1 ≤ k →
      distance (divided k p) (times k (at x)) (times k (at y)) ≡ pos (k * k) *ℤ distance p (at x) (at y)
  pub divisions :
      (k : ℕ) → 1 ≤ k →
      WithinSlacks (divided k p) (times k (at x)) (times k (at y)) (pos (k * k) *ℤ a.slack)
      (pos (k * k) *ℤ b.slack)
