-- What rounds ask: an allowed job, buffers of its lengths, and numbers within the limits that the rounds keep.
use Rattle.std.specs.Prelude.{List, ◌≡◌, ℕ, ◌*◌, ◌-◌, ◌^◌, ◌≤◌, ◌<◌, ℤ, length}
use Rattle.model.specs.declared.Terms.{Terms}
use Rattle.model.specs.Grid.{limit, grid_pairs}
use Rattle.model.specs.Rounds.{Quick}
use Rattle.model.specs.Accepted.{TermsAllowed, WeightsAllowed}
use Rattle.stencil.specs.Limits.{most}
use Rattle.passes.specs.Limits.{Within}

-- the lengths of the buffers
pub record JobLengths (t : Terms) (samples : List ℕ) (flow image : List ℤ) : Type 0 where
  pub samples_length : length samples ≡ t.width * t.height
  pub flow_length : length flow ≡ length (grid_pairs t.width t.height)
  pub image_length : length image ≡ t.width * t.height

-- before a quick round: the flow P, the numbers ahead R, and T
pub record QuickReady (t : Terms) (samples : List ℕ) (weights flow ahead image : List ℤ) (momentum : ℕ) : Type 0 where
  pub limits : TermsAllowed t
  pub pair_weights : WeightsAllowed t weights
  pub lengths : JobLengths t samples flow image
  pub same_length : length flow ≡ length ahead
  pub flow_most : Within limit.weight flow
  pub ahead_most : Within most ahead
  pub momentum_least : 65536 ≤ momentum
  pub momentum_most : momentum < 2 ^ 29 - 65536

-- the state that the buffers hold
abbrev pub held : List ℤ → List ℤ → ℕ → Quick
held flow ahead momentum = record { iterate = flow; extrapolated = ahead; momentum = momentum }

-- before all quick rounds: an allowed number of them, and a work buffer of two halves
pub record QuickJob (t : Terms) (quick : ℕ) (samples : List ℕ) (weights flow image work : List ℤ) : Type 0 where
  pub limits : TermsAllowed t
  pub pair_weights : WeightsAllowed t weights
  pub lengths : JobLengths t samples flow image
  pub quick_most : quick ≤ limit.quick
  pub work_length : length work ≡ 2 * length flow

-- before steady rounds: a flow within the limit of weights
pub record SteadyReady (t : Terms) (samples : List ℕ) (weights flow image : List ℤ) : Type 0 where
  pub limits : TermsAllowed t
  pub pair_weights : WeightsAllowed t weights
  pub lengths : JobLengths t samples flow image
  pub flow_most : Within limit.weight flow
