-- What the passes under the figures ask: an allowed job, its lengths, and an image of its box or of its flow.
use Rattle.std.specs.Prelude.{cond, ◌≡◌, List, ℕ, eqb, ℤ, length}
use Rattle.model.specs.declared.Terms.{Terms}
use Rattle.lists.specs.Lists.{at}
use Rattle.model.specs.Problem.{Feasible, InBox}
use Rattle.model.specs.Grid.{grid}
use Rattle.model.specs.Calls.{pixels_of, pairs_of, image_of}
use Rattle.model.specs.Accepted.{TermsAllowed, WeightsAllowed}

-- the factor of the variation in a price: the terms' weight where no weights are lent (each fall then counts once in it), else 1
abbrev pub scale_of : ℕ → List ℤ → ℕ
scale_of weight weights = cond (eqb (length weights) 0) weight 1

-- price: an image of the box
pub record PriceReady (t : Terms) (samples : List ℕ) (weights values : List ℤ) : Type 0 where
  pub terms : TermsAllowed t
  pub pair_weights : WeightsAllowed t weights
  pub samples_length : length samples ≡ pixels_of t
  pub image_length : length values ≡ pixels_of t
  pub inside : InBox (grid t samples weights) (at values)

-- check and run: a flow within the weights, and its image
pub record FlowReady (t : Terms) (samples : List ℕ) (weights flow values : List ℤ) : Type 0 where
  pub terms : TermsAllowed t
  pub pair_weights : WeightsAllowed t weights
  pub samples_length : length samples ≡ pixels_of t
  pub flow_length : length flow ≡ pairs_of t
  pub feasible : Feasible (grid t samples weights) (at flow)
  pub image : values ≡ image_of t samples flow
