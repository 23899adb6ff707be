-- What check, price and run give and leave, by their verdict: document 01's figures and buffers where it accepts, a refusal
-- and the former buffers where it refuses. Assumes nothing.
use mathlib.Core.Path.{◌≡◌, refl, ap, ◌∙◌}
use mathlib.Core.Bool.{cond}
use mathlib.Core.List.{List, []}
use Prim.Native.Nat.{ℕ, ◌*◌, ◌<◌}
use lib.IntN.{ℤ, pos}
use Rattle.lists.specs.Lists.{at, zeros}
use Rattle.model.specs.Problem.{pull, image}
use Rattle.model.specs.Grid.{Terms, grid}
use Rattle.model.specs.Verdict.{Verdict, decided, left}
use Rattle.model.specs.Calls.{Rounds, Answer, refusal, checked, settled, spent, pixels_of, pairs_of, image_of, figures_of, check_verdict, check_answer, check_image, price_verdict, price_figures, price_answer, ending, run_verdict, run_answer, run_flow, run_image, run_work}
use Rattle.lists.proofs.Tables.{get_or-table}

module _ (t : Terms) (samples : List ℕ) (weights flow values : List ℤ) {v : Verdict} (h : check_verdict t samples weights flow values ≡ v) where
  pub check_answer_lem : check_answer t samples weights flow values ≡ decided v (figures_of checked 0 t samples weights flow) refusal
  unfolding check_answer
  check_answer_lem = ap (λ (x : Verdict). decided x (figures_of checked 0 t samples weights flow) refusal) h

  pub check_image_lem : check_image t samples weights flow values ≡ left v (image_of t samples flow) values
  unfolding check_image
  check_image_lem = ap (λ (x : Verdict). left x (image_of t samples flow) values) h

module _ (t : Terms) (samples : List ℕ) (weights values : List ℤ) {v : Verdict} (h : price_verdict t samples weights values ≡ v) where
  pub price-answer : price_answer t samples weights values ≡ decided v (price_figures t samples weights values) refusal
  unfolding price_answer
  price-answer = ap (λ (x : Verdict). decided x (price_figures t samples weights values) refusal) h

-- the figures of an accepted run
abbrev pub run_figures : Terms → Rounds → List ℕ → List ℤ → Answer
run_figures t r samples weights =
    figures_of (cond (ending t r samples weights).settled settled spent) (ending t r samples weights).moved t samples weights (ending t r samples weights).flow

module _ (t : Terms) (r : Rounds) (samples : List ℕ) (weights flow values work : List ℤ) {v : Verdict} (h : run_verdict t r samples weights flow values work ≡ v) where
  pub run-answer : run_answer t r samples weights flow values work ≡ decided v (run_figures t r samples weights) refusal
  unfolding run_answer
  run-answer = ap (λ (x : Verdict). decided x (run_figures t r samples weights) refusal) h

  pub run-flow : run_flow t r samples weights flow values work ≡ left v (ending t r samples weights).flow flow
  unfolding run_flow
  run-flow = ap (λ (x : Verdict). left x (ending t r samples weights).flow flow) h

  pub run-image : run_image t r samples weights flow values work ≡ left v (image_of t samples (ending t r samples weights).flow) values
  unfolding run_image
  run-image = ap (λ (x : Verdict). left x (image_of t samples (ending t r samples weights).flow) values) h

  pub run-work : run_work t r samples weights flow values work ≡ left v (zeros (2 * pairs_of t)) work
  unfolding run_work
  run-work = ap (λ (x : Verdict). left x (zeros (2 * pairs_of t)) work) h

-- a buffer that holds the image of a flow, pixel by pixel, whatever the weights
pub held-image : (t : Terms) (samples : List ℕ) (weights flow : List ℤ) {values : List ℤ} → values ≡ image_of t samples flow →
    (i : ℕ) → i < pixels_of t → at values i ≡ image (grid t samples weights) (at flow) i
unfolding image_of image pull
held-image t samples weights flow e i l =
    ap (λ (x : List ℤ). at x i) e ∙ get_or-table (pixels_of t) (image (grid t samples []) (at flow)) i (pos 0) l ∙ unweighted
  where
    unweighted : image (grid t samples []) (at flow) i ≡ image (grid t samples weights) (at flow) i
    unweighted = refl
