-- What is shown of an answer and an image, whatever the buffers that a call fills held before: only their lengths count.
-- Assumes nothing.
use mathlib.Core.Path.{◌≡◌, refl, ap, ◌∙◌}
use mathlib.Core.Bool.{cond}
use mathlib.Core.List.{List}
use Prim.Native.Nat.{ℕ}
use lib.IntN.{ℤ}
use lib.ListN.{length}
use Rattle.model.specs.declared.Terms.{Terms}
use Rattle.model.specs.declared.Rounds.{Rounds}
use Rattle.model.specs.Verdict.{Verdict, Accept, Refuse, decided, left}
use Rattle.model.specs.Rounds.{Steady}
use Rattle.model.specs.Calls.{Answer, checked, settled, spent, refusal, image_of, figures_of, ending, check_verdict, check_answer, check_image, run_verdict, run_answer, run_image}

-- of a refusal the image is not shown
pub record Shows {X : Type 0} (shown : Answer → List ℤ → X) : Type 0 where
  pub alike : (number place : ℕ) (values other : List ℤ) → shown (refusal number place) values ≡ shown (refusal number place) other

module _ {X : Type 0} (shown : Answer → List ℤ → X) (s : Shows shown) where
  -- an answer and an image by one verdict
  module _ (a : Answer) (values : List ℤ) where
    abbrev by : Verdict → List ℤ → X
    by v former = shown (decided v a refusal) (left v values former)

    same_by : (v : Verdict) (former other : List ℤ) → by v former ≡ by v other
    same_by Accept former other = refl
    same_by (Refuse number place) former other = s.alike number place former other

  module _ (t : Terms) (samples : List ℕ) (weights flow : List ℤ) where
    -- what is shown of a check whose image buffer held these values
    abbrev pub of_check : List ℤ → X
    of_check image = shown (check_answer t samples weights flow image) (check_image t samples weights flow image)

    same-verdict : (image other : List ℤ) → length image ≡ length other →
        check_verdict t samples weights flow image ≡ check_verdict t samples weights flow other
    unfolding check_verdict
    same-verdict image other e = cc

    pub same_check : (image other : List ℤ) → length image ≡ length other → of_check image ≡ of_check other
    unfolding check_answer check_image
    same_check image other e =
        let a : Answer = figures_of checked 0 t samples weights flow in
        let values : List ℤ = image_of t samples flow in
        same_by a values (check_verdict t samples weights flow image) image other
        ∙ ap (λ (v : Verdict). by a values v other) (same-verdict image other e)

  module _ (t : Terms) (r : Rounds) (samples : List ℕ) (weights : List ℤ) where
    -- what is shown of a run whose buffers held these values
    abbrev pub of_run : List ℤ → List ℤ → List ℤ → X
    of_run flow image work = shown (run_answer t r samples weights flow image work) (run_image t r samples weights flow image work)

    module _ (f i w f' i' w' : List ℤ) (flows : length f ≡ length f') (images : length i ≡ length i')
        (works : length w ≡ length w') where
      same-run-verdict : run_verdict t r samples weights f i w ≡ run_verdict t r samples weights f' i' w'
      unfolding run_verdict
      same-run-verdict = cc

      pub same-run : of_run f i w ≡ of_run f' i' w'
      unfolding run_answer run_image
      same-run =
          let e : Steady = ending t r samples weights in
          let a : Answer = figures_of (cond e.settled settled spent) e.moved t samples weights e.flow in
          let values : List ℤ = image_of t samples e.flow in
          same_by a values (run_verdict t r samples weights f i w) i i'
          ∙ ap (λ (v : Verdict). by a values v i') same-run-verdict
