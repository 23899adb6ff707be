-- Demand 3 and request F-5 at document 01's grid. Assumes nothing.
use mathlib.Core.Path.{◌≡◌, refl, sym, ap, ◌∙◌, subst}
use mathlib.Core.Bool.{Bool, true, false, cond}
use mathlib.Core.List.{List}
use Prim.Native.Nat.{ℕ, zero, suc, ◌+◌, ◌*◌, ◌≤◌, zero-le}
use lib.Dec.{lit<}
use lib.IntN.{ℤ, pos, nat_abs, ◌*ℤ◌}
use lib.ListN.{length, get_or-replicate}
use lib.Signed.{◌≤ℤ◌, ◌<ℤ◌}
use Rattle.integers.proofs.Parts.{parts, whole, by-<, of-<}
use Rattle.lists.specs.Lists.{at}
use Rattle.model.specs.Problem.{Problem, pair_count, Feasible, weight_sum, slack}
use Rattle.model.specs.declared.Terms.{Terms}
use Rattle.model.specs.declared.Rounds.{Rounds}
use Rattle.model.specs.Grid.{grid}
use Rattle.model.specs.Rounds.{eighth, nearest_eighth, quick_start, quick_round, quick_rounds}
use Rattle.model.specs.Calls.{Outcome, checked, settled, spent, Answer, image_of, figures_of, check_answer, check_image, quick_flow, ending, run_answer, run_flow, run_image}
use Rattle.model.specs.Accepted.{CheckAllowed, RunAllowed}
use Rattle.model.proofs.Sizes.{iterate-size}
use Rattle.model.proofs.Range.{ends-ordered}
use Rattle.layout.proofs.Pairs.{pixels-inside}
use Rattle.layout.proofs.Degree.{degree-at-most-4}
use Rattle.model.proofs.Answers.{check_answer_lem, check_image_lem, run_figures, run-answer, run-flow, run-image, held-image}
use Rattle.model.proofs.Accepted.{zero-as, check_feasible, check_accepted, check_number, run-accepted, run-number}
use Rattle.model.specs.Demand.{HasFigures, TwoFlows, CheckDemand, RunDemand}
use Rattle.certificate.proofs.Lagrangian.{Sound}
use Rattle.certificate.proofs.Congruence.{price-cong}
use Rattle.certificate.proofs.Division.{certificate, two_flows}
use Rattle.certificate.proofs.Rounding.{nearest-eighth-rounding}
use Rattle.certificate.proofs.Steady.{step-feasible, steady_ends, by-degree}

-- the grid is a sound pair system
pub grid-sound : (t : Terms) (samples : List ℕ) (weights : List ℤ) → t.low ≤ t.high → Sound (grid t samples weights)
grid-sound t samples weights box =
    record {
      box = ends-ordered box;
      first-in = λ j l. (pixels-inside t.width t.height j _ l).first-in;
      second-in = λ j l. (pixels-inside t.width t.height j _ l).second-in;
    }

-- a buffer that holds a flow's image, and the figures of that flow
held : (t : Terms) (samples : List ℕ) (weights : List ℤ) → t.low ≤ t.high → (flow : List ℤ) (o : Outcome) (moved : ℕ) {values : List ℤ} {a : Answer} →
    values ≡ image_of t samples flow → a ≡ figures_of o moved t samples weights flow →
    HasFigures (grid t samples weights) (at flow) (at values) a.price a.floor a.slack
unfolding figures_of
held t samples weights box flow o moved e g =
    let images = held-image t samples weights flow e in
    record {
      images = images;
      prices = ap (λ (x : Answer). x.price) g ∙ sym (price-cong (grid t samples weights) (grid-sound t samples weights box) images);
      floors = ap (λ (x : Answer). x.floor) g;
      slacks = ap (λ (x : Answer). x.slack) g;
    }

-- Check, of the flow that it was lent, whatever flow that is, and of the image that it leaves
pub check_demand : (t : Terms) (samples : List ℕ) (weights flow former : List ℤ) {values : List ℤ} {a : Answer} →
    a ≡ check_answer t samples weights flow former → values ≡ check_image t samples weights flow former → a.number ≡ 0 → CheckDemand t samples weights flow values a
check_demand t samples weights flow former {values} {a} e g none =
    let allowed : CheckAllowed t samples weights flow former = (zero-as e (check_number t samples weights flow former)).0 none in
    let yes = (check_accepted t samples weights flow former).1 allowed in
    let box = allowed.terms.box in
    certificate (grid t samples weights) (grid-sound t samples weights box) flow values a (check_feasible t samples weights flow former allowed)
    (held t samples weights box flow checked 0 (g ∙ check_image_lem t samples weights flow former yes) (e ∙ check_answer_lem t samples weights flow former yes))

-- Two accepted checks of one job, the same terms, samples and weights, whatever the two flows are: request F-5, to be cited
pub two_checks : (t : Terms) (samples : List ℕ) (weights f g former_x former_y : List ℤ) →
    (check_answer t samples weights f former_x).number ≡ 0 → (check_answer t samples weights g former_y).number ≡ 0 →
    TwoFlows (grid t samples weights) f g (check_image t samples weights f former_x) (check_image t samples weights g former_y) (check_answer t samples weights f former_x)
    (check_answer t samples weights g former_y)
two_checks t samples weights f g former_x former_y accepted also =
    two_flows (grid t samples weights) (check_demand t samples weights f former_x refl refl accepted) (check_demand t samples weights g former_y refl refl also)

-- the flow that quick rounds leave is P, never R: its numbers are within the weights
pub quick-feasible : (share : ℤ → ℤ) (p : Problem) (k : ℕ) → Feasible p (at (quick_rounds share p k).iterate)
unfolding quick_rounds quick_start quick_round
quick-feasible share p zero j l =
    subst (λ (z : ℤ). nat_abs z ≤ p.weight j) (sym (get_or-replicate (pair_count p) j (pos 0) (pos 0) l)) zero-le
quick-feasible share p (suc k) j l = step-feasible share p (quick_rounds share p k).extrapolated j l

-- a run ends with a flow within the weights
pub ending-flow : (t : Terms) (r : Rounds) (samples : List ℕ) (weights : List ℤ) → t.low ≤ t.high →
    (length (ending t r samples weights).flow ≡ pair_count (grid t samples weights)) × Feasible (grid t samples weights) (at (ending t r samples weights).flow)
unfolding ending quick_flow
ending-flow t r samples weights box =
    let p : Problem = grid t samples weights in
    let e =
    steady_ends nearest_eighth p (grid-sound t samples weights box) 4 nearest-eighth-rounding (λ i _. degree-at-most-4 t samples weights i) r.allowance
    (quick_rounds eighth p r.quick).iterate (iterate-size eighth p r.quick) (quick-feasible eighth p r.quick)
    in
    (e.size, e.feasible)

-- the bounds of a run's rounds, whatever the scan and the terms
run-bounds : (t : Terms) (r : Rounds) (samples : List ℕ) (weights : List ℤ) → t.low ≤ t.high →
    (pos (8 * (ending t r samples weights).moved) ≤ℤ slack (grid t samples weights) (at (quick_flow t r samples weights)))
    × (slack (grid t samples weights) (at (quick_flow t r samples weights)) <ℤ pos (8 * (r.allowance + 1)) → (ending t r samples weights).settled ≡ true)
    × ((ending t r samples weights).settled ≡ true → slack (grid t samples weights) (at (ending t r samples weights).flow) ≤ℤ (pos 16 *ℤ weight_sum (grid t samples weights)))
unfolding ending quick_flow weight_sum nearest_eighth
run-bounds t r samples weights box =
    let p : Problem = grid t samples weights in
    let sound : Sound p = grid-sound t samples weights box in
    let start : List ℤ = (quick_rounds eighth p r.quick).iterate in
    let size = iterate-size eighth p r.quick in
    let within = quick-feasible eighth p r.quick in
    by-degree nearest_eighth p sound 4 (lit< tt) (λ v. refl) (λ i _. degree-at-most-4 t samples weights i) r.allowance start size within

fourfold : {x : ℤ} (k : ℕ) → x <ℤ pos (2 * k) → x <ℤ pos (8 * k)
fourfold k h = by-< (search parts depth 12) (omega (whole, of-< h (search parts depth 12)))

-- the outcome tells whether the rounds settled
settled_only : (b : Bool) → cond b settled spent ≡ settled → b ≡ true
settled_only true e = refl
settled_only false e = cc

-- Run, of the flow and the image that it leaves
pub run-demand : (t : Terms) (r : Rounds) (samples : List ℕ) (weights former former_image work : List ℤ) {flow values : List ℤ} {a : Answer} →
    a ≡ run_answer t r samples weights former former_image work → flow ≡ run_flow t r samples weights former former_image work →
    values ≡ run_image t r samples weights former former_image work → a.number ≡ 0 → RunDemand t r samples weights flow values a
unfolding figures_of
run-demand t r samples weights former former_image work {flow} {values} {a} e f g none =
    let allowed : RunAllowed t r samples weights former former_image work = (zero-as e (run-number t r samples weights former former_image work)).0 none in
    let yes = (run-accepted t r samples weights former former_image work).1 allowed in
    let box = allowed.terms.box in
    let p : Problem = grid t samples weights in
    let left : flow ≡ (ending t r samples weights).flow = f ∙ run-flow t r samples weights former former_image work yes in
    let given : a ≡ run_figures t r samples weights = e ∙ run-answer t r samples weights former former_image work yes in
    let outcome : a.outcome ≡ cond (ending t r samples weights).settled settled spent = ap (λ (x : Answer). x.outcome) given in
    let sooner : slack p (at (quick_flow t r samples weights)) <ℤ pos (8 * (r.allowance + 1)) → a.outcome ≡ settled =
    λ h. outcome ∙ ap (λ (b : Bool). cond b settled spent) ((run-bounds t r samples weights box).1 h)
    in
    record {
      certificate =
          certificate p (grid-sound t samples weights box) flow values a
          (subst (λ (z : List ℤ). Feasible p (at z)) (sym left) (ending-flow t r samples weights box).1)
          (held t samples weights box flow _ _ (g ∙ run-image t r samples weights former former_image work yes ∙ ap (image_of t samples) (sym left))
          (given ∙ ap (figures_of (cond (ending t r samples weights).settled settled spent) (ending t r samples weights).moved t samples weights) (sym left)));
      moved = rw (ap (λ (x : Answer). x.moved) given) (run-bounds t r samples weights box).0;
      settles = λ h. sooner (fourfold (r.allowance + 1) h);
      settles_sooner = sooner;
      settled =
          λ h.
          subst (λ (s : ℤ). s ≤ℤ (pos 16 *ℤ weight_sum p)) (sym (ap (λ (x : Answer). x.slack) given))
          ((run-bounds t r samples weights box).2 (settled_only (ending t r samples weights).settled (sym outcome ∙ h)));
    }
