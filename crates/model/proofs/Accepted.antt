-- Check, price, run and write are accepted exactly when terms, lengths and contents are allowed: row by row, then each call, by
-- its verdict and by the number that it gives. Assumes nothing.
use mathlib.Core.Path.{◌≡◌, refl, sym, ap, ap₂, ◌∙◌}
use mathlib.Core.Bool.{Bool, true, false, not, ◌&&◌, ◌||◌, true≢false, or-true}
use mathlib.Core.List.{List}
use mathlib.Core.Logic.{◌↔◌, ◌⊎◌, inl, inr, ⊎_elim}
use Prim.Native.Nat.{ℕ, ◌*◌, ◌≤◌, ◌<◌}
use native.Mathlib.Omega.{arith}
use borrow.Author.Tests.{not-true, not-false, leb-true, eqb-true, ltb-false, ltb-true, le-leb, eq-eqb, le-ltb}
use lib.Dec.{eqb, ltb}
use lib.IntN.{ℤ, pos, nat_abs}
use lib.ListN.{length}
use lib.Signed.{lt_z, ◌≤ℤ◌}
use Rattle.integers.proofs.Order.{lt_z-false, false-lt_z}
use Rattle.integers.proofs.Absolute.{nat_abs→upper, nat_abs-upto}
use Rattle.lists.specs.Lists.{at, first_where}
use Rattle.model.specs.Problem.{Feasible, InBox}
use Rattle.model.specs.Grid.{limit, Terms, size_allowed, weight_allowed, pair_weight_allowed, weight_of, box_allowed, low_end, high_end, grid}
use Rattle.model.specs.Verdict.{Verdict, Accept, Refuse, Row, first_refusal, decided}
use Rattle.model.specs.Calls.{Rounds, Answer, refusal, pixels_of, pairs_of, all_or_none, size_row, weight_row, box_row, rounds_row, length_row, optional_row, pair_weights_row, flow_row, image_row, first_over, first_beyond, first_outside, figures_of, check_verdict, check_answer, price_verdict, price_answer, run_verdict, run_answer}
use Rattle.model.specs.Tape.{tape_of, write_rows}
use Rattle.model.specs.Accepted.{TermsAllowed, WeightsAllowed, CheckAllowed, PriceAllowed, RunAllowed, WriteAllowed}
use Rattle.lists.proofs.First.{first_where-first}
use Rattle.model.proofs.Refusals.{accepted, passed, accepted-rows, Numbered, refused-number}
use Rattle.model.proofs.Limits.{SizeLimits, size-limits, both_true}

-- ---- the rows

pub weight-allowed : (weight : ℕ) → (weight_allowed weight ≡ true) ↔ (weight ≤ limit.weight)
unfolding weight_allowed
weight-allowed weight = (leb-true weight limit.weight, le-leb weight limit.weight)

pub weight-passes : (weight place : ℕ) → ((weight_row weight place).applies ≡ false) ↔ (weight ≤ limit.weight)
weight-passes weight place = (λ h. (weight-allowed weight).0 (not-false _ h), λ k. ap not ((weight-allowed weight).1 k))

module _ (t : Terms) (place : ℕ) where
  pub size-passes : ((size_row t place).applies ≡ false) ↔ SizeLimits t.width t.height
  size-passes = (λ h. size-limits t.width t.height (not-false _ h), λ z. ap not (allowed z))
    where
      allowed : SizeLimits t.width t.height → size_allowed t.width t.height ≡ true
      allowed z =
          unfold size_allowed in
          ap₂ ◌&&◌
          (ap₂ ◌&&◌ (ap₂ ◌&&◌ (le-leb 1 t.width z.width_least) (le-leb t.width 4096 z.width_most))
          (ap₂ ◌&&◌ (le-leb 1 t.height z.height_least) (le-leb t.height 4096 z.height_most)))
          (le-leb (t.width * t.height) 1048576 z.pixels_most)

  pub box-passes : ((box_row t place).applies ≡ false) ↔ (t.low ≤ t.high)
  unfolding box_allowed
  box-passes = (λ h. leb-true t.low t.high (not-false _ h), λ k. ap not (le-leb t.low t.high k))

  -- the three rows of the terms
  pub terms-pass :
      (((size_row t place).applies ≡ false) × ((weight_row t.weight place).applies ≡ false) × ((box_row t place).applies ≡ false)) ↔ TermsAllowed t
  terms-pass = (
    λ n.
        let z = size-passes.0 n.0 in
        record {
          width_least = z.width_least;
          width_most = z.width_most;
          height_least = z.height_least;
          height_most = z.height_most;
          pixels_most = z.pixels_most;
          weight_most = (weight-passes t.weight place).0 n.1;
          box = box-passes.0 n.2;
        },
    λ a. (
      size-passes.1
          (record {
            width_least = a.width_least;
            width_most = a.width_most;
            height_least = a.height_least;
            height_most = a.height_most;
            pixels_most = a.pixels_most;
          }),
      (weight-passes t.weight place).1 a.weight_most,
      box-passes.1 a.box,
    ),
  )

pub rounds-pass : (r : Rounds) (place : ℕ) → ((rounds_row r place).applies ≡ false) ↔ (r.quick ≤ 4096)
rounds-pass r place = (ltb-false 4096 r.quick, le-ltb 4096 r.quick)

pub length-passes : {A : Type 0} (number : ℕ) (buffer : List A) (due : ℕ) →
    ((length_row number buffer due).applies ≡ false) ↔ (length buffer ≡ due)
length-passes number buffer due =
    (λ h. eqb-true (length buffer) due (not-false _ h), λ e. ap not (eq-eqb (length buffer) due e))

-- all or none of what comes for every pair
pub all_or_none_lem : (count pairs : ℕ) → (all_or_none count pairs ≡ true) ↔ ((count ≡ 0) ⊎ (count ≡ pairs))
all_or_none_lem count pairs = (
  λ h. either (eqb count 0) (eqb count pairs) refl refl h,
  ⊎_elim (λ (z : count ≡ 0). ap (λ (b : Bool). b || eqb count pairs) (eq-eqb count 0 z))
      (λ (g : count ≡ pairs). ap (λ (b : Bool). eqb count 0 || b) (eq-eqb count pairs g) ∙ or-true (eqb count 0)),
)
  where
    either : (a b : Bool) → eqb count 0 ≡ a → eqb count pairs ≡ b → (a || b) ≡ true → (count ≡ 0) ⊎ (count ≡ pairs)
    either true b e g h = inl (eqb-true count 0 e)
    either false true e g h = inr (eqb-true count pairs g)
    either false false e g h = absurd (true≢false (sym h))

-- it is at most what is at least the pairs; and where there is any of a second thing that comes so, no more than of that
pub up_to : {count pairs most : ℕ} → (count ≡ 0) ⊎ (count ≡ pairs) → pairs ≤ most → count ≤ most
up_to {count} {pairs} c l = ⊎_elim (λ (z : count ≡ 0). omega arith) (λ (g : count ≡ pairs). omega arith) c

pub no_longer : {m n pairs : ℕ} → (m ≡ 0) ⊎ (m ≡ pairs) → (n ≡ 0) ⊎ (n ≡ pairs) → 0 < n → m ≤ n
no_longer {m} {n} {pairs} a b h =
    ⊎_elim (λ (z : n ≡ 0). absurd (omega arith)) (λ (g : n ≡ pairs). up_to a (omega arith)) b

-- a length that is 0, which is none, or the one that is due
pub optional_passes : {A : Type 0} (number : ℕ) (buffer : List A) (due : ℕ) →
    ((optional_row number buffer due).applies ≡ false) ↔ ((length buffer ≡ 0) ⊎ (length buffer ≡ due))
optional_passes number buffer due =
    (λ h. (all_or_none_lem (length buffer) due).0 (not-false _ h), λ k. ap not ((all_or_none_lem (length buffer) due).1 k))

-- a search finds nothing exactly when the test holds nowhere
none_found : (n : ℕ) (test : ℕ → Bool) → (ltb (first_where n test) n ≡ false) ↔ ((i : ℕ) → i < n → test i ≡ false)
none_found n test =
    let first = first_where-first n test in (
      λ h i l. first.before i (omega (arith, ltb-false (first_where n test) n h)),
      λ none. go none (ltb (first_where n test) n) refl,
    )
  where
    go : ((i : ℕ) → i < n → test i ≡ false) → (b : Bool) → ltb (first_where n test) n ≡ b → b ≡ false
    go none true h =
        let l = ltb-true (first_where n test) n h in
        absurd (true≢false (sym ((first_where-first n test).found l) ∙ none (first_where n test) l))
    go none false h = refl

pub flow-passes : (weight : ℕ → ℕ) (flow : List ℤ) →
    ((flow_row weight flow).applies ≡ false) ↔ ((j : ℕ) → j < length flow → nat_abs (at flow j) ≤ weight j)
unfolding first_beyond
flow-passes weight flow =
    let none = none_found (length flow) (λ j. ltb (weight j) (nat_abs (at flow j))) in (
      λ h j l. ltb-false (weight j) (nat_abs (at flow j)) (none.0 h j l),
      λ k. none.1 (λ j l. le-ltb (weight j) (nat_abs (at flow j)) (k j l)),
    )

-- a number of a weight buffer
pub pair-weight-allowed : (z : ℤ) → (pair_weight_allowed z ≡ true) ↔ ((pos 0 ≤ℤ z) × (z ≤ℤ pos limit.weight))
unfolding pair_weight_allowed
pair-weight-allowed z = (
  λ h.
      let b = both_true (not (lt_z z (pos 0))) (weight_allowed (nat_abs z)) h in
      (lt_z-false (not-true _ b.0), nat_abs→upper z ((weight-allowed (nat_abs z)).0 b.1)),
  λ k. ap₂ ◌&&◌ (ap not (false-lt_z k.0)) ((weight-allowed (nat_abs z)).1 (nat_abs-upto k.0 k.1)),
)

pub weights-pass : (t : Terms) (weights : List ℤ) →
    (((optional_row 19 weights (pairs_of t)).applies ≡ false) × ((pair_weights_row weights).applies ≡ false)) ↔ WeightsAllowed t weights
unfolding first_over
weights-pass t weights =
    let none = none_found (length weights) (λ j. not (pair_weight_allowed (at weights j))) in (
      λ h.
          record {
            count = (optional_passes 19 weights (pairs_of t)).0 h.0;
            range = λ j l. (pair-weight-allowed (at weights j)).0 (not-false _ (none.0 h.1 j l));
          },
      λ w. (
        (optional_passes 19 weights (pairs_of t)).1 w.count,
        none.1 (λ j l. ap not ((pair-weight-allowed (at weights j)).1 (w.range j l))),
      ),
    )

-- neither of two tests holds
pub neither : (a b : Bool) → ((a || b) ≡ false) ↔ ((a ≡ false) × (b ≡ false))
neither true b = (λ h. absurd (true≢false h), λ k. k.0)
neither false b = (λ h. (refl, h), λ k. k.1)

pub image-passes : (t : Terms) (values : List ℤ) → ((image_row t values).applies ≡ false)
    ↔ ((i : ℕ) → i < length values → (low_end t.low ≤ℤ at values i) × (at values i ≤ℤ high_end t.high))
unfolding first_outside
image-passes t values =
    let low : ℕ → Bool = λ i. lt_z (at values i) (low_end t.low) in
    let high : ℕ → Bool = λ i. lt_z (high_end t.high) (at values i) in
    let none = none_found (length values) (λ i. low i || high i) in (
      λ h i l. let k = (neither (low i) (high i)).0 (none.0 h i l) in (lt_z-false k.0, lt_z-false k.1),
      λ k. none.1 (λ i l. (neither (low i) (high i)).1 (false-lt_z (k i l).0, false-lt_z (k i l).1)),
    )

-- ---- the calls

-- what it says that a number is 0, it says of every number that is equal
pub zero-by : {n m : ℕ} {A : Type 0} → n ≡ m → ((m ≡ 0) ↔ A) → (n ≡ 0) ↔ A
zero-by e f = (λ z. f.0 (sym e ∙ z), λ k. e ∙ f.1 k)

-- so of the number of an equal answer
pub zero-as : {a b : Answer} {A : Type 0} → a ≡ b → ((b.number ≡ 0) ↔ A) → (a.number ≡ 0) ↔ A
zero-as e = zero-by (ap (λ (x : Answer). x.number) e)

-- a call's number is 0 exactly when its rows accept, so exactly when what they ask holds
number-allowed : (rows : List Row) → Numbered rows → (a : Answer) → a.number ≡ 0 → {A : Type 0} → ((first_refusal rows ≡ Accept) ↔ A) →
    ((decided (first_refusal rows) a refusal).number ≡ 0) ↔ A
number-allowed rows numbered a zero {A} asked = go (first_refusal rows) refl
  where
    go : (v : Verdict) → first_refusal rows ≡ v → ((decided v a refusal).number ≡ 0) ↔ A
    go Accept e = (λ _. asked.0 e, λ _. zero)
    go (Refuse n p) e =
        let n0 : 0 < n = refused-number rows numbered e in (
          λ z. absurd (omega arith),
          λ k.
              let y : Refuse n p ≡ Accept = sym e ∙ asked.1 k in
              let z : ◌≡◌ {A = ℕ} 0 1 = cc in
              absurd (omega arith),
        )

-- Check: allowed terms, weights and lengths, and no value of the flow exceeds its pair's weight in size
module _ (t : Terms) (samples : List ℕ) (weights flow values : List ℤ) where
  pub check_accepted : (check_verdict t samples weights flow values ≡ Accept) ↔ CheckAllowed t samples weights flow values
  unfolding check_verdict
  check_accepted = (
    λ h.
        let n = accepted-rows _ h in
        record {
          terms = (terms-pass t 0).0 (n.0, n.1.0, n.1.1.0);
          samples_length = (length-passes 4 samples (pixels_of t)).0 n.1.1.1.0;
          flow_length = (length-passes 5 flow (pairs_of t)).0 n.1.1.1.1.0;
          pair_weights = (weights-pass t weights).0 (n.1.1.1.1.1.0, n.1.1.1.1.1.1.1.0);
          image_length = (length-passes 6 values (pixels_of t)).0 n.1.1.1.1.1.1.0;
          contents = (flow-passes (weight_of t weights) flow).0 n.1.1.1.1.1.1.1.1.0;
        },
    λ k.
        let a = (terms-pass t 0).1 k.terms in
        let w = (weights-pass t weights).1 k.pair_weights in
        passed _ _ a.0
        ∙ passed _ _ a.1
        ∙ passed _ _ a.2
        ∙ passed _ _ ((length-passes 4 samples (pixels_of t)).1 k.samples_length)
        ∙ passed _ _ ((length-passes 5 flow (pairs_of t)).1 k.flow_length)
        ∙ passed _ _ w.0
        ∙ passed _ _ ((length-passes 6 values (pixels_of t)).1 k.image_length)
        ∙ passed _ _ w.1
        ∙ passed _ _ ((flow-passes (weight_of t weights) flow).1 k.contents)
        ∙ accepted,
  )

  pub check_number : ((check_answer t samples weights flow values).number ≡ 0) ↔ CheckAllowed t samples weights flow values
  unfolding check_answer check_verdict figures_of
  check_number = number-allowed _ (omega arith) _ refl check_accepted

  -- the flow, said of the job's grid
  pub check_feasible : CheckAllowed t samples weights flow values → Feasible (grid t samples weights) (at flow)
  check_feasible a j l = a.contents j (rw a.flow_length l)

-- Price: allowed terms, weights and lengths, and every value of the image lies within the box
module _ (t : Terms) (samples : List ℕ) (weights values : List ℤ) where
  pub price-accepted : (price_verdict t samples weights values ≡ Accept) ↔ PriceAllowed t samples weights values
  unfolding price_verdict
  price-accepted = (
    λ h.
        let n = accepted-rows _ h in
        record {
          terms = (terms-pass t 0).0 (n.0, n.1.0, n.1.1.0);
          samples_length = (length-passes 4 samples (pixels_of t)).0 n.1.1.1.0;
          pair_weights = (weights-pass t weights).0 (n.1.1.1.1.0, n.1.1.1.1.1.1.0);
          image_length = (length-passes 6 values (pixels_of t)).0 n.1.1.1.1.1.0;
          contents = (image-passes t values).0 n.1.1.1.1.1.1.1.0;
        },
    λ k.
        let a = (terms-pass t 0).1 k.terms in
        let w = (weights-pass t weights).1 k.pair_weights in
        passed _ _ a.0
        ∙ passed _ _ a.1
        ∙ passed _ _ a.2
        ∙ passed _ _ ((length-passes 4 samples (pixels_of t)).1 k.samples_length)
        ∙ passed _ _ w.0
        ∙ passed _ _ ((length-passes 6 values (pixels_of t)).1 k.image_length)
        ∙ passed _ _ w.1
        ∙ passed _ _ ((image-passes t values).1 k.contents)
        ∙ accepted,
  )

  pub price-number : ((price_answer t samples weights values).number ≡ 0) ↔ PriceAllowed t samples weights values
  unfolding price_answer price_verdict
  price-number = number-allowed _ (omega arith) _ refl price-accepted

  -- the image, said of the job's grid
  pub price-inside : PriceAllowed t samples weights values → InBox (grid t samples weights) (at values)
  price-inside a i l = a.contents i (rw a.image_length l)

-- Run: allowed terms, weights, number of quick rounds and lengths
module _ (t : Terms) (r : Rounds) (samples : List ℕ) (weights flow values work : List ℤ) where
  pub run-accepted : (run_verdict t r samples weights flow values work ≡ Accept) ↔ RunAllowed t r samples weights flow values work
  unfolding run_verdict
  run-accepted = (
    λ h.
        let n = accepted-rows _ h in
        record {
          terms = (terms-pass t 0).0 (n.0, n.1.0, n.1.1.0);
          quick_most = (rounds-pass r 0).0 n.1.1.1.0;
          samples_length = (length-passes 4 samples (pixels_of t)).0 n.1.1.1.1.0;
          flow_length = (length-passes 5 flow (pairs_of t)).0 n.1.1.1.1.1.0;
          pair_weights = (weights-pass t weights).0 (n.1.1.1.1.1.1.0, n.1.1.1.1.1.1.1.1.1.0);
          image_length = (length-passes 6 values (pixels_of t)).0 n.1.1.1.1.1.1.1.0;
          work_length = (length-passes 7 work (2 * pairs_of t)).0 n.1.1.1.1.1.1.1.1.0;
        },
    λ k.
        let a = (terms-pass t 0).1 k.terms in
        let w = (weights-pass t weights).1 k.pair_weights in
        passed _ _ a.0
        ∙ passed _ _ a.1
        ∙ passed _ _ a.2
        ∙ passed _ _ ((rounds-pass r 0).1 k.quick_most)
        ∙ passed _ _ ((length-passes 4 samples (pixels_of t)).1 k.samples_length)
        ∙ passed _ _ ((length-passes 5 flow (pairs_of t)).1 k.flow_length)
        ∙ passed _ _ w.0
        ∙ passed _ _ ((length-passes 6 values (pixels_of t)).1 k.image_length)
        ∙ passed _ _ ((length-passes 7 work (2 * pairs_of t)).1 k.work_length)
        ∙ passed _ _ w.1
        ∙ accepted,
  )

  pub run-number : ((run_answer t r samples weights flow values work).number ≡ 0) ↔ RunAllowed t r samples weights flow values work
  unfolding run_answer run_verdict figures_of
  run-number = number-allowed _ (omega arith) _ refl run-accepted

-- Write: an allowed job, and an output that holds its tape
module _ (t : Terms) (r : Rounds) (samples : List ℕ) (weights numbers : List ℤ) (output : List ℕ) where
  pub write_accepted : (first_refusal (write_rows t r samples weights numbers (length output)) ≡ Accept) ↔ WriteAllowed t r samples weights numbers output
  write_accepted = (
    λ h.
        let n = accepted-rows _ h in
        record {
          job =
              record {
                terms = (terms-pass t 0).0 (n.0, n.1.0, n.1.1.0);
                quick_most = (rounds-pass r 0).0 n.1.1.1.0;
                samples_length = (length-passes 4 samples (pixels_of t)).0 n.1.1.1.1.0;
                flow_length = (optional_passes 5 numbers (pairs_of t)).0 n.1.1.1.1.1.0;
                pair_weights = (weights-pass t weights).0 (n.1.1.1.1.1.1.0, n.1.1.1.1.1.1.1.1.0);
                contents = (flow-passes (weight_of t weights) numbers).0 n.1.1.1.1.1.1.1.1.1.0;
              };
          output_length = ltb-false (length output) (length (tape_of t r samples weights numbers)) n.1.1.1.1.1.1.1.0;
        },
    λ k.
        let a = (terms-pass t 0).1 k.job.terms in
        let w = (weights-pass t weights).1 k.job.pair_weights in
        passed _ _ a.0
        ∙ passed _ _ a.1
        ∙ passed _ _ a.2
        ∙ passed _ _ ((rounds-pass r 0).1 k.job.quick_most)
        ∙ passed _ _ ((length-passes 4 samples (pixels_of t)).1 k.job.samples_length)
        ∙ passed _ _ ((optional_passes 5 numbers (pairs_of t)).1 k.job.flow_length)
        ∙ passed _ _ w.0
        ∙ passed _ _ (le-ltb (length output) (length (tape_of t r samples weights numbers)) k.output_length)
        ∙ passed _ _ w.1
        ∙ passed _ _ ((flow-passes (weight_of t weights) numbers).1 k.job.contents)
        ∙ accepted,
  )
