-- The totals with a job more are those of the longer season, and keep their bounds. Assumes nothing.
use mathlib.Core.Path.{◌≡◌, sym, ap, ◌∙◌}
use mathlib.Core.Bool.{Bool, cond, ◌||◌, true≢false}
use mathlib.Core.List.{List, [], ◌∷◌, ◌++◌}
use Prim.Native.Nat.{ℕ, zero, suc, ◌+◌, ◌*◌, ◌≤◌, ◌<◌, max}
use native.Mathlib.Decide.{dec_lt}
use native.Mathlib.Omega.{arith}
use lib.Dec.{eqb, ltb}
use lib.ListN.{length, get_or, length-append, get_or-append}
use lib.Seq.{get_or-append_seam}
use borrow.Author.Tests.{lt-ltb, le-ltb, eq-eqb, ne_eqb}
use Rattle.model.specs.declared.Totals.{Totals}
use Rattle.lists.specs.Lists.{first_where}
use Rattle.model.specs.Calls.{Outcome, refused, checked, settled, spent, refusal}
use Rattle.model.specs.Season.{Treated, sum_over, settled_one, spent_one, checked_one, slack_of, largest_slack, has_slack, first_largest, totals_of}
use Rattle.lists.proofs.First.{First, first_where-first, first_where-is}
use Rattle.calls.specs.Slack.{most_slack}
use Rattle.stream.specs.Totals.{leads, with_job, Bounded}

-- ---- The sums

sum_more : (f : Treated → ℕ) (done : List Treated) (job : Treated) → sum_over f done + f job ≡ sum_over f (done ++ (job ∷ []))
unfolding sum_over
sum_more f [] job = omega arith
sum_more f (first ∷ done) job = omega (arith, sum_more f done job)

-- ---- The largest slack

-- the greater of two, by a test
greater : (m n : ℕ) → cond (ltb m n) n m ≡ max m n
greater m n = by (dec_lt m n)
  where
    by : Dec (m < n) → cond (ltb m n) n m ≡ max m n
    by (yes l) = ap (λ (b : Bool). cond b n m) (lt-ltb m n l) ∙ omega arith
    by (no g) = ap (λ (b : Bool). cond b n m) (le-ltb m n (omega (arith, g))) ∙ omega (arith, g)

largest-more : (done : List Treated) (job : Treated) → max (largest_slack done) (slack_of job) ≡ largest_slack (done ++ (job ∷ []))
unfolding largest_slack
largest-more [] job = omega arith
largest-more (first ∷ done) job =
    let m : ℕ = largest_slack done in
    let n : ℕ = largest_slack (done ++ (job ∷ [])) in
    let e : max m (slack_of job) ≡ n = largest-more done job in
    omega arith

-- job i, counted from 0
abbrev nth : List Treated → ℕ → Treated
nth jobs i = get_or jobs i (record { pixels = 0; answer = refusal 0 0 })

at-most-largest : (jobs : List Treated) (i : ℕ) → slack_of (nth jobs i) ≤ largest_slack jobs
unfolding largest_slack
at-most-largest [] i = omega arith
at-most-largest (first ∷ jobs) zero = omega (arith)
at-most-largest (first ∷ jobs) (suc i) =
    omega (arith, at-most-largest jobs i)

-- a job that has it
pub record Attained (jobs : List Treated) : Type 0 where
  pub index : ℕ
  pub within : index < length jobs
  pub equal : slack_of (nth jobs index) ≡ largest_slack jobs

attained : (first : Treated) (jobs : List Treated) → Attained (first ∷ jobs)
unfolding largest_slack
attained first [] =
    record { index = 0; within = omega arith; equal = omega (arith) }
attained first (second ∷ jobs) = by (dec_lt (slack_of first) m) (attained second jobs)
  where
    m : ℕ
    m = largest_slack (second ∷ jobs)

    by : Dec (slack_of first < m) → Attained (second ∷ jobs) → Attained (first ∷ second ∷ jobs)
    by (yes l) a =
        record {
          index = suc a.index;
          within = omega (arith, a.within);
          equal = omega (arith, a.equal);
        }
    by (no g) a =
        record { index = 0; within = omega arith; equal = omega (arith, g) }

-- ---- The first job that has it

-- the first job, counted from 0, that has this slack
abbrev first_with : List Treated → ℕ → ℕ
first_with jobs slack = first_where (length jobs) (has_slack jobs slack)

-- a test of one of these jobs is the same where there is one more
same_test : (done : List Treated) (job : Treated) (slack i : ℕ) → i < length done → has_slack (done ++ (job ∷ [])) slack i ≡ has_slack done slack i
same_test done job slack i h = ap (λ (j : Treated). eqb (slack_of j) slack) (get_or-append done (job ∷ []) _ i h)

-- where its slack is above that of all others, the new job is the first
takes_over : (done : List Treated) (job : Treated) → largest_slack done < slack_of job →
    First (length (done ++ (job ∷ []))) (has_slack (done ++ (job ∷ [])) (slack_of job)) (length done)
takes_over done job h =
    record {
      within = omega (arith, length-append done (job ∷ []));
      before = λ i l. same_test done job (slack_of job) i l ∙ ne_eqb _ _ (λ (e : slack_of (nth done i) ≡ slack_of job). omega (arith, at-most-largest done i));
      found = λ _. eq-eqb _ _ (ap slack_of (get_or-append_seam done job [] _));
    }

-- else the first of the others stays
stays : (first : Treated) (rest : List Treated) (job : Treated) → let done : List Treated = first ∷ rest in
    First (length (done ++ (job ∷ []))) (has_slack (done ++ (job ∷ [])) (largest_slack done)) (first_with done (largest_slack done))
stays first rest job =
    record {
      within = omega (arith, r.within, length-append done (job ∷ []));
      before = λ i l. same_test done job (largest_slack done) i (omega (arith, r.within)) ∙ r.before i l;
      found = λ _. same_test done job (largest_slack done) k inside ∙ r.found inside;
    }
  where
    done : List Treated
    done = first ∷ rest

    k : ℕ
    k = first_with done (largest_slack done)

    r : First (length done) (has_slack done (largest_slack done)) k
    r = first_where-first (length done) (has_slack done (largest_slack done))

    inside : k < length done
    inside = by (dec_lt k (length done)) (attained first rest)
      where
        by : Dec (k < length done) → Attained done → k < length done
        by (yes l) a = l
        by (no g) a = absurd (true≢false (sym (eq-eqb _ _ a.equal) ∙ r.before a.index (omega (arith, g, a.within))))

-- of one job
module _ (job : Treated) where
  alone : slack_of job ≡ largest_slack (job ∷ [])
  unfolding largest_slack
  alone = omega (arith)

  first_alone : 1 ≡ first_largest (job ∷ [])
  unfolding first_largest
  first_alone =
      ap suc
      (sym
      (first_where-is 1 (has_slack (job ∷ []) (largest_slack (job ∷ []))) 0
      (record { within = omega arith; before = λ i l. absurd (omega arith); found = λ _. eq-eqb _ _ alone })))

-- of a job behind others
module _ (first : Treated) (rest : List Treated) (job : Treated) where
  abbrev done : List Treated
  done = first ∷ rest

  abbrev all : List Treated
  all = done ++ (job ∷ [])

  -- the largest slack of the others, and its own
  abbrev m : ℕ
  m = largest_slack done

  abbrev s : ℕ
  s = slack_of job

  chosen : (new old : ℕ) → cond (leads (length done) m s) new old ≡ cond (ltb m s) new old
  chosen new old = ap (λ (b : Bool). cond (b || ltb m s) new old) (ne_eqb (length done) 0 (λ e. omega arith))

  largest-behind : cond (leads (length done) m s) s m ≡ largest_slack all
  largest-behind = chosen s m ∙ greater m s ∙ largest-more done job

  first-behind : cond (leads (length done) m s) (length done + 1) (first_largest done) ≡ first_largest all
  unfolding first_largest
  first-behind = chosen (length done + 1) (first_largest done) ∙ by (dec_lt m s)
    where
      by : Dec (m < s) → cond (ltb m s) (length done + 1) (first_largest done) ≡ first_largest all
      by (yes l) =
          let top : largest_slack all ≡ s = omega (arith, largest-more done job) in
          ap (λ (b : Bool). cond b (length done + 1) (first_largest done)) (lt-ltb m s l)
          ∙ omega (arith, ap (first_with all) top, first_where-is _ _ _ (takes_over done job l))
      by (no g) =
          let top : largest_slack all ≡ m = omega (arith, g, largest-more done job) in
          ap (λ (b : Bool). cond b (length done + 1) (first_largest done)) (le-ltb m s (omega (arith, g)))
          ∙ omega (arith, ap (first_with all) top, first_where-is _ _ _ (stays first rest job))

-- ---- One job more

-- a job ends in at most one way
pub one_way : (o : Outcome) → settled_one o + spent_one o + checked_one o ≤ 1
one_way refused = omega arith
one_way checked = omega arith
one_way settled = omega arith
one_way spent = omega arith

pub bounded-none : Bounded (totals_of [])
unfolding sum_over
bounded-none = omega arith

pub bounded-more : (t : Totals) (job : Treated) → Bounded t → job.pixels ≤ 4096 → slack_of job ≤ most_slack * job.pixels → Bounded (with_job t job)
bounded-more t job b p s = omega (arith, one_way job.answer.outcome)

largest-next : (done : List Treated) (job : Treated) → (with_job (totals_of done) job).largest ≡ largest_slack (done ++ (job ∷ []))
unfolding largest_slack
largest-next [] job = alone job
largest-next (first ∷ rest) job = largest-behind first rest job

first_next : (done : List Treated) (job : Treated) → (with_job (totals_of done) job).first ≡ first_largest (done ++ (job ∷ []))
unfolding largest_slack first_largest
first_next [] job = first_alone job
first_next (first ∷ rest) job = first-behind first rest job

pub with_job-more : (done : List Treated) (job : Treated) → with_job (totals_of done) job ≡ totals_of (done ++ (job ∷ []))
with_job-more done job =
    cc (
      sym (length-append done (job ∷ [])),
      sum_more (λ j. j.pixels) done job,
      sum_more (λ j. settled_one j.answer.outcome) done job,
      sum_more (λ j. spent_one j.answer.outcome) done job,
      sum_more (λ j. checked_one j.answer.outcome) done job,
      sum_more slack_of done job,
      largest-next done job,
      first_next done job,
    )
