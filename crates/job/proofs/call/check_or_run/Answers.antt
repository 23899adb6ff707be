-- Written out, so that other weights than the job's are refused at their count, and not at a limit of the search.
use mathlib.Core.Path.{◌≡◌}
use mathlib.Core.Bool.{true}
use mathlib.Core.List.{List}
use Prim.Native.Nat.{ℕ}
use lib.IntN.{ℤ}
use lib.ListN.{take}
use Rattle.model.specs.declared.Job.{Job}
use Rattle.model.specs.Calls.{Answer, pixels_of, pairs_of, check_answer}
use Rattle.model.specs.RoundTrip.{all_of}
use Rattle.job.specs.Tables.{answer_in}
use Rattle.job.proofs.call.check_or_run.Goals as goal

-- the answer of check, by the counts
checked-in : (j : Job) (s : List ℕ) (o f i w : List ℤ) {n m k : ℕ} → n ≡ pixels_of j.terms → m ≡ pairs_of j.terms → k ≡ all_of j.weighted m →
    j.flowed ≡ true → {a : Answer} → a ≡ check_answer j.terms (take n s) (take k o) (take m f) (take n i) →
    a ≡ answer_in j.terms j.rounds j.weighted j.flowed s o f i w
checked-in j s o f i w pixels pairs weighs b e = cc

pub returns-then-job-clause-result_value : goal.returns-then-job-clause-result_value
returns-then-job-clause-result_value c =
    let a = c.args in
    checked-in a.job a.samples.now a.weights.now a.flow.now a.image.now a.work.now c.pixels-n.ensures c.pairs-m.ensures c.weight_count-count.ensures
    c.if-job.true c.check.ensures.result_value
