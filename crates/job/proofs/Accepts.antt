-- A job whose tape was read whole is refused by no call any more. Assumes nothing.
use mathlib.Core.Path.{◌≡◌, refl}
use mathlib.Core.Bool.{Bool, true, false, cond}
use mathlib.Core.List.{List}
use mathlib.Core.Logic.{⊎_elim}
use Prim.Native.Nat.{ℕ, ◌*◌, ◌<◌}
use lib.Dec.{eqb}
use lib.IntN.{ℤ, pos}
use lib.ListN.{length, get_or, length-replicate}
use borrow.Author.Tests.{eqb-false}
use Rattle.model.specs.declared.Terms.{Terms}
use Rattle.model.specs.declared.Lent.{Lent}
use Rattle.lists.specs.Lists.{zeros}
use Rattle.model.specs.Calls.{pixels_of, pairs_of, check_answer, run_answer}
use Rattle.model.specs.Accepted.{JobAllowed}
use Rattle.model.specs.Tape.{Progress, whole, lent_by, parse}
use Rattle.model.specs.Program.{job_answer}
use Rattle.model.proofs.Accepted.{check_number, run-number}
use Rattle.roundtrip.proofs.Accepted.{accepted-job}
use Rattle.roundtrip.proofs.Judged.{passed_parse}
use Rattle.roundtrip.proofs.RoundTrip.{job-allowed}

module _ (p : Progress) (k : JobAllowed p.terms p.rounds p.samples p.weights p.flow) where
  abbrev t : Terms
  t = p.terms

  job-number : (job_answer p).number ≡ 0
  unfolding job_answer
  job-number = go (eqb (length p.flow) 0) refl
    where
      go : (b : Bool) → eqb (length p.flow) 0 ≡ b →
          (cond b
          (run_answer t p.rounds p.samples p.weights (zeros (pairs_of t)) (zeros (pixels_of t)) (zeros (2 * pairs_of t)))
          (check_answer t p.samples p.weights p.flow (zeros (pixels_of t)))
          ).number
          ≡ 0
      go true e =
          (run-number t p.rounds p.samples p.weights _ _ _).1
          (record {
            terms = k.terms;
            pair_weights = k.pair_weights;
            quick_most = k.quick_most;
            samples_length = k.samples_length;
            flow_length = length-replicate (pairs_of t) (pos 0);
            image_length = length-replicate (pixels_of t) (pos 0);
            work_length = length-replicate (2 * pairs_of t) (pos 0);
          })
      go false e =
          (check_number t p.samples p.weights p.flow _).1
          (record {
            terms = k.terms;
            pair_weights = k.pair_weights;
            samples_length = k.samples_length;
            flow_length =
                ⊎_elim (λ (z : length p.flow ≡ 0). absurd (eqb-false _ _ e z)) (λ (h : length p.flow ≡ pairs_of t). h)
                k.flow_length;
            image_length = length-replicate (pixels_of t) (pos 0);
            contents = k.contents;
          })

pub whole-accepted : (tape samples : List ℕ) (weights flow : List ℤ) → ((i : ℕ) → get_or tape i 0 < 256) → (p : Progress) →
    parse tape (lent_by samples weights flow) ≡ whole p → (job_answer p).number ≡ 0
whole-accepted tape samples weights flow byte p e =
    let lent : Lent = lent_by samples weights flow in
    let (all_read, within) = passed_parse tape samples weights flow p e in
    job-number p
    (job-allowed tape byte lent p (accepted-job tape lent byte refl p all_read) within)
