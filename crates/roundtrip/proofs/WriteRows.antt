-- What write gives and leaves by the verdict of its rows, and that it accepts exactly what is allowed. Assumes nothing.
use mathlib.Core.Path.{◌≡◌, refl, ap}
use mathlib.Core.List.{List}
use Prim.Native.Nat.{ℕ}
use native.Mathlib.Omega.{arith}
use lib.IntN.{ℤ}
use lib.ListN.{length}
use Rattle.lists.specs.Lists.{overwritten}
use Rattle.model.specs.declared.Terms.{Terms}
use Rattle.model.specs.declared.Rounds.{Rounds}
use Rattle.model.specs.Verdict.{Verdict, Accept, Refuse, first_refusal, left}
use Rattle.model.specs.Accepted.{WriteAllowed}
use Rattle.model.proofs.Accepted.{write_accepted}
use mathlib.Core.Logic.{◌↔◌}
use Rattle.model.specs.Tape.{WriteAnswer, tape_of, write_rows, write_verdict, write_of, write_answer, write_output}
use Rattle.model.proofs.Refusals.{refused-number}

-- what write gives and leaves, by the verdict of the rows
module _ (t : Terms) (r : Rounds) (samples : List ℕ) (weights numbers : List ℤ) (output : List ℕ) {v : Verdict}
    (e : first_refusal (write_rows t r samples weights numbers (length output)) ≡ v) where
  pub written_answer : write_answer t r samples weights numbers output ≡ write_of v (length (tape_of t r samples weights numbers))
  unfolding write_answer write_verdict
  written_answer = ap (λ (x : Verdict). write_of x (length (tape_of t r samples weights numbers))) e

  pub written-output :
      write_output t r samples weights numbers output ≡ left v (overwritten (tape_of t r samples weights numbers) output) output
  unfolding write_output write_verdict
  written-output = ap (λ (x : Verdict). left x (overwritten (tape_of t r samples weights numbers) output) output) e

-- an answer with number 0 is an acceptance
pub accepted-answer : (t : Terms) (r : Rounds) (samples : List ℕ) (weights numbers : List ℤ) (output : List ℕ) →
    (write_answer t r samples weights numbers output).number ≡ 0 →
    first_refusal (write_rows t r samples weights numbers (length output)) ≡ Accept
unfolding write_answer write_verdict
accepted-answer t r samples weights numbers output h =
    go (first_refusal (write_rows t r samples weights numbers (length output))) refl h
  where
    go : (v : Verdict) → first_refusal (write_rows t r samples weights numbers (length output)) ≡ v →
        (write_of v (length (tape_of t r samples weights numbers))).number ≡ 0 → v ≡ Accept
    go Accept e z = refl
    go (Refuse n p) e z =
        absurd (omega (arith, refused-number (write_rows t r samples weights numbers (length output)) (omega arith) e))

-- .. so write accepts exactly the jobs that are allowed
pub write_number : (t : Terms) (r : Rounds) (samples : List ℕ) (weights numbers : List ℤ) (output : List ℕ) →
    ((write_answer t r samples weights numbers output).number ≡ 0) ↔ WriteAllowed t r samples weights numbers output
write_number t r samples weights numbers output =
    let rows = write_accepted t r samples weights numbers output in (
      λ z. rows.0 (accepted-answer t r samples weights numbers output z),
      λ k. ap (λ (a : WriteAnswer). a.number) (written_answer t r samples weights numbers output (rows.1 k)),
    )
