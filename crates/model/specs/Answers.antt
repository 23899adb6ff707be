-- Document 01's numbers and values for each case of what the calls give: a refusal, or how the call ended (`Ending`), the
-- job (`Job`), the byte count, declared in src/lib.rt (SPECIFICATION 4.3, 4.4, 4.8, 4.9).
use Rattle.std.specs.Prelude.{false, ℕ, pos, Result, Ok, Err}
use Rattle.model.specs.declared.Figures.{Figures}
use Rattle.model.specs.declared.Refusal.{Refusal}
use Rattle.model.specs.declared.Ending.{Ending}
use Rattle.model.specs.declared.Ending.TheVariants.{Checked, Settled, Spent}
use Rattle.model.specs.declared.Job.{Job}
use Rattle.model.specs.Verdict.{number_of}
use Rattle.model.specs.Calls as Calls
use Rattle.model.specs.Calls.{Outcome, refusal, figures, checked, settled, spent}
use Rattle.model.specs.Tape.{nothing, ReadAnswer, WriteAnswer}

-- an accepted call's outcome, moved and figures
abbrev pub accepted : Outcome → ℕ → Figures → Calls.Answer
accepted o moved f = figures o moved (pos f.price) f.floor (pos f.slack)

-- check, price and run
abbrev pub answer_of : Result Ending Refusal → Calls.Answer
answer_of (Err r) = refusal (number_of r.reason) r.place
answer_of (Ok (Checked f)) = accepted checked 0 f
answer_of (Ok (Settled moved f)) = accepted settled moved f
answer_of (Ok (Spent moved f)) = accepted spent moved f

-- Read. Accepted: number and place are 0. Refused: zeros but for number and place
abbrev pub read_answer_of : Result Job Refusal → ReadAnswer
read_answer_of (Ok job) =
    record {
      number = 0;
      place = 0;
      terms = job.terms;
      rounds = job.rounds;
      weighted = job.weighted;
      flowed = job.flowed;
    }
read_answer_of (Err r) =
    record {
      number = number_of r.reason;
      place = r.place;
      terms = nothing.terms;
      rounds = nothing.rounds;
      weighted = false;
      flowed = false;
    }

-- write, in the same way
abbrev pub write_answer_of : Result ℕ Refusal → WriteAnswer
write_answer_of (Ok count) = record { number = 0; place = 0; count = count }
write_answer_of (Err r) = record { number = number_of r.reason; place = r.place; count = 0 }
