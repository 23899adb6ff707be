-- A job's terms and rounds from plain numbers, and an answer as plain numbers.
use Rattle.std.specs.Prelude.{cond, ◌≡◌, ℕ, zero, suc, ℤ, pos}
use Rattle.model.specs.declared.Terms.{Terms}
use Rattle.model.specs.declared.Rounds.{Rounds}
use Rattle.model.specs.Calls.{Outcome, refused, checked, settled, spent, Answer}
use Rattle.model.specs.Tape.{ReadAnswer, WriteAnswer}

abbrev pub terms_of : (width height weight low high : ℕ) → Terms
terms_of width height weight low high =
    record { width = width; height = height; weight = weight; low = low; high = high }

abbrev pub rounds_of : (quick allowance : ℕ) → Rounds
rounds_of quick allowance = record { quick = quick; allowance = allowance }

-- 0 refused, 1 checked, 2 settled, 3 spent
abbrev pub outcome_number : Outcome → ℕ
outcome_number refused = 0
outcome_number checked = 1
outcome_number settled = 2
outcome_number spent = 3

-- .. and the outcome that a number tells
abbrev pub outcome_of : ℕ → Outcome
outcome_of zero = refused
outcome_of (suc zero) = checked
outcome_of (suc (suc zero)) = settled
outcome_of (suc (suc (suc n))) = spent

-- the answer that plain numbers tell
abbrev pub answer_from : (number place outcome moved price : ℕ) (floor : ℤ) (slack : ℕ) → Answer
answer_from number place outcome moved price floor slack =
    record {
      outcome = outcome_of outcome;
      number = number;
      place = place;
      moved = moved;
      price = pos price;
      floor = floor;
      slack = pos slack;
    }

-- What price, check and run hand out: the plain numbers n, q, o, m, p, f and s are those of an answer
pub record AnswerNumbers (n q o m p : ℕ) (f : ℤ) (s : ℕ) (a : Answer) : Type 0 where
  pub number : n ≡ a.number
  pub place : q ≡ a.place
  pub outcome : o ≡ outcome_number a.outcome
  pub moved : m ≡ a.moved
  pub price : pos p ≡ a.price
  pub floor : f ≡ a.floor
  pub slack : pos s ≡ a.slack

-- What read hands out: n and q are the number and place of its answer, t and r the job's terms and rounds, w is 1 where weights
-- were there, f is 1 where a flow was, else 0
pub record JobNumbers (n q : ℕ) (t : Terms) (r : Rounds) (w f : ℕ) (a : ReadAnswer) : Type 0 where
  pub number : n ≡ a.number
  pub place : q ≡ a.place
  pub terms : t ≡ a.terms
  pub rounds : r ≡ a.rounds
  pub weighted : w ≡ cond a.weighted 1 0
  pub flowed : f ≡ cond a.flowed 1 0

-- What write hands out: number, place and byte count of its answer
pub record WriteNumbers (n q c : ℕ) (a : WriteAnswer) : Type 0 where
  pub number : n ≡ a.number
  pub place : q ≡ a.place
  pub count : c ≡ a.count
