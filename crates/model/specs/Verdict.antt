-- Refusals: a call goes down the rows of document 01's table and is refused at the first that applies (SPECIFICATION 4.3, 6.1).
use Rattle.std.specs.Prelude.{Bool, true, false, List, [], ◌∷◌, ℕ, Result, Ok, Err}
use Rattle.model.specs.declared.Reason.{Reason}
use Rattle.model.specs.declared.Reason.TheVariants.{Size, Weight, Levels, SampleCount, FlowCount, ImageCount, WorkCount, BeyondWeight, OutsideBox, QuickRounds, UnknownKind, CutRecord, OutOfOrder, TrailingByte, ShortBuffer, LongInput, MissingRecord, WeightCount, Other}
use Rattle.model.specs.declared.Refusal.{Refusal}

-- what the tests come to: accepted, or refused with a number and a place
pub data Verdict : Type 0 where
  Accept : Verdict
  Refuse : ℕ → ℕ → Verdict

-- a row of the table: its condition, its number and its place
pub record Row : Type 0 where
  pub applies : Bool
  pub number : ℕ
  pub place : ℕ

abbrev pub row : Bool → ℕ → ℕ → Row
row applies number place = record { applies = applies; number = number; place = place }

-- this verdict where the test holds, else the other
abbrev pub or_else : Bool → Verdict → Verdict → Verdict
or_else true v w = v
or_else false v w = w

unfoldable pub first_refusal : List Row → Verdict
first_refusal [] = Accept
first_refusal (r ∷ rows) = or_else r.applies (Refuse r.number r.place) (first_refusal rows)

-- what an accepted call leaves or gives, and what a refused one does
abbrev pub decided {ℓ} : {A : Type ℓ} → Verdict → A → (ℕ → ℕ → A) → A
decided Accept new other = new
decided (Refuse number place) new other = other number place

-- a buffer after a call: new values where it is accepted, its former values where it is refused
abbrev pub left {ℓ} : {A : Type ℓ} → Verdict → A → A → A
left Accept new former = new
left (Refuse number place) new former = former

-- ---- The code's refusals (`Refusal`, declared in src/lib.rt, has a reason in place of the number)

-- document 01's number for each reason
abbrev pub number_of : Reason → ℕ
number_of Size = 1
number_of Weight = 2
number_of Levels = 3
number_of SampleCount = 4
number_of FlowCount = 5
number_of ImageCount = 6
number_of WorkCount = 7
number_of BeyondWeight = 8
number_of OutsideBox = 9
number_of QuickRounds = 10
number_of UnknownKind = 12
number_of CutRecord = 13
number_of OutOfOrder = 14
number_of TrailingByte = 15
number_of ShortBuffer = 16
number_of LongInput = 17
number_of MissingRecord = 18
number_of WeightCount = 19
number_of (Other other) = other.number

-- the verdict that a result tells
abbrev pub verdict_of : {A : Type 0} → Result A Refusal → Verdict
verdict_of (Ok value) = Accept
verdict_of (Err r) = Refuse (number_of r.reason) r.place

-- a result with number and place in place of its refusal, and such a refusal
abbrev pub told : {A : Type 0} → Result A Refusal → Result A (ℕ × ℕ)
told (Ok value) = Ok value
told (Err r) = Err (number_of r.reason, r.place)

abbrev pub refused : {A : Type 0} → ℕ → ℕ → Result A (ℕ × ℕ)
refused number place = Err (number, place)
