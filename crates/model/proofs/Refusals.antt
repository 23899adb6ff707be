-- Laws of the first refusal, by which a call's code goes down the rows of its table. Assumes nothing.
use mathlib.Core.Path.{◌≡◌, refl, sym, ap, ap₂, ◌∙◌}
use mathlib.Core.Bool.{Bool, true, false}
use mathlib.Core.List.{List, [], ◌∷◌, ◌++◌}
use Prim.Native.Nat.{ℕ, ◌<◌}
use native.Mathlib.Omega.{arith}
use Rattle.std.specs.Prelude.{Result, Ok, Err}
use Rattle.model.specs.declared.Refusal.{Refusal}
use Rattle.model.specs.Verdict.{Verdict, Accept, Refuse, Row, or_else, first_refusal, decided, verdict_of}

pub accepted : first_refusal [] ≡ Accept
unfolding first_refusal
accepted = refl

module _ (r : Row) (rows : List Row) where
  -- the first row applies
  pub refused : r.applies ≡ true → first_refusal (r ∷ rows) ≡ Refuse r.number r.place
  unfolding first_refusal
  refused e = ap (λ (t : Bool). or_else t (Refuse r.number r.place) (first_refusal rows)) e

  -- it does not: the rows below it decide
  pub passed : r.applies ≡ false → first_refusal (r ∷ rows) ≡ first_refusal rows
  unfolding first_refusal
  passed e = ap (λ (t : Bool). or_else t (Refuse r.number r.place) (first_refusal rows)) e

-- the rows of two tables, one after the other
pub first_refusal-append : (upper lower : List Row) →
    first_refusal (upper ++ lower) ≡ decided (first_refusal upper) (first_refusal lower) Refuse
unfolding first_refusal
first_refusal-append [] lower = refl
first_refusal-append (r ∷ upper) lower = split r.applies (first_refusal-append upper lower)
  where
    split : (t : Bool) → first_refusal (upper ++ lower) ≡ decided (first_refusal upper) (first_refusal lower) Refuse →
        or_else t (Refuse r.number r.place) (first_refusal (upper ++ lower))
        ≡ decided (or_else t (Refuse r.number r.place) (first_refusal upper)) (first_refusal lower) Refuse
    split true ih = refl
    split false ih = ih

-- a row of an accepted table does not apply, and the rows below it accept
pub accepted-row : (r : Row) (rows : List Row) → first_refusal (r ∷ rows) ≡ Accept →
    (r.applies ≡ false) × (first_refusal rows ≡ Accept)
unfolding first_refusal
accepted-row r rows h = split r.applies refl h
  where
    split : (t : Bool) → r.applies ≡ t → or_else t (Refuse r.number r.place) (first_refusal rows) ≡ Accept →
        (r.applies ≡ false) × (first_refusal rows ≡ Accept)
    split true e k = let z : ◌≡◌ {A = Bool} true false = cc in (e ∙ z, cc)
    split false e k = (e, k)

-- no row of an accepted table applies
abbrev pub NoneApply : List Row → Type 0
NoneApply [] = Unit {0}
NoneApply (r ∷ rows) = (r.applies ≡ false) × NoneApply rows

pub accepted-rows : (rows : List Row) → first_refusal rows ≡ Accept → NoneApply rows
accepted-rows [] h = tt
accepted-rows (r ∷ rows) h = let a = accepted-row r rows h in (a.0, accepted-rows rows a.1)

-- the first of two verdicts that refuses is that of their rows, one after the other
module _ (upper lower : List Row) where
  pub joined : {v a b : Verdict} → v ≡ decided a b Refuse → a ≡ first_refusal upper → b ≡ first_refusal lower → v ≡ first_refusal (upper ++ lower)
  joined e f g = e ∙ ap₂ (λ (x y : Verdict). decided x y Refuse) f g ∙ sym (first_refusal-append upper lower)

  module _ {A : Type 0} {r : Result A Refusal} (f : verdict_of r ≡ first_refusal upper) where
    -- the upper rows refuse, and those below are not looked at: what a `?` gives
    pub stopped : {B : Type 0} {s : Result B Refusal} {e : Refusal} → r ≡ Err e → s ≡ Err e → verdict_of s ≡ first_refusal (upper ++ lower)
    stopped h k =
        joined (ap verdict_of k ∙ sym (ap (λ (x : Result A Refusal). decided (verdict_of x) (first_refusal lower) Refuse) h)) f refl

    -- they accept: those below decide
    pub went_on : {a : A} {v : Verdict} → r ≡ Ok a → v ≡ first_refusal lower → v ≡ first_refusal (upper ++ lower)
    went_on {v} h g = joined (sym (ap (λ (x : Result A Refusal). decided (verdict_of x) v Refuse) h)) f g

-- the verdict of a result that is known
pub passes : {A : Type 0} {r s : Result A Refusal} {v : Verdict} → verdict_of r ≡ v → r ≡ s → v ≡ verdict_of s
passes f h = sym f ∙ ap verdict_of h

-- ---- no row has the number 0, so a refusal is never taken for an acceptance

abbrev pub Numbered : List Row → Type 0
Numbered [] = Unit {0}
Numbered (r ∷ rows) = (0 < r.number) × Numbered rows

pub refused-number : (rows : List Row) → Numbered rows → {n p : ℕ} → first_refusal rows ≡ Refuse n p → 0 < n
unfolding first_refusal
refused-number [] h e = let z : ◌≡◌ {A = ℕ} 0 1 = cc in absurd (omega arith)
refused-number (r ∷ rows) h {n} {p} e = split r.applies e (refused-number rows h.1)
  where
    split : (t : Bool) → or_else t (Refuse r.number r.place) (first_refusal rows) ≡ Refuse n p →
        (first_refusal rows ≡ Refuse n p → 0 < n) → 0 < n
    split true k ih = let same : r.number ≡ n = cc in omega (arith, h.0)
    split false k ih = ih k
