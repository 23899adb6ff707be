-- The plain numbers of an answer are those of an equal answer. Assumes nothing.
use mathlib.Core.Path.{◌≡◌, sym, subst}
use Prim.Native.Nat.{ℕ}
use lib.IntN.{ℤ}
use Rattle.model.specs.Calls.{Answer}
use Rattle.model.specs.Plain.{AnswerNumbers}

-- price, check and run; the sign of a floor is read from its bits
pub same : {number place outcome moved price : ℕ} {floor bits : ℤ} {slack : ℕ} {a b : Answer} → a ≡ b → bits ≡ floor → AnswerNumbers number place outcome moved price floor slack a →
    AnswerNumbers number place outcome moved price bits slack b
same {number} {place} {outcome} {moved} {price} {floor} {bits} {slack} {a} {b} e f h =
    subst (λ (z : ℤ). AnswerNumbers number place outcome moved price z slack b) (sym f) (subst (AnswerNumbers number place outcome moved price floor slack) e h)
