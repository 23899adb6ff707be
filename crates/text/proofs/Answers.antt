-- The text of an accepted answer. Assumes nothing.
use mathlib.Core.Path.{◌≡◌, refl}
use mathlib.Core.List.{List, ◌++◌}
use Prim.Native.Nat.{ℕ}
use lib.IntN.{ℤ, pos}
use Rattle.model.specs.declared.Terms.{Terms}
use Rattle.model.specs.Text.{ascii}
use Rattle.model.specs.declared.Figures.{Figures}
use Rattle.model.specs.Calls.{Outcome, checked, settled, spent}
use Rattle.model.specs.Answers.{accepted}
use Rattle.model.specs.Program.{word, numbers_text, figures_text, image_text, answer_text}

pub data Accepted : Outcome → Type 0 where
  was_checked : Accepted checked
  has_settled : Accepted settled
  was_spent : Accepted spent

pub accepted-text : (t : Terms) (values : List ℤ) (m : ℕ) (f : Figures) {k : Outcome} → Accepted k →
    ascii "outcome moved price floor slack\n" ++ ascii (word k) ++ numbers_text m (pos f.price) f.floor (pos f.slack) ++ image_text t values
    ≡ answer_text (accepted k m f) t values
unfolding answer_text figures_text
accepted-text t values m f was_checked = refl
accepted-text t values m f has_settled = refl
accepted-text t values m f was_spent = refl
