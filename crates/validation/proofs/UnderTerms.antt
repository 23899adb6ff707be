-- The rows of a call's table: those of the terms, then those below them; and the rows of a price, for the ends of the box.
-- Assumes nothing.
use mathlib.Core.Path.{◌≡◌, refl, sym, ap, ap₂, ◌∙◌}
use mathlib.Core.Bool.{true}
use mathlib.Core.List.{List, [], ◌∷◌, ◌++◌}
use Prim.Native.Nat.{ℕ}
use lib.IntN.{ℤ}
use Rattle.model.specs.declared.Terms.{Terms}
use Rattle.model.specs.Grid.{size_allowed}
use Rattle.model.specs.Verdict.{Verdict, Accept, Refuse, Row, first_refusal, decided}
use Rattle.model.specs.Calls.{pixels_of, pairs_of, size_row, weight_row, box_row, length_row, optional_row, pair_weights_row, first_outside, price_verdict}
use Rattle.model.proofs.Refusals.{first_refusal-append}
use Rattle.validation.proofs.Accepted.{accepted-size}
use Rattle.stencil.specs.Ends.{BoxEnds}
use Rattle.validation.specs.Outside.{outside_row}

module _ (t : Terms) where
  abbrev pub terms_rows : List Row
  terms_rows = size_row t 0 ∷ weight_row t.weight 0 ∷ box_row t 0 ∷ []

  -- the rows below need to be right only for an allowed size
  pub under_terms : (lower : List Row) {v a b : Verdict} → v ≡ decided a b Refuse → a ≡ first_refusal terms_rows →
      (size_allowed t.width t.height ≡ true → b ≡ first_refusal lower) → v ≡ first_refusal (terms_rows ++ lower)
  under_terms lower {v} {a} {b} e f g =
      e
      ∙ ap (λ (x : Verdict). decided x b Refuse) f
      ∙ go (first_refusal terms_rows) refl
      ∙ sym (first_refusal-append terms_rows lower)
    where
      go : (x : Verdict) → first_refusal terms_rows ≡ x → decided x b Refuse ≡ decided x (first_refusal lower) Refuse
      go Accept h = g (accepted-size t h)
      go (Refuse number place) h = refl

  module _ (samples : List ℕ) (weights values : List ℤ) where
    -- the rows of a price, by two ends
    abbrev price_rows : ℤ → ℤ → List Row
    price_rows low high =
        terms_rows
        ++ (length_row 4 samples (pixels_of t)
        ∷ optional_row 19 weights (pairs_of t)
        ∷ length_row 6 values (pixels_of t)
        ∷ pair_weights_row weights
        ∷ outside_row low high values
        ∷ [])

    -- by those of the box they give the model's verdict
    pub price-verdict : {low high : ℤ} → BoxEnds t low high → first_refusal (price_rows low high) ≡ price_verdict t samples weights values
    unfolding first_outside price_verdict
    price-verdict ends = ap₂ (λ (a b : ℤ). first_refusal (price_rows a b)) ends.low_is ends.high_is
