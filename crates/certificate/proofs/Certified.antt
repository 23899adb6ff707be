-- The certificate of a buffer that holds a flow's image, with the figures given for it: against every image of the box, and
-- against every other flow's image. Assumes nothing.
use mathlib.Core.Path.{◌≡◌, refl, sym, ap₂, ◌∙◌, subst}
use Prim.Native.Nat.{ℕ}
use lib.IntN.{ℤ, pos, ◌+ℤ◌, ◌*ℤ◌}
use lib.Signed.{◌≤ℤ◌}
use Rattle.model.specs.Problem.{Problem, Feasible, price, image, distance}
use Rattle.model.specs.Demand.{HasFigures, WithinSlacks, Certified}
use Rattle.certificate.proofs.Lagrangian.{Sound}
use Rattle.certificate.proofs.Congruence.{Agree, price-cong, distance-cong}
use Rattle.certificate.proofs.Distance.{distance-law, equal-images}
use Rattle.certificate.proofs.TwoFlows.{twice_the_distance, within-slacks}

-- what agrees with two images at the pixels is as near as they are
near-cong : (p : Problem) {x y v w : ℕ → ℤ} {s r q u : ℤ} → Agree p.pixels x v → Agree p.pixels y w → s ≡ q → r ≡ u →
    (pos 2 *ℤ distance p v w) ≤ℤ (q +ℤ u) → WithinSlacks p x y s r
near-cong p {x} {y} {v} {w} {s} {r} same also e h near =
    within-slacks p x y s r
    (subst (λ (d : ℤ). (pos 2 *ℤ d) ≤ℤ (s +ℤ r)) (sym (distance-cong p same also))
    (subst (λ (b : ℤ). (pos 2 *ℤ distance p v w) ≤ℤ b) (sym (ap₂ (λ (a b : ℤ). a +ℤ b) e h)) near))

pub certified-figures : (p : Problem) → Sound p → (f : ℕ → ℤ) → Feasible p f → {x : ℕ → ℤ} {c d s : ℤ} → HasFigures p f x c d s →
    Certified p x c s
certified-figures p sound f within {x} {c} {d} {s} figures =
    let priced : c ≡ price p (image p f) = figures.prices ∙ price-cong p sound figures.images in
    record {
      close =
          λ y inside.
          let law : (c +ℤ distance p (image p f) y) ≤ℤ (price p y +ℤ s) =
          rw (priced, figures.slacks) (distance-law p sound f within y inside)
          in
          subst (λ (v : ℤ). (c +ℤ v) ≤ℤ (price p y +ℤ s)) (sym (distance-cong p figures.images (λ i l. refl))) law;
      exact =
          λ y inside none. (
            λ e i l.
                figures.images i l
                ∙ equal-images p sound f within y inside (sym figures.slacks ∙ none) (sym priced ∙ e) i l,
            λ equal. figures.prices ∙ price-cong p sound equal,
          );
      others =
          λ g also.
          near-cong p figures.images (λ i l. refl) figures.slacks refl (twice_the_distance p sound f g within also);
    }

-- A certified image and a buffer that holds another flow's, with their slacks
pub certified-both : (p : Problem) {x y : ℕ → ℤ} {c s a b r : ℤ} (g : ℕ → ℤ) → Certified p x c s → Feasible p g → HasFigures p g y a b r →
    WithinSlacks p x y s r
certified-both p g certified within figures =
    near-cong p (λ i l. refl) figures.images refl figures.slacks (certified.others g within).near
