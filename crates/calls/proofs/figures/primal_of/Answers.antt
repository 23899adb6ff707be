-- The passes' sums over an image of the box, as the model's.
use mathlib.Core.Path.{ap, ◌∙◌}
use Prim.Native.Nat.{ℕ, ◌+◌, ◌*◌}
use native.Mathlib.Omega.{arith}
use lib.IntN.{pos}
use Rattle.lists.specs.Lists.{at}
use Rattle.calls.proofs.Bounds.{largest-fits}
use Rattle.calls.proofs.Jobs.{with_codes, own-weights, raster-limits, misfit-limits}
use Rattle.calls.proofs.Objectives.{misfit-at, variation_at_lem, price-is, price-fits}
use Rattle.calls.proofs.figures.primal_of.Goals as goal

pub misfit-fidelity-requires : goal.misfit-fidelity-requires
misfit-fidelity-requires c =
    let a = c.args in
    let r = c.requires in
    let ok = with_codes _ _ _ r.terms r.pair_weights c.of-s.ensures.byte_levels.high_byte c.type_inv.samples in
    misfit-limits _ _ _ ok a.image.now r.image_length r.inside r.samples_length

pub total_variation-variation-requires : goal.total_variation-variation-requires
total_variation-variation-requires c =
    let a = c.args in
    let r = c.requires in
    let ok = with_codes _ _ _ r.terms r.pair_weights c.of-s.ensures.byte_levels.high_byte c.type_inv.samples in
    rw c.of-s.ensures.value (raster-limits _ _ _ ok a.image.now r.image_length r.inside, own-weights _ _ _ ok)

pub objective-requires : goal.objective-requires
objective-requires c =
    let a = c.args in
    let r = c.requires in
    let ok = with_codes _ _ _ r.terms r.pair_weights c.of-s.ensures.byte_levels.high_byte c.type_inv.samples in
    let fidelity = misfit-at a.t a.samples.now a.weights.now a.image.now r.image_length c.misfit-fidelity.ensures in
    let falls =
    variation_at_lem a.t a.samples.now a.weights.now a.image.now (rw c.of-s.ensures.value at c.total_variation-variation.ensures)
    in
    rw c.scale.ensures
    (omega (
      arith,
      largest-fits,
      price-fits a.t a.samples.now a.weights.now r.pair_weights (at a.image.now) fidelity falls ok r.inside,
    ))

pub returns : goal.returns
returns c =
    let a = c.args in
    let fidelity = misfit-at a.t a.samples.now a.weights.now a.image.now c.requires.image_length c.misfit-fidelity.ensures in
    let falls =
    variation_at_lem a.t a.samples.now a.weights.now a.image.now (rw c.of-s.ensures.value at c.total_variation-variation.ensures)
    in
    record {
      fidelity_value = fidelity;
      fidelity_most = omega (arith, c.objective.ensures);
      price_value = ap pos (c.objective.ensures ∙ ap (λ (k : ℕ). c.misfit-fidelity.result + 2 * (k * c.total_variation-variation.result)) c.scale.ensures)
          ∙ price-is a.t a.samples.now a.weights.now c.requires.pair_weights (at a.image.now) fidelity falls;
    }
