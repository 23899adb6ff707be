-- The figures of a flow whose image is at hand.
use mathlib.Core.Path.{◌≡◌, sym, ap₂, ◌∙◌, subst}
use mathlib.Core.List.{List}
use Prim.Native.Nat.{ℕ, ◌+◌, ◌*◌, ◌≤◌}
use native.Mathlib.Omega.{arith}
use lib.IntN.{ℤ, pos, nat_abs, ◌+ℤ◌, ◌-ℤ◌, ◌*ℤ◌}
use lib.ListN.{length}
use lib.Signed.{◌≤ℤ◌}
use mir.Syntax.{w64}
use Rattle.integers.specs.Sum.{total}
use Rattle.integers.proofs.Machine.{read}
use Rattle.lists.specs.Lists.{at}
use Rattle.model.specs.declared.Terms.{Terms}
use Rattle.model.specs.Problem.{Problem, misfit, price, image, floor, slack}
use Rattle.model.specs.Grid.{grid}
use Rattle.calls.proofs.Bounds as Bounds
use Rattle.calls.proofs.Bounds.{largest, largest-fits, image-inside, price-bound, floor-bound}
use Rattle.certificate.proofs.Distance.{floor-below}
use Rattle.certificate.proofs.Grid.{grid-sound}
use Rattle.layout.specs.Runs.{shape_of}
use Rattle.passes.specs.Limits.{FlowLimits}
use Rattle.passes.specs.Pairs.{product_at, first_value, second_value}
use Rattle.passes.proofs.Model.{product_is}
use Rattle.calls.specs.Ready.{PriceReady, FlowReady}
use Rattle.calls.proofs.Jobs.{with_codes, flow-limits, image-size, image-inside-box}
use Rattle.calls.proofs.Objectives.{sized, misfit-held, price-held, floor-is, floor-fits}
use Rattle.calls.proofs.figures.of_flow.Goals as goal

module _ {t : Terms} {samples : List ℕ} {weights flow values : List ℤ} (r : FlowReady t samples weights flow values) (ok : Bounds.Allowed t samples weights) where
  abbrev problem : Problem
  problem = grid t samples weights

  -- its image is one of the box
  priced : PriceReady t samples weights values
  priced =
      record {
        terms = r.terms;
        pair_weights = r.pair_weights;
        samples_length = r.samples_length;
        image_length = image-size t samples weights ok flow r.flow_length r.feasible r.image;
        inside = image-inside-box t samples weights ok flow r.flow_length r.feasible r.image;
      }

  limits : FlowLimits (shape_of t) flow values
  limits = flow-limits t samples weights ok flow r.flow_length r.feasible r.image

  -- from its data term a, its price q and the sum of flow times fall g
  module _ {a q : ℕ} {g : ℤ} (m : pos a ≡ misfit problem (at values)) (l : a ≤ q) (n : pos q ≡ price problem (at values))
      (s : g ≡ total (length flow) (product_at (at flow) (first_value (shape_of t) values) (second_value (shape_of t) values))) where
    small : q ≤ largest
    small = subst (λ (z : ℤ). nat_abs z ≤ largest) (sym n) (price-bound t samples weights ok (at values) priced.inside)

    primal : pos q ≡ price problem (image problem (at flow))
    primal = n ∙ price-held t samples weights flow r.image

    dual-fits : a + 2 * nat_abs g ≤ 3 * largest
    dual-fits =
        floor-fits t samples weights (at flow) (m ∙ misfit-held t samples weights flow r.image) (sized _ s r.flow_length ∙ product_is t samples weights flow r.image) ok r.feasible (omega (arith, small))

    dual : pos a +ℤ pos 2 *ℤ g ≡ floor problem (at flow)
    dual = floor-is t samples weights (at flow) (m ∙ misfit-held t samples weights flow r.image) (sized _ s r.flow_length ∙ product_is t samples weights flow r.image)

  -- the floor is below the price of any image of the box, and of the flow's own
  below : floor problem (at flow) ≤ℤ price problem (image problem (at flow))
  below = floor-below problem (grid-sound t samples weights ok.terms.box) (at flow) r.feasible (image problem (at flow)) (image-inside t samples weights ok (at flow))

pub primal_of-fidelity-requires : goal.primal_of-fidelity-requires
primal_of-fidelity-requires c =
    let r = c.requires in
    priced r (with_codes _ _ _ r.terms r.pair_weights c.of-s.ensures.byte_levels.high_byte c.type_inv.samples)

pub total_product-requires : goal.total_product-requires
total_product-requires c =
    let r = c.requires in
    rw c.of-s.ensures.value (limits r (with_codes _ _ _ r.terms r.pair_weights c.of-s.ensures.byte_levels.high_byte c.type_inv.samples))

pub dual-floor-requires : goal.dual-floor-requires
dual-floor-requires c =
    let r = c.requires in
    let ok = with_codes _ _ _ r.terms r.pair_weights c.of-s.ensures.byte_levels.high_byte c.type_inv.samples in
    let e = c.primal_of-fidelity.ensures in
    let s = read w64 c.total_product.type_inv ∙ rw c.of-s.ensures.value at c.total_product.ensures in
    omega (arith, largest-fits, dual-fits r ok e.fidelity_value e.fidelity_most e.price_value s)

pub gap-requires : goal.gap-requires
gap-requires c =
    let a = c.args in
    let r = c.requires in
    let ok = with_codes _ _ _ r.terms r.pair_weights c.of-s.ensures.byte_levels.high_byte c.type_inv.samples in
    let e = c.primal_of-fidelity.ensures in
    let s = read w64 c.total_product.type_inv ∙ rw c.of-s.ensures.value at c.total_product.ensures in
    rw (read w64 c.dual-floor.type_inv ∙ c.dual-floor.ensures ∙ dual r ok e.fidelity_value e.fidelity_most e.price_value s) (
      omega (arith, largest-fits, small r ok e.fidelity_value e.fidelity_most e.price_value s, floor-bound a.t a.samples.now a.weights.now ok (at a.flow.now) r.feasible),
      rw (primal r ok e.fidelity_value e.fidelity_most e.price_value s) (below r ok),
    )

pub returns : goal.returns
unfolding slack
returns c =
    let r = c.requires in
    let ok = with_codes _ _ _ r.terms r.pair_weights c.of-s.ensures.byte_levels.high_byte c.type_inv.samples in
    let e = c.primal_of-fidelity.ensures in
    let s = read w64 c.total_product.type_inv ∙ rw c.of-s.ensures.value at c.total_product.ensures in
    let f = read w64 c.dual-floor.type_inv ∙ c.dual-floor.ensures ∙ dual r ok e.fidelity_value e.fidelity_most e.price_value s in
    let q = primal r ok e.fidelity_value e.fidelity_most e.price_value s in
    record { price_value = q; floor_value = f; slack_value = c.gap.ensures ∙ ap₂ (λ (a b : ℤ). a -ℤ b) q f }
