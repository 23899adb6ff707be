-- the image of the numbers ahead, then all pairs.
use mathlib.Core.Path.{◌≡◌, sym, ◌∙◌}
use Prim.Native.Nat.{ℕ, ◌-◌}
use mathlib.Core.List.{List}
use lib.IntN.{ℤ}
use lib.ListN.{length}
use Rattle.model.specs.declared.Terms.{Terms}
use Rattle.model.specs.Grid.{grid_pairs}
use Rattle.model.specs.Rounds.{eighth, next_momentum, quick_round}
use Rattle.momentum.specs.Reciprocal.{Reciprocal}
use Rattle.passes.proofs.Model.{weights-within}
use Rattle.image.proofs.Model.{image-filled}
use Rattle.solver.specs.Ready.{QuickReady}
use Rattle.solver.proofs.QuickRound.{next_range, factor_most, iterate-is, ahead-is}
use Rattle.solver.proofs.Passes.{fill_limits, flow-limits, pair_weights}
use Rattle.solver.proofs.quick.advance_round.Goals as goal

-- a number ahead for each pair
ahead-length : {t : Terms} {samples : List ℕ} {weights flow ahead image : List ℤ} {momentum : ℕ} →
    QuickReady t samples weights flow ahead image momentum → length ahead ≡ length (grid_pairs t.width t.height)
ahead-length p = sym p.same_length ∙ p.lengths.flow_length

pub fill_image-requires : goal.fill_image-requires
fill_image-requires c =
    let p = c.requires in
    rw c.of-s.ensures.value
    (fill_limits c.args.scan.terms c.args.scan.samples.now p.limits (ahead-length p) p.ahead_most p.lengths.samples_length p.lengths.image_length)

pub reciprocal-factor-requires : goal.reciprocal-factor-requires
reciprocal-factor-requires c =
    let p = c.requires in
    rw c.next_momentum-next.ensures (next_range _ p.momentum_least p.momentum_most)

pub advance_pairs-requires : goal.advance_pairs-requires
advance_pairs-requires c =
    let p = c.requires in
    let a = c.args in
    let k = c.of-s.ensures.byte_levels in
    let filled = image-filled a.scan.terms a.scan.samples.now a.ahead.now c.of-s.ensures.value c.args.scan.box_ends c.fill_image.ensures in
    let by_next : Reciprocal (a.momentum - 65536) (next_momentum a.momentum) c.reciprocal-factor.result =
    rw (← c.next_momentum-next.ensures) c.reciprocal-factor.ensures
    in
    rw (c.args.scan.weight_is, c.of-s.ensures.value) (
      flow-limits a.scan.terms a.scan.samples.now p.limits (ahead-length p) p.ahead_most k.low_byte k.high_byte filled,
      pair_weights a.scan.terms a.scan.weights.own.now p.limits p.pair_weights,
      record {
        same_length = p.same_length;
        weight_most = p.limits.weight_most;
        weights_most = weights-within a.scan.terms a.scan.weights.own.now p.pair_weights;
        flow_most = p.flow_most;
        factor_most = factor_most _ _ p.momentum_least p.momentum_most by_next;
      },
    )

pub returns : goal.returns
returns c =
    let p = c.requires in
    let a = c.args in
    let e = image-filled a.scan.terms a.scan.samples.now a.ahead.now c.of-s.ensures.value c.args.scan.box_ends c.fill_image.ensures in
    let by_next : Reciprocal (a.momentum - 65536) (next_momentum a.momentum) c.reciprocal-factor.result =
    rw (← c.next_momentum-next.ensures) c.reciprocal-factor.ensures
    in
    record {
      flow_after =
          rw (c.of-s.ensures.value, p.lengths.flow_length) at (rw (c.args.scan.weight_is) at c.advance_pairs.ensures.flow_after)
          ∙ iterate-is a.scan.terms a.scan.samples.now a.scan.weights.own.now p.limits p.pair_weights eighth a.flow.now a.ahead.now a.momentum e;
      ahead_after =
          rw (c.of-s.ensures.value, p.lengths.flow_length) at (rw (c.args.scan.weight_is) at c.advance_pairs.ensures.ahead_after)
          ∙ ahead-is a.scan.terms a.scan.samples.now a.scan.weights.own.now p.limits p.pair_weights eighth a.flow.now a.ahead.now a.momentum e _ p.flow_most
          p.momentum_least p.momentum_most by_next;
      value = unfold quick_round in c.next_momentum-next.ensures;
      image_after = e;
    }
