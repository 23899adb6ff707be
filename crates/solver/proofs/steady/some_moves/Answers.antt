-- the image of the flow, then the search.
use mathlib.Core.Path.{◌≡◌, ap, ◌∙◌}
use mathlib.Core.List.{List}
use Prim.Native.Nat.{ℕ}
use native.Mathlib.Omega.{arith}
use Rattle.std.specs.Prelude.{is_some}
use Rattle.solver.specs.Scan.{problem_of}
use lib.IntN.{ℤ}
use Rattle.lists.specs.Lists.{at, below}
use Rattle.model.specs.Problem.{pair_count}
use Rattle.model.specs.declared.Terms.{Terms}
use Rattle.model.specs.Rounds.{nearest_eighth, first_moving}
use Rattle.stencil.specs.Limits.{most}
use Rattle.passes.specs.Limits.{Within}
use Rattle.passes.proofs.Model.{moving_is}
use Rattle.image.proofs.Model.{image-filled}
use Rattle.passes.proofs.Moving.{some_is}
use Rattle.solver.specs.Ready.{SteadyReady}
use Rattle.solver.proofs.Passes.{fill_limits, flow-limits, pair_weights}
use Rattle.solver.proofs.steady.some_moves.Goals as goal

flow_most : {t : Terms} {samples : List ℕ} {weights flow image : List ℤ} → SteadyReady t samples weights flow image → Within most flow
flow_most p i = omega (arith, p.flow_most i)

pub fill_image-requires : goal.fill_image-requires
fill_image-requires c =
    let p = c.requires in
    rw c.of-s.ensures.value
    (fill_limits c.args.scan.terms c.args.scan.samples.now p.limits p.lengths.flow_length (flow_most p) p.lengths.samples_length p.lengths.image_length)

pub first_moving-requires : goal.first_moving-requires
first_moving-requires c =
    let p = c.requires in
    let a = c.args in
    let k = c.of-s.ensures.byte_levels in
    let filled = image-filled a.scan.terms a.scan.samples.now a.flow.now c.of-s.ensures.value c.args.scan.box_ends c.fill_image.ensures in
    rw (c.of-s.ensures.value, c.args.scan.weight_is) (
      flow-limits a.scan.terms a.scan.samples.now p.limits p.lengths.flow_length (flow_most p) k.low_byte k.high_byte filled,
      pair_weights a.scan.terms a.scan.weights.own.now p.limits p.pair_weights,
    )

pub returns : goal.returns
returns c =
    let p = c.requires in
    let a = c.args in
    let o = a.scan.weights.own.now in
    let filled = image-filled a.scan.terms a.scan.samples.now a.flow.now c.of-s.ensures.value a.scan.box_ends c.fill_image.ensures in
    let n : ℕ = pair_count (problem_of a.scan) in
    let f : ℕ = first_moving nearest_eighth (problem_of a.scan) (at a.flow.now) in
    let answer : c.first_moving.result ≡ below n f =
    rw (c.of-s.ensures.value, p.lengths.flow_length) at (rw a.scan.weight_is at c.first_moving.ensures)
    ∙ ap (below n) (moving_is a.scan.terms a.scan.samples.now o a.flow.now filled nearest_eighth p.pair_weights)
    in
    record { image_after = filled; value = c.is_some.ensures ∙ ap is_some answer ∙ some_is n f }
