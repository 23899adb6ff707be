use mathlib.Core.Path.{◌≡◌}
use native.Mathlib.Omega.{arith}
use Rattle.solver.proofs.QuickRounds.{turned_none, turned-ready, turned_more, turned-work}
use Rattle.solver.proofs.quick.quick_rounds.Goals as goal

pub loop-k-init : goal.loop-k-init
loop-k-init c = turned_none c.requires (c.fill.ensures.after (λ y e. e)) (c.fill-2.ensures.after (λ y e. e))

pub quick_round-momentum-requires : goal.quick_round-momentum-requires
quick_round-momentum-requires c = (
  turned-work c.loop-k.invariant,
  turned-ready c.loop-k.invariant c.requires (omega arith),
)

pub loop-k-preserved : goal.loop-k-preserved
loop-k-preserved c =
    let e = c.quick_round-momentum.ensures in
    turned_more c.loop-k.invariant (omega arith) c.quick_round-momentum.auto.image e.flow_after e.work_after e.value e.image_after

pub returns : goal.returns
returns c =
    let k : c.loop-k.k ≡ c.args.quick = omega (arith, c.loop-k.invariant.round_most) in
    let v = c.loop-k.invariant in
    record { flow_after = rw k at v.flow-is; image_after = rw k at v.image-is; work_after = rw k at v.work_is }
