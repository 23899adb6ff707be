-- The root lies from `low` on, below `low + reach`. The measure is the reach.
use Prim.Native.Nat.{◌+◌, ◌*◌, ◌^◌, ◌≤◌, ◌<◌}
use Rattle.momentum.proofs.root.Given as goal

abbrev pub invariant-loop-reach : goal.invariant-loop-reach
invariant-loop-reach l =
    (l.low * l.low ≤ 65536 * 65536 + 4 * (l.t * l.t)) × (65536 * 65536 + 4 * (l.t * l.t) < (l.low + l.reach) * (l.low + l.reach)) × (1 ≤ l.reach) × (l.reach ≤ 65537) × (l.low < 2 ^ 31)

abbrev pub decreases-loop-reach : goal.decreases-loop-reach
decreases-loop-reach l = l.reach
