use mathlib.Core.Path.{ap}
use Prim.Native.Nat.{ℕ, ◌+◌, ◌*◌, ◌/◌, ◌^◌, ◌<◌}
use native.Mathlib.Omega.{arith}
use Rattle.model.specs.Root.{root}
use Rattle.model.specs.Rounds.{next_momentum}
use Rattle.model.proofs.Root.{root-square}
use Rattle.momentum.proofs.Squares.{square-most, below-2³¹}
use Rattle.momentum.proofs.next_momentum.Goals as goal

pub overflow_add-result : goal.overflow_add-result
overflow_add-result c =
    let t = c.args.t in
    let n : ℕ = 65536 * 65536 + 4 * (t * t) in
    let small : root n < 2 ^ 31 = below-2³¹ (root n) n (root-square n) (omega (arith, square-most t c.requires)) in
    record { fits = omega (arith, c.root.ensures) }

pub returns : goal.returns
unfolding next_momentum
returns c = ap (λ (r : ℕ). (65536 + r) / 2) c.root.ensures
