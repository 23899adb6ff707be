-- A job's slack leaves the total below 2 ^ 64.
use native.Mathlib.Omega.{arith}
use mathlib.Core.Path.{ap}
use Prim.Native.Nat.{◌+◌, ◌*◌, ◌≤◌}
use native.Mathlib.Nat.{mul-le-mul}
use Rattle.calls.proofs.Sizes.{most-slack-fits}
use Rattle.stream.specs.declared.totals.Addend.{Addend}
use Rattle.stream.proofs.totals.with_job.Goals as goal

pub overflow_add-result-6 : goal.overflow_add-result-6
overflow_add-result-6 c =
    let p = c.requires in
    let few : c.args.t.pixels + c.args.pixels ≤ 4096 * 65535 = omega (arith, p.bounded, p.not_last, p.pixels_allowed) in
    record {
      fits = omega (arith, ap (λ (s : Addend). s.slack) c.addend_of-s.ensures, p.bounded.total_within, p.slack_allowed, mul-le-mul most-slack-fits few);
    }
