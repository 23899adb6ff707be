-- What the judges that it calls ask: an allowed size, and that each number of the flow has its weight.
use mathlib.Core.Logic.{inr}
use Rattle.model.proofs.Refusals.{accepted-rows, passes}
use Rattle.model.proofs.Accepted.{length-passes, optional_passes, no_longer}
use Rattle.model.specs.Calls.{pairs_of}
use Rattle.validation.specs.Lengths.{length_rows}
use Rattle.validation.proofs.Accepted.{accepted-size}
use Rattle.validation.proofs.refusals.judge_check.Goals as goal

pub judge_lengths-requires : goal.judge_lengths-requires
judge_lengths-requires c = accepted-size c.args.t (passes c.judge_terms.ensures c.in_ok-judge_terms.was)

-- where weights are lent, each number of the flow has its own
pub judge_flow-requires : goal.judge_flow-requires
judge_flow-requires c =
    let t = c.args.t in
    let n = (accepted-rows (length_rows _ _ _ _ _ _) (passes c.judge_lengths.ensures c.in_ok-judge_lengths.was)).1 in
    no_longer (inr ((length-passes 5 c.args.flow.now (pairs_of t)).0 n.0)) ((optional_passes 19 c.args.weights.now (pairs_of t)).0 n.1.0)
