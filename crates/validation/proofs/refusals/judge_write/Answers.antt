-- What the judges that it calls ask, and that the length of the tape does not overflow.
use mathlib.Core.List.{List}
use mathlib.Core.Path.{◌≡◌}
use mathlib.Core.Bool.{true}
use Prim.Native.Nat.{ℕ, ◌≤◌, ◌<◌}
use native.Mathlib.Omega.{arith}
use lib.IntN.{ℤ}
use lib.ListN.{length}
use borrow.Author.Tests.{not-false, eqb-true}
use Rattle.model.specs.Verdict.{Accept, Row, first_refusal}
use Rattle.model.specs.Calls.{pixels_of, pairs_of}
use Rattle.model.specs.Grid.{size_allowed}
use Rattle.model.specs.declared.Terms.{Terms}
use Rattle.model.proofs.Refusals.{accepted-rows, passes}
use Rattle.model.proofs.Accepted.{optional_passes, up_to, no_longer}
use Rattle.validation.specs.Lengths.{write_length_rows}
use Rattle.validation.proofs.Accepted.{accepted-size}
use Rattle.validation.proofs.Size.{allowed-size}
use Rattle.validation.proofs.refusals.judge_write.Goals as goal

-- past the lengths none is large, and where weights are lent, each number of the flow has its own
module _ (t : Terms) (samples : ℕ) (weights flow : List ℤ) where
  abbrev lengths : List Row
  lengths = write_length_rows (pixels_of t) (pairs_of t) samples (length weights) (length flow)

  abbrev Fit : Type 0
  Fit = (samples ≤ 1048576) × (length weights ≤ 2097152) × (length flow ≤ 2097152) × (0 < length weights → length flow ≤ length weights)

  fit : size_allowed t.width t.height ≡ true → first_refusal lengths ≡ Accept → Fit
  fit s h =
      let size = allowed-size s in
      let l = accepted-rows lengths h in
      let f = (optional_passes 5 flow (pairs_of t)).0 l.1.0 in
      let w = (optional_passes 19 weights (pairs_of t)).0 l.1.1.0 in
      (omega (arith, size.pixels, eqb-true samples (pixels_of t) (not-false _ l.0)), up_to w size.pairs, up_to f size.pairs, no_longer f w)

past : (c : goal.In_ok-judge_write_lengths) → Fit c.args.t c.args.samples c.args.weights.now c.args.flow.now
past c =
    fit c.args.t c.args.samples c.args.weights.now c.args.flow.now
    (accepted-size c.args.t (passes c.judge_terms.ensures c.in_ok-judge_terms.was))
    (passes c.judge_write_lengths.ensures c.in_ok-judge_write_lengths.was)

pub judge_write_lengths-requires : goal.judge_write_lengths-requires
judge_write_lengths-requires c = accepted-size c.args.t (passes c.judge_terms.ensures c.in_ok-judge_terms.was)

pub overflow_mul-size : goal.overflow_mul-size
overflow_mul-size c = omega (arith, past c)

pub overflow_add-size : goal.overflow_add-size
overflow_add-size c = omega (arith, past c)

pub overflow_add-size-2 : goal.overflow_add-size-2
overflow_add-size-2 c = omega (arith, past c)

pub overflow_add-size-3 : goal.overflow_add-size-3
overflow_add-size-3 c = omega (arith, past c)

pub judge_flow-requires : goal.judge_flow-requires
judge_flow-requires c =
    (fit c.args.t c.args.samples c.args.weights.now c.args.flow.now
    (accepted-size c.args.t (passes c.judge_terms.ensures c.in_ok-judge_terms.was))
    (passes c.judge_write_lengths.ensures c.in_ok-judge_write_lengths.was)).3
