use native.Mathlib.Omega.{arith}
use mathlib.Core.Path.{◌≡◌, refl, ap, ◌∙◌, subst, subst⁻¹}
use Prim.Native.Nat.{◌+◌}
use Rattle.std.specs.Prelude.{Ok}
use Rattle.model.specs.declared.Totals.{Totals}
use Rattle.tape_records.specs.declared.state.ParserState.{ParserState}
use Rattle.stream.specs.AtHand.{NextJob, CountsJob}
use Rattle.season.specs.Window.{at_hand}
use Rattle.season.specs.Jobs.{Continues}
use Rattle.season.proofs.Steps.{job-counted, last_counted}
use Rattle.season.proofs.jobs.State.step_on.Goals as goal

pub returns-in-Err : goal.returns-in-Err
returns-in-Err c lent buffer within few next =
    let w = c.args.self.window in
    record { ended = refl; report = subst (NextJob (at_hand buffer w) w.ended lent c.args.self.totals) c.in-Err.is next }

pub returns-in-Ok-Counted : goal.returns-in-Ok-Counted
returns-in-Ok-Counted c lent buffer within few next =
    let w = c.args.self.window in
    let k = c.in-Ok-Counted in
    let is = rw k.is at k.field-0-is in
    let counts : CountsJob (at_hand buffer w) lent c.args.self.totals k.totals k.field-0-1 =
    subst (NextJob (at_hand buffer w) w.ended lent c.args.self.totals) (k.is ∙ ap Ok is) next in
    record { ended = refl; report = last_counted lent buffer w within counts few (omega arith) }

pub returns-in-Ok-Counted-2 : goal.returns-in-Ok-Counted-2
returns-in-Ok-Counted-2 c lent buffer within few next =
    let w = c.args.self.window in
    let k = c.in-Ok-Counted-2 in
    let is = rw k.is at k.field-0-is in
    let counts : CountsJob (at_hand buffer w) lent c.args.self.totals k.totals k.size =
    subst (NextJob (at_hand buffer w) w.ended lent c.args.self.totals) (k.is ∙ ap Ok is) next in
    let same : c.in-Ok-Counted.totals ≡ k.totals = cc in
    subst⁻¹
    (λ (t : ParserState).
    Continues lent buffer w c.args.self.totals
    (record {
      window = record { start = w.start + k.size; end = w.end; ended = w.ended };
      at = 0;
      parser = t;
      totals = k.totals;
    }))
    c.initial.ensures
    (job-counted lent buffer w within counts (omega (arith, counts.one, ap (λ (t : Totals). t.jobs) same)))
