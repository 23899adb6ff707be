use Rattle.std.proofs.Common.{refl}
use mathlib.Core.Bool.{true≢false}
use mathlib.Core.Path.{sym, ◌∙◌, subst}
use Rattle.model.specs.declared.Lent.{Lent}
use Rattle.std.proofs.KnownBytes.{Consumes-nil}
use Rattle.stream.specs.AtHand.{NeedsMore}
use Rattle.season.specs.Window.{at_hand}
use Rattle.season.specs.Jobs.{Continues}
use Rattle.season.proofs.Steps.{nearer}
use Rattle.season.proofs.Loop.{same-lent, begins, continued, grown, taken-on, taken_more}
use Rattle.season.proofs.jobs.read_season.Goals as goal

pub loop-next-init : goal.loop-next-init
loop-next-init g c = (
  begins _ c.args.buffer.now c.initial.ensures c.no_jobs.ensures,
  record {
    buffer_length = refl;
    samples_length = refl;
    weights_length = refl;
    flow_length = refl;
    image_length = refl;
    work_length = refl;
  },
  record { first_bytes = Consumes-nil (g.R.Read.remaining c.args.stdin.now); all_bytes = λ e. absurd (true≢false (sym e)) },
)

pub loop-next-preserved-in-Continue : goal.loop-next-preserved-in-Continue
loop-next-preserved-in-Continue g c =
    let l = c.loop-next in
    let k = l.invariant.0 in
    let same = l.invariant.1 in
    let kept = c.advance.auto in
    let on = subst (λ (lent : Lent). Continues lent l.buffer l.s.window l.s.totals c.in-Continue.next) (same-lent same) c.in-Continue.ensures in (
      continued _ k on,
      record {
        buffer_length = same.buffer_length;
        samples_length = kept.samples ∙ same.samples_length;
        weights_length = kept.weights ∙ same.weights_length;
        flow_length = kept.flow ∙ same.flow_length;
        image_length = kept.image ∙ same.image_length;
        work_length = kept.work ∙ same.work_length;
      },
      taken-on _ k l.invariant.2 on,
    )

pub loop-next-smaller : goal.loop-next-smaller
loop-next-smaller g c =
    let l = c.loop-next in
    nearer l.invariant.0.valid
    (subst (λ (lent : Lent). NeedsMore (at_hand l.buffer l.s.window) l.s.window.ended lent c.in-Read.parser c.in-Read.at) (same-lent l.invariant.1) c.in-Read.ensures)
    c.in_ok-window-in-Read.ensures.grown

pub loop-next-preserved : goal.loop-next-preserved
loop-next-preserved g c =
    let l = c.loop-next in
    let k = l.invariant.0 in
    let same = l.invariant.1 in
    let kept = c.advance.auto in
    let more = c.in_ok-window-in-Read.ensures in
    let needs = subst (λ (lent : Lent). NeedsMore (at_hand l.buffer l.s.window) l.s.window.ended lent c.in-Read.parser c.in-Read.at) (same-lent same) c.in-Read.ensures in (
      grown _ k needs more.grown,
      record {
        buffer_length = c.more_bytes.auto.buffer ∙ same.buffer_length;
        samples_length = kept.samples ∙ same.samples_length;
        weights_length = kept.weights ∙ same.weights_length;
        flow_length = kept.flow ∙ same.flow_length;
        image_length = kept.image ∙ same.image_length;
        work_length = kept.work ∙ same.work_length;
      },
      taken_more _ k l.invariant.2 needs more.grown more.first_bytes more.all_bytes,
    )
