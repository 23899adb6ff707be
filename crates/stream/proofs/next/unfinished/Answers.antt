use borrow.Author.Tests.{eqb-true, eqb-false}
use mathlib.Core.Path.{sym, ◌∙◌}
use Rattle.stream.proofs.AtHand.{next_refused, next_past, next_more, next_ended, next_over}
use Rattle.stream.proofs.next.unfinished.Goals as goal

pub returns-then-not-is_too_short : goal.returns-then-not-is_too_short
returns-then-not-is_too_short c lent totals few h =
    next_refused c.args.bytes.now lent totals few (h.1 (sym c.is_too_short.ensures ∙ c.if-not-is_too_short.true))

pub returns-then-bytes-gt65536 : goal.returns-then-bytes-gt65536
returns-then-bytes-gt65536 c lent totals few h =
    next_past c.args.bytes.now lent totals few (h.0 (sym c.is_too_short.ensures ∙ c.if-not-is_too_short.false)) c.if-bytes-gt65536.true

pub returns-then-not-ended : goal.returns-then-not-ended
returns-then-not-ended c lent totals few h =
    next_more c.args.bytes.now lent totals few (h.0 (sym c.is_too_short.ensures ∙ c.if-not-is_too_short.false)) c.if-bytes-gt65536.false
    c.if-not-ended.true

pub returns-then-is_empty : goal.returns-then-is_empty
returns-then-is_empty c lent totals few h =
    next_over c.args.bytes.now lent totals few c.if-not-ended.false (eqb-true _ _ (sym c.if-is_empty.ensures))

pub returns-else-is_empty : goal.returns-else-is_empty
returns-else-is_empty c lent totals few h =
    next_ended c.args.bytes.now lent totals few (h.0 (sym c.is_too_short.ensures ∙ c.if-not-is_too_short.false)) c.if-bytes-gt65536.false
    c.if-not-ended.false (eqb-false _ _ (sym c.if-is_empty.ensures))
