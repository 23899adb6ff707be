-- The quick rounds' share is the truncated quotient.
use Rattle.std.proofs.Common.{pos, w32, rules}
use Rattle.std.proofs.lemmas.Int.{quot_is, quot_fits}
use Rattle.model.specs.Rounds.{eighth}
use Rattle.stencil.proofs.rounding.QuickRounding.share.Goals as goal

pub returns : goal.returns
unfolding eighth
returns c =
    quot_is w32 c.args.fall (pos 8) c.ranges.fall (search rules) (quot_fits w32 c.args.fall (pos 8) c.ranges.fall (search rules))
