use mathlib.Core.Path.{◌∙◌}
use mir.Syntax.{w32}
use Rattle.integers.proofs.Machine.{read}
use Rattle.stencil.proofs.pixel.Ends.of.Goals as goal

pub returns : goal.returns
returns c =
    record {
      low_is = read w32 c.low_end.type_inv ∙ c.low_end.ensures;
      high_is = read w32 c.high_end.type_inv ∙ c.high_end.ensures;
    }
