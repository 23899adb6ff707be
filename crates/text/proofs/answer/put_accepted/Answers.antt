use native.Mathlib.Omega.{arith}
use Rattle.model.specs.Program.{image_text}
use Rattle.output.proofs.Puts.{put_within}
use Rattle.text.proofs.answer.put_accepted.Goals as goal

pub returns : goal.returns
unfolding image_text
returns c = put_within c.put_figures-next.ensures.put c.put_image.ensures.put (omega arith)
