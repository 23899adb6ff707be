use mathlib.Core.Path.{sym}
use native.Mathlib.Omega.{arith}
use Rattle.layout.proofs.Pairs.{grid-count}
use Rattle.validation.proofs.Size.{allowed-size}
use Rattle.validation.proofs.counts.pairs.Goals as goal

pub overflow_sub-result : goal.overflow_sub-result
overflow_sub-result c = omega (arith, allowed-size c.requires)

pub overflow_sub-result-2 : goal.overflow_sub-result-2
overflow_sub-result-2 c = omega (arith, allowed-size c.requires)

pub overflow_add-result : goal.overflow_add-result
overflow_add-result c = omega (arith, allowed-size c.requires)

pub returns : goal.returns
returns c = sym (grid-count c.args.width c.args.height)
