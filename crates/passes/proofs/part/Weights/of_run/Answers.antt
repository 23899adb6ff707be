use Rattle.passes.proofs.part.Weights.of_run.Goals as goal

pub returns-clause-own : goal.returns-clause-own
returns-clause-own c = c.part_of.ensures
