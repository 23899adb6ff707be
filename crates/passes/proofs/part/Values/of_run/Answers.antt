use Rattle.passes.proofs.part.Values.of_run.Goals as goal

pub returns-clause-first : goal.returns-clause-first
returns-clause-first c = c.part_of.ensures

pub returns-clause-second : goal.returns-clause-second
returns-clause-second c = c.part_of-2.ensures
