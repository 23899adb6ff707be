use Rattle.season.proofs.jobs.State.advance.Goals as goal

pub returns : goal.returns
returns c = c.step_on.ensures _ c.args.buffer.now c.requires.0.within c.requires.0.not_last c.next_job-n.ensures
