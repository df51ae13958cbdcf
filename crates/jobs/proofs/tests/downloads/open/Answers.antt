use Rattle.jobs.proofs.tests.downloads.open.Goals as goal

pub returns-in-Done-clause-sound : goal.returns-in-Done-clause-sound
returns-in-Done-clause-sound c = (c.in-Done.ensures.sound c.polls.invariant.sound).0
