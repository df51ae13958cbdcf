use Rattle.example_follower.proofs.follow.open.Goals as goal

pub returns-in-Done-clause-rests : goal.returns-in-Done-clause-rests
returns-in-Done-clause-rests g c = c.in-Done.ensures.begins.rests

pub returns-in-Done-clause-opens : goal.returns-in-Done-clause-opens
returns-in-Done-clause-opens g c = record { args_are = c.in-Done.ensures.begins.args_are; moved = c.in-Done.ensures.moved }
