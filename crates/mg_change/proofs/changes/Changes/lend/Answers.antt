use Rattle.mg_change.proofs.changes.Changes.lend.Goals as goal

pub advance-requires-clause-next : goal.advance-requires-clause-next
advance-requires-clause-next c = c.requires.next

pub advance-requires-clause-rests : goal.advance-requires-clause-rests
advance-requires-clause-rests c = c.requires.rests

pub advance-requires-clause-follows : goal.advance-requires-clause-follows
advance-requires-clause-follows c = c.requires.follows

pub advance-requires-clause-placed : goal.advance-requires-clause-placed
advance-requires-clause-placed c = c.requires.placed

pub returns-in-Ok-clause-lends : goal.returns-in-Ok-clause-lends
returns-in-Ok-clause-lends c = c.in-Ok.ensures.ok

pub returns-in-Err-clause-lends : goal.returns-in-Err-clause-lends
returns-in-Err-clause-lends c = c.in-Err.ensures.err
