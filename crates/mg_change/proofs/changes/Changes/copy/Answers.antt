use Rattle.mg_change.proofs.changes.Changes.copy.Goals as goal

pub copied-requires-clause-next : goal.copied-requires-clause-next
copied-requires-clause-next c = c.requires.next

pub copied-requires-clause-rests : goal.copied-requires-clause-rests
copied-requires-clause-rests c = c.requires.rests

pub copied-requires-clause-follows : goal.copied-requires-clause-follows
copied-requires-clause-follows c = c.requires.follows

pub copied-requires-clause-placed : goal.copied-requires-clause-placed
copied-requires-clause-placed c = c.requires.placed

pub returns-in-Ok-clause-copies : goal.returns-in-Ok-clause-copies
returns-in-Ok-clause-copies c = c.in-Ok.ensures.ok

pub returns-in-Err-clause-copies : goal.returns-in-Err-clause-copies
returns-in-Err-clause-copies c = c.in-Err.ensures.err
