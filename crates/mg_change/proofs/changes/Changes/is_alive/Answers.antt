use Rattle.mg_change.specs.StreamView.{changes_of}
use Rattle.mg_change.proofs.Parts.{alive_open, alive_owed}
use Rattle.mg_change.proofs.changes.Changes.is_alive.Goals as goal

pub returns-then-not-is_exhausted : goal.returns-then-not-is_exhausted
returns-then-not-is_exhausted c = alive_open (changes_of c.args.self.now) c.is_exhausted.result c.is_exhausted.ensures c.if-not-is_exhausted.true

pub returns : goal.returns
returns c = alive_owed (changes_of c.args.self.now) c.is_exhausted.result c.is_owed.result c.is_exhausted.ensures c.if-not-is_exhausted.false c.is_owed.ensures
