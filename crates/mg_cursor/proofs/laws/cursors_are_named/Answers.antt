use Rattle.mg_ops.proofs.Reading.{named_read}
use Rattle.mg_cursor.proofs.Named.{next_named, seeks_named, tries_named}
use Rattle.mg_cursor.proofs.laws.cursors_are_named.Goals as goal

pub returns-clause-told : goal.returns-clause-told
returns-clause-told c = named_read

pub returns-clause-polls : goal.returns-clause-polls
returns-clause-polls c = next_named

pub returns-clause-tries : goal.returns-clause-tries
returns-clause-tries c = tries_named

pub returns-clause-seeks : goal.returns-clause-seeks
returns-clause-seeks c = seeks_named
