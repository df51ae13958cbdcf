use Rattle.mg_cursor.proofs.Ended.{advance_ends, seek_ends}
use Rattle.mg_cursor.proofs.laws.ends_where_over.Goals as goal

pub returns-clause-tries : goal.returns-clause-tries
returns-clause-tries c = advance_ends

pub returns-clause-seeks : goal.returns-clause-seeks
returns-clause-seeks c = seek_ends
