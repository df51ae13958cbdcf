use Rattle.mg_cursor.proofs.Opening.{reader_ends}
use Rattle.mg_cursor.proofs.laws.readers_end.Goals as goal

pub returns : goal.returns
returns c = reader_ends
