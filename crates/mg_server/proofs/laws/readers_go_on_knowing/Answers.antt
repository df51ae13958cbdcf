use Rattle.mg_server.proofs.Readers.{reader_kept}
use Rattle.mg_server.proofs.laws.readers_go_on_knowing.Goals as goal

pub returns : goal.returns
returns c = reader_kept
