use Rattle.mg_server.proofs.Readers.{read_gives}
use Rattle.mg_server.proofs.laws.readers_give.Goals as goal

pub returns : goal.returns
returns c = read_gives
