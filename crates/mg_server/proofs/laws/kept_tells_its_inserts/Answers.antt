use Rattle.mg_server.proofs.Legal.{kept_tells}
use Rattle.mg_server.proofs.laws.kept_tells_its_inserts.Goals as goal

pub returns : goal.returns
returns c = kept_tells
