use Rattle.mg_server.proofs.Fronts.{front_stands}
use Rattle.mg_server.proofs.laws.front_stands.Goals as goal

pub returns : goal.returns
returns c = front_stands
