use Rattle.mg_server.proofs.Fronts.{unseen_stands}
use Rattle.mg_server.proofs.laws.unseen_stands.Goals as goal

pub returns : goal.returns
returns c = unseen_stands
