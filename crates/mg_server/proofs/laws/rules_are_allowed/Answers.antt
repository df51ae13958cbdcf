use Rattle.mg_server.proofs.Allowed.{rules_allowed}
use Rattle.mg_server.proofs.laws.rules_are_allowed.Goals as goal

pub returns : goal.returns
returns c = rules_allowed
