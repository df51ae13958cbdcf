use Rattle.mg_options.proofs.Levels.{nodes_back}
use Rattle.mg_options.proofs.laws.quorums_are_read_back.Goals as goal

pub returns-clause-nodes : goal.returns-clause-nodes
returns-clause-nodes c = nodes_back
