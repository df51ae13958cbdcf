use Rattle.mg_server.proofs.AtOnce.{rules_at_once}
use Rattle.mg_server.proofs.laws.rules_answer_at_once.Goals as goal

pub returns : goal.returns
returns c = rules_at_once
