use Rattle.mg_server.proofs.Workings.{second_script}
use Rattle.mg_server.proofs.laws.second_script.Goals as goal

pub returns : goal.returns
returns c = second_script
