use Rattle.mg_server.proofs.Examples.{first_script}
use Rattle.mg_server.proofs.laws.first_script.Goals as goal

pub returns : goal.returns
returns c = first_script
