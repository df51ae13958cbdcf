use Rattle.mg_server.proofs.SelfMade.{names_whole}
use Rattle.mg_server.proofs.laws.whole_log_is_self_made.Goals as goal

pub returns : goal.returns
returns c = names_whole
