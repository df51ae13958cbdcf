use Rattle.mg_server.proofs.Follows.{knows_kept}
use Rattle.mg_server.proofs.laws.streams_go_on_knowing.Goals as goal

pub returns : goal.returns
returns c = knows_kept
