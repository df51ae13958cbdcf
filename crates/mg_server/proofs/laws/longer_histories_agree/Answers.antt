use Rattle.mg_server.proofs.Resuming.{view_later}
use Rattle.mg_server.proofs.laws.longer_histories_agree.Goals as goal

pub returns-clause-view : goal.returns-clause-view
returns-clause-view c = view_later
