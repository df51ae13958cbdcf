use Rattle.mg_server.proofs.Histories.{state_of-grows}
use Rattle.mg_server.proofs.laws.entries_grow.Goals as goal

pub returns : goal.returns
returns c = state_of-grows
