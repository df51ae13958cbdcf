use Rattle.mg_server.proofs.Answering.{follows_on}
use Rattle.mg_server.proofs.laws.streams_follow.Goals as goal

pub returns : goal.returns
returns c = follows_on
