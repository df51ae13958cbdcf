use Rattle.std.proofs.Common.{ap}
use Rattle.mg_players.specs.Headline.{follow_task}
use Rattle.mg_players.proofs.follow.FollowPlayerKind.anew.Goals as goal

pub returns : goal.returns
returns c = ap follow_task c.new.ensures.watched
