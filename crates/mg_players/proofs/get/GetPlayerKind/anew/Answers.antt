use Rattle.std.proofs.Common.{ap}
use Rattle.mg_players.specs.Headline.{sought_task}
use Rattle.mg_players.proofs.get.GetPlayerKind.anew.Goals as goal

pub returns : goal.returns
returns c = ap sought_task c.new.ensures.what
