use Rattle.mg_players.proofs.Knowing.{same_insert}
use Rattle.mg_players.proofs.insert.InsertPlayerKind.anew.Goals as goal

pub returns : goal.returns
returns c = same_insert c.args.self.now c.new.result c.new.ensures.ns c.new.ensures.documents
