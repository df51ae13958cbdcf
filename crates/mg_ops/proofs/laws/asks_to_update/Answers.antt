use Rattle.mg_ops.proofs.AskingMore.{asks_to_update}
use Rattle.mg_ops.proofs.laws.asks_to_update.Goals as goal

pub returns : goal.returns
returns c = asks_to_update
