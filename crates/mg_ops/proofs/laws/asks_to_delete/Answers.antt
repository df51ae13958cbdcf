use Rattle.mg_ops.proofs.AskingMore.{asks_to_delete}
use Rattle.mg_ops.proofs.laws.asks_to_delete.Goals as goal

pub returns : goal.returns
returns c = asks_to_delete
