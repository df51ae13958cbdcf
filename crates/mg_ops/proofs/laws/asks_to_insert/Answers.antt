use Rattle.mg_ops.proofs.Asking.{asks_to_insert}
use Rattle.mg_ops.proofs.laws.asks_to_insert.Goals as goal

pub returns : goal.returns
returns c = asks_to_insert
