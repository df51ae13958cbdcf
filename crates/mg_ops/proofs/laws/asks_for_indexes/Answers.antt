use Rattle.mg_ops.proofs.Queries.{indexes_ask}
use Rattle.mg_ops.proofs.laws.asks_for_indexes.Goals as goal

pub returns : goal.returns
returns c = indexes_ask
