use Rattle.mg_ops.proofs.Queries.{collections_ask}
use Rattle.mg_ops.proofs.laws.asks_for_collections.Goals as goal

pub returns : goal.returns
returns c = collections_ask
