use Rattle.mg_ops.proofs.Queries.{aggregate_asks}
use Rattle.mg_ops.proofs.laws.asks_to_aggregate.Goals as goal

pub returns : goal.returns
returns c = aggregate_asks
