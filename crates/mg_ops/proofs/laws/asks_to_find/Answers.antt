use Rattle.mg_ops.proofs.Queries.{find_asks}
use Rattle.mg_ops.proofs.laws.asks_to_find.Goals as goal

pub returns : goal.returns
returns c = find_asks
