use Rattle.mg_ops.proofs.Asking.{asks_for_more}
use Rattle.mg_ops.proofs.laws.asks_for_more.Goals as goal

pub returns : goal.returns
returns c = asks_for_more
