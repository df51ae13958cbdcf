use Rattle.mg_ops.proofs.Asking.{asks_to_kill}
use Rattle.mg_ops.proofs.laws.asks_to_kill.Goals as goal

pub returns : goal.returns
returns c = asks_to_kill
