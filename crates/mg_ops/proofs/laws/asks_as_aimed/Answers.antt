use Rattle.mg_ops.proofs.Asking.{asks_as_aimed}
use Rattle.mg_ops.proofs.laws.asks_as_aimed.Goals as goal

pub returns : goal.returns
returns c = asks_as_aimed
