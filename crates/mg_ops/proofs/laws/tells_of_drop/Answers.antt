use Rattle.mg_ops.proofs.Replying.{tells_of_drop}
use Rattle.mg_ops.proofs.laws.tells_of_drop.Goals as goal

pub returns : goal.returns
returns c = tells_of_drop
