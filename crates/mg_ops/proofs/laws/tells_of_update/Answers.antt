use Rattle.mg_ops.proofs.Replying.{tells_of_update}
use Rattle.mg_ops.proofs.laws.tells_of_update.Goals as goal

pub returns : goal.returns
returns c = tells_of_update
