use Rattle.mg_ops.proofs.Replying.{tells_of_create}
use Rattle.mg_ops.proofs.laws.tells_of_create.Goals as goal

pub returns : goal.returns
returns c = tells_of_create
