use Rattle.mg_ops.proofs.Replying.{tells_of_index}
use Rattle.mg_ops.proofs.laws.tells_of_index.Goals as goal

pub returns : goal.returns
returns c = tells_of_index
