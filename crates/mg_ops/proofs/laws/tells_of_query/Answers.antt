use Rattle.mg_ops.proofs.Replying.{tells_of_query}
use Rattle.mg_ops.proofs.laws.tells_of_query.Goals as goal

pub returns : goal.returns
returns c = tells_of_query
