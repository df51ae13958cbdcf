use Rattle.mg_ops.proofs.Watching.{watch_as_aggregate}
use Rattle.mg_ops.proofs.laws.watches_by_aggregate.Goals as goal

pub returns : goal.returns
returns c = watch_as_aggregate
