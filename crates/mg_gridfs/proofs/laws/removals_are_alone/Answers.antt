use Rattle.mg_gridfs.proofs.Holding.{removals_are_alone}
use Rattle.mg_gridfs.proofs.laws.removals_are_alone.Goals as goal

pub returns : goal.returns
returns c = removals_are_alone
