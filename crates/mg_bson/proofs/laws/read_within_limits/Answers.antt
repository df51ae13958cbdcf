use Rattle.mg_bson.proofs.ReadLimits.{read_within_limits}
use Rattle.mg_bson.proofs.laws.read_within_limits.Goals as goal

pub returns : goal.returns
returns c = read_within_limits
