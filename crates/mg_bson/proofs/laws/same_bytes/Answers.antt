use Rattle.mg_bson.proofs.RoundTrip.{value_inj}
use Rattle.mg_bson.proofs.laws.same_bytes.Goals as goal

pub returns : goal.returns
returns c = value_inj
