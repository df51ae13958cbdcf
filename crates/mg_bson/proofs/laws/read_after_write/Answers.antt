use Rattle.mg_bson.proofs.RoundTrip.{doc-bytes}
use Rattle.mg_bson.proofs.laws.read_after_write.Goals as goal

pub returns : goal.returns
returns c = doc-bytes
