use Rattle.mg_bson.proofs.RoundTrip.{written_once}
use Rattle.mg_bson.proofs.laws.written_once.Goals as goal

pub returns : goal.returns
returns c = written_once
