use Rattle.mg_gridfs.proofs.Holding.{record_is_read}
use Rattle.mg_gridfs.proofs.laws.record_is_read.Goals as goal

pub returns : goal.returns
returns c = record_is_read
