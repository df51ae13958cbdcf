use Rattle.mg_gridfs.proofs.Holding.{upload_begins}
use Rattle.mg_gridfs.proofs.laws.upload_begins.Goals as goal

pub returns : goal.returns
returns c = upload_begins
