use Rattle.mg_gridfs.proofs.Given.{downloads_go_on}
use Rattle.mg_gridfs.proofs.laws.downloads_go_on.Goals as goal

pub returns : goal.returns
returns c = downloads_go_on
