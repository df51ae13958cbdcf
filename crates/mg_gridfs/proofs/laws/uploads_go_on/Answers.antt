use Rattle.mg_gridfs.proofs.Holding.{uploads_go_on, uploads_settle}
use Rattle.mg_gridfs.proofs.laws.uploads_go_on.Goals as goal

pub returns-clause-settled : goal.returns-clause-settled
returns-clause-settled c = uploads_settle

pub returns-clause-others : goal.returns-clause-others
returns-clause-others c = uploads_go_on
