use Rattle.mg_gridfs.proofs.Staying.{cursors_begin, cursors_go_on}
use Rattle.mg_gridfs.proofs.laws.cursors_go_on.Goals as goal

pub returns-clause-begun : goal.returns-clause-begun
returns-clause-begun c = cursors_begin

pub returns-clause-others : goal.returns-clause-others
returns-clause-others c = cursors_go_on
