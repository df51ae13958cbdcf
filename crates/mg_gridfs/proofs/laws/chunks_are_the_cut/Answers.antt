use Rattle.mg_gridfs.proofs.Sizes.{all_received, cuts_as_sized}
use Rattle.mg_gridfs.proofs.laws.chunks_are_the_cut.Goals as goal

pub returns-clause-cut : goal.returns-clause-cut
returns-clause-cut c = cuts_as_sized

pub returns-clause-all : goal.returns-clause-all
returns-clause-all c = all_received
