use Rattle.mg_gridfs.proofs.Counting.{cuts_are_counted}
use Rattle.mg_gridfs.proofs.laws.cuts_are_counted.Goals as goal

pub returns : goal.returns
returns c = cuts_are_counted
