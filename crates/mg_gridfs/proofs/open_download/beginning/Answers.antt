use Rattle.mg_gridfs.proofs.open_download.beginning.Goals as goal

pub returns-in-Ok : goal.returns-in-Ok
returns-in-Ok c = c.in-Ok.ensures.cases
