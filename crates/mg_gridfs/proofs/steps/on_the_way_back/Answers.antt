use Rattle.std.proofs.Common.{sym, ap}
use Rattle.mg_gridfs.specs.UploadView.{back_stopped}
use Rattle.mg_gridfs.proofs.steps.on_the_way_back.Goals as goal

pub returns-in-Pending : goal.returns-in-Pending
returns-in-Pending c = sym (ap back_stopped c.in-Pending.is)

pub returns-in-Done : goal.returns-in-Done
returns-in-Done c = sym (ap back_stopped c.in-Done.is)

pub returns-in-Failed : goal.returns-in-Failed
returns-in-Failed c = sym (ap back_stopped c.in-Failed.is)
