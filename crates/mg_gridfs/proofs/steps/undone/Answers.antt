use Rattle.std.proofs.Common.{sym, ap}
use Rattle.mg_gridfs.specs.Steps.{undone_by}
use Rattle.mg_gridfs.proofs.steps.undone.Goals as goal

pub returns-in-Some : goal.returns-in-Some
returns-in-Some c = sym (ap undone_by c.in-Some.is)

pub returns-in-None : goal.returns-in-None
returns-in-None c = sym (ap undone_by c.in-None.is)
