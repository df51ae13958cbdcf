use Rattle.std.proofs.Common.{refl}
use Rattle.mg_gridfs.specs.Checks.{built, not_built}
use Rattle.mg_gridfs.proofs.check.index_next.Goals as goal

pub returns-in-Ok : goal.returns-in-Ok
returns-in-Ok c = built c.in-Ok.exec c.in-Ok.ensures.ok refl

pub returns-in-Err : goal.returns-in-Err
returns-in-Err c = not_built c.in-Err.error c.in-Err.ensures.err refl
