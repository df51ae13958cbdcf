use Rattle.std.proofs.Common.{refl, ap}
use Rattle.mg_gridfs.specs.Checks.{ClientCheck}
use Rattle.mg_gridfs.specs.Steps as steps
use Rattle.mg_gridfs.specs.Steps.{goes}
use Rattle.mg_gridfs.specs.Uploads.{checks}
use Rattle.mg_gridfs.proofs.steps.Upload.begin.Goals as goal

pub returns-in-Ok : goal.returns-in-Ok
returns-in-Ok g c = let begun = c.in-Ok.ensures.ok in (steps.built begun.0 begun.2 refl (ap (λ (k : ClientCheck). goes (checks k)) begun.1), refl)

pub returns-in-Err : goal.returns-in-Err
returns-in-Err g c = steps.not_built c.in-Err.error c.in-Err.ensures.err refl refl
