use Rattle.std.proofs.Common.{sym, ap}
use Rattle.mg_gridfs.specs.Calls.{landing_of}
use Rattle.mg_gridfs.specs.UploadView.{back_phase}
use Rattle.mg_gridfs.specs.declared.stage.Back.{Back}
use Rattle.mg_gridfs.proofs.stage.Back.again.Goals as goal

pub returns-in-Land : goal.returns-in-Land
returns-in-Land c = sym (ap (λ (b : Back). landing_of (back_phase b) c.args.error) c.in-Land.is)

pub returns-in-Undo : goal.returns-in-Undo
returns-in-Undo c = sym (ap (λ (b : Back). landing_of (back_phase b) c.args.error) c.in-Undo.is)

pub returns : goal.returns
returns c = sym (ap (λ (b : Back). landing_of (back_phase b) c.args.error) c.in-Remove.is)
