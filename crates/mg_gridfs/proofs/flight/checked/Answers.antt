use Rattle.std.proofs.Common.{Option, sym, ap}
use Rattle.std.specs.Prelude.{option_map}
use Rattle.mg_gridfs.specs.Uploads.{by_check}
use Rattle.mg_gridfs.specs.UploadView.{check_of}
use Rattle.mg_gridfs.specs.declared.check.Checking.{Checking}
use Rattle.mg_gridfs.proofs.flight.checked.Goals as goal

pub returns-in-Some : goal.returns-in-Some
returns-in-Some c = sym (ap (λ (o : Option Checking). option_map by_check (option_map check_of o)) c.in-Some.is)

pub returns-in-None : goal.returns-in-None
returns-in-None c = sym (ap (λ (o : Option Checking). option_map by_check (option_map check_of o)) c.in-None.is)
