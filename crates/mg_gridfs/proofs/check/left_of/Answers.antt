use Rattle.std.proofs.Common.{Option, sym, ap}
use Rattle.std.specs.Prelude.{option_map}
use Rattle.mg_link.specs.Exec.{Sending}
use Rattle.mg_gridfs.specs.UploadView.{asked_as}
use Rattle.mg_gridfs.proofs.check.left_of.Goals as goal

pub returns-in-Some : goal.returns-in-Some
returns-in-Some c = sym (ap (λ (o : Option Sending). option_map (asked_as c.args.request) o) c.in-Some.is)

pub returns-in-None : goal.returns-in-None
returns-in-None c = sym (ap (λ (o : Option Sending). option_map (asked_as c.args.request) o) c.in-None.is)
