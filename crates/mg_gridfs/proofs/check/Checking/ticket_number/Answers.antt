use Rattle.std.proofs.Common.{sym, ap, ◌∙◌}
use Rattle.mg_gridfs.specs.Checks.{check_ticket}
use Rattle.mg_gridfs.specs.UploadView.{check_of}
use Rattle.mg_gridfs.specs.declared.check.Checking.{Checking}
use Rattle.mg_gridfs.proofs.Checking.{asked_ticket}
use Rattle.mg_gridfs.proofs.check.Checking.ticket_number.Goals as goal

pub returns-in-Ask : goal.returns-in-Ask
returns-in-Ask c = c.ticket_number.ensures ∙ sym (ap (λ (x : Checking). check_ticket (check_of x)) c.in-Ask.is ∙ asked_ticket c.in-Ask._request c.in-Ask.exec)
