use Rattle.std.proofs.Common.{sym, ap, ◌∙◌}
use Rattle.mg_gridfs.specs.Calls.{landing_of}
use Rattle.mg_gridfs.specs.UploadView.{phase_of}
use Rattle.mg_gridfs.specs.declared.stage.Stage.{Stage}
use Rattle.mg_gridfs.proofs.stage.Stage.give_up.Goals as goal

pub returns-in-Begin : goal.returns-in-Begin
returns-in-Begin c = sym (ap (λ (s : Stage). landing_of (phase_of s) c.args.error) c.in-Begin.is)

pub returns-in-Check : goal.returns-in-Check
returns-in-Check c = sym (ap (λ (s : Stage). landing_of (phase_of s) c.args.error) c.in-Check.is)

pub returns-in-Fill : goal.returns-in-Fill
returns-in-Fill c = sym (ap (λ (s : Stage). landing_of (phase_of s) c.args.error) c.in-Fill.is)

pub returns-in-Insert : goal.returns-in-Insert
returns-in-Insert c = sym (ap (λ (s : Stage). landing_of (phase_of s) c.args.error) c.in-Insert.is)

pub returns-in-Rest : goal.returns-in-Rest
returns-in-Rest c = sym (ap (λ (s : Stage). landing_of (phase_of s) c.args.error) c.in-Rest.is)

pub returns-in-Last : goal.returns-in-Last
returns-in-Last c = sym (ap (λ (s : Stage). landing_of (phase_of s) c.args.error) c.in-Last.is)

pub returns-in-End : goal.returns-in-End
returns-in-End c = sym (ap (λ (s : Stage). landing_of (phase_of s) c.args.error) c.in-End.is)

pub returns-in-Record : goal.returns-in-Record
returns-in-Record c = sym (ap (λ (s : Stage). landing_of (phase_of s) c.args.error) c.in-Record.is)

pub returns-in-Back : goal.returns-in-Back
returns-in-Back c = c.again.ensures ∙ sym (ap (λ (s : Stage). landing_of (phase_of s) c.args.error) c.in-Back.is)
