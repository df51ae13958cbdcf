use Rattle.std.proofs.Common.{Some, sym, ap, ◌∙◌}
use Rattle.mg_gridfs.specs.Calls.{abort_phase}
use Rattle.mg_gridfs.specs.Uploads.{Phase}
use Rattle.mg_gridfs.specs.UploadView.{doing_of}
use Rattle.mg_gridfs.specs.declared.stream.State.{State}
use Rattle.mg_gridfs.proofs.stream.way_back.Goals as goal

pub returns-in-Idle : goal.returns-in-Idle
returns-in-Idle c = sym (ap (λ (s : State). abort_phase (doing_of s)) c.in-Idle.is)

pub returns-in-Writing : goal.returns-in-Writing
returns-in-Writing c = ap (λ (p : Phase). Some p) c.give_up.ensures ∙ sym (ap (λ (s : State). abort_phase (doing_of s)) c.in-Writing.is)

pub returns-in-Closing : goal.returns-in-Closing
returns-in-Closing c = ap (λ (p : Phase). Some p) c.give_up-in-Closing.ensures ∙ sym (ap (λ (s : State). abort_phase (doing_of s)) c.in-Closing.is)

pub returns-in-Aborting : goal.returns-in-Aborting
returns-in-Aborting c = sym (ap (λ (s : State). abort_phase (doing_of s)) c.in-Aborting.is)

pub returns-in-Closed : goal.returns-in-Closed
returns-in-Closed c = sym (ap (λ (s : State). abort_phase (doing_of s)) c.in-Closed.is)
