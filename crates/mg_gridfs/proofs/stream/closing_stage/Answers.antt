use Rattle.std.proofs.Common.{Some, sym, ap, ◌∙◌}
use Rattle.mg_link.specs.declared.error.Error.{Error}
use Rattle.mg_gridfs.specs.Calls.{close_phase, landing_of}
use Rattle.mg_gridfs.specs.Uploads.{Phase}
use Rattle.mg_gridfs.specs.UploadView.{doing_of, phase_of}
use Rattle.mg_gridfs.specs.declared.stream.State.{State}
use Rattle.mg_gridfs.proofs.stream.closing_stage.Goals as goal

pub returns-in-Idle-clause-ok : goal.returns-in-Idle-clause-ok
returns-in-Idle-clause-ok c = ap (λ (s : State). close_phase c.args.moment.millis (doing_of s)) c.in-Idle.is

pub returns-in-Closing-clause-ok : goal.returns-in-Closing-clause-ok
returns-in-Closing-clause-ok c = ap (λ (s : State). close_phase c.args.moment.millis (doing_of s)) c.in-Closing.is

pub returns-in-Writing-clause-ok : goal.returns-in-Writing-clause-ok
returns-in-Writing-clause-ok c =
    ap (λ (s : State). close_phase c.args.moment.millis (doing_of s)) c.in-Writing.is
    ∙ sym (ap (λ (p : Phase). Some p) (c.give_up-back.ensures ∙ ap (λ (e : Error). landing_of (phase_of c.in-Writing.stage) (Some e)) c.write_in_progress.ensures))

pub returns-in-Aborting-clause-err : goal.returns-in-Aborting-clause-err
returns-in-Aborting-clause-err c = (sym c.in-Aborting.is, ap (λ (s : State). close_phase c.args.moment.millis (doing_of s)) c.in-Aborting.is)

pub returns-in-Closed-clause-err : goal.returns-in-Closed-clause-err
returns-in-Closed-clause-err c = (sym c.in-Closed.is, ap (λ (s : State). close_phase c.args.moment.millis (doing_of s)) c.in-Closed.is)
