use Rattle.std.proofs.Common.{None, refl, sym, ap, subst}
use Rattle.mg_link.specs.Moment.{failed, finished, moment, pending}
use Rattle.mg_link.specs.declared.action.Step.TheVariants as step
use Rattle.mg_cursor.proofs.Hearing.{keeps_to}
use Rattle.mg_gridfs.specs.Steps as steps
use Rattle.mg_gridfs.specs.Steps.{done, waits}
use Rattle.mg_gridfs.specs.Uploads.{error_behind, phase_ticket, ticket_by, upload_ticket}
use Rattle.mg_gridfs.specs.UploadView.{HasBuffer, back_phase, doing_of, upload_of, upload_with, worker_of}
use Rattle.mg_gridfs.specs.declared.stream.GridFsUploadStream.{GridFsUploadStream}
use Rattle.mg_gridfs.specs.declared.stream.State.{State}
use Rattle.mg_gridfs.proofs.Calling.{abort_back}
use Rattle.mg_gridfs.proofs.Stepping.{back_ends, keeps_plain}
use Rattle.mg_gridfs.proofs.stream.GridFsUploadStream.abort.Goals as goal

pub back-requires-clause-held : goal.back-requires-clause-held
back-requires-clause-held g c = c.requires.held

pub back-requires-clause-sound : goal.back-requires-clause-sound
back-requires-clause-sound g c = c.requires.sound.1

pub returns-in-Pending-clause-keeps : goal.returns-in-Pending-clause-keeps
returns-in-Pending-clause-keeps g c = keeps_to (moment (g.L.Link.awaited c.args.link.now) (g.L.Link.log c.args.link.now) (g.L.Link.faults c.args.link.now) (g.L.Link.pends c.args.link.now) (g.L.Link.wire c.args.link.now) (g.L.Link.prompt c.args.link.now)) (moment (g.L.Link.awaited c.back.new.link) (g.L.Link.log c.back.new.link) (g.L.Link.faults c.back.new.link) (g.L.Link.pends c.back.new.link) (g.L.Link.wire c.back.new.link) (g.L.Link.prompt c.back.new.link)) (phase_ticket (back_phase c.args.back)) (phase_ticket (back_phase c.in-Pending.back)) (upload_ticket (upload_of c.enter.new.self)) pending (ap (λ (x : GridFsUploadStream). upload_ticket (upload_of x)) (sym c.enter.ensures)) c.in-Pending.ensures.keeps

pub returns-in-Pending-clause-drives : goal.returns-in-Pending-clause-drives
returns-in-Pending-clause-drives g c = (
  waits (back_phase c.in-Pending.back),
  λ ids. (let does = c.in-Pending.ensures.backs ids in record { steps = does.0; left = (worker_of c.args.self.now.upload); does = does.1; behind = ap upload_of c.enter.ensures }),
  refl,
)

pub returns-in-Pending-clause-buffer : goal.returns-in-Pending-clause-buffer
returns-in-Pending-clause-buffer g c = subst (λ (x : GridFsUploadStream). HasBuffer x.upload) (sym c.enter.ensures) c.requires.sound.2

pub returns-in-Done-clause-keeps : goal.returns-in-Done-clause-keeps
returns-in-Done-clause-keeps g c = keeps_to (moment (g.L.Link.awaited c.args.link.now) (g.L.Link.log c.args.link.now) (g.L.Link.faults c.args.link.now) (g.L.Link.pends c.args.link.now) (g.L.Link.wire c.args.link.now) (g.L.Link.prompt c.args.link.now)) (moment (g.L.Link.awaited c.back.new.link) (g.L.Link.log c.back.new.link) (g.L.Link.faults c.back.new.link) (g.L.Link.pends c.back.new.link) (g.L.Link.wire c.back.new.link) (g.L.Link.prompt c.back.new.link)) (phase_ticket (back_phase c.args.back)) None (ticket_by (doing_of c.args.self.now.state)) finished (ap (λ (x : State). ticket_by (doing_of x)) (sym c.requires.closed)) c.in-Done.ensures.keeps

pub returns-in-Done-clause-drives : goal.returns-in-Done-clause-drives
returns-in-Done-clause-drives g c = (done, λ ids. (let does = c.in-Done.ensures.backs ids in record { steps = does.0; left = (worker_of c.args.self.now.upload); does = does.1; behind = ap (λ (x : State). upload_with c.args.self.now.upload (doing_of x)) c.requires.closed }), refl)

pub returns-in-Done-clause-buffer : goal.returns-in-Done-clause-buffer
returns-in-Done-clause-buffer g c = c.requires.sound.2

pub returns-in-Failed-clause-keeps : goal.returns-in-Failed-clause-keeps
returns-in-Failed-clause-keeps g c =
    let other = back_ends None (g.L.Link.awaited c.args.link.now) (g.L.Link.awaited c.back.new.link) (g.L.Link.log c.args.link.now) (g.L.Link.log c.back.new.link) (g.L.Link.wire c.args.link.now) (worker_of c.args.self.now.upload) (back_phase c.args.back) (step.Failed c.in-Failed.error) (abort_back (back_phase c.args.back) c.requires.call) c.in-Failed.ensures.backs in
    keeps_to (moment (g.L.Link.awaited c.args.link.now) (g.L.Link.log c.args.link.now) (g.L.Link.faults c.args.link.now) (g.L.Link.pends c.args.link.now) (g.L.Link.wire c.args.link.now) (g.L.Link.prompt c.args.link.now)) (moment (g.L.Link.awaited c.back.new.link) (g.L.Link.log c.back.new.link) (g.L.Link.faults c.back.new.link) (g.L.Link.pends c.back.new.link) (g.L.Link.wire c.back.new.link) (g.L.Link.prompt c.back.new.link)) (phase_ticket (back_phase c.args.back)) None (ticket_by (doing_of c.args.self.now.state)) (failed c.in-Failed.error) (ap (λ (x : State). ticket_by (doing_of x)) (sym c.requires.closed))
    (keeps_plain (moment (g.L.Link.awaited c.args.link.now) (g.L.Link.log c.args.link.now) (g.L.Link.faults c.args.link.now) (g.L.Link.pends c.args.link.now) (g.L.Link.wire c.args.link.now) (g.L.Link.prompt c.args.link.now)) (moment (g.L.Link.awaited c.back.new.link) (g.L.Link.log c.back.new.link) (g.L.Link.faults c.back.new.link) (g.L.Link.pends c.back.new.link) (g.L.Link.wire c.back.new.link) (g.L.Link.prompt c.back.new.link)) (phase_ticket (back_phase c.args.back)) None (failed c.in-Failed.error) (error_behind (back_phase c.args.back)) other c.in-Failed.ensures.keeps)

pub returns-in-Failed-clause-drives : goal.returns-in-Failed-clause-drives
returns-in-Failed-clause-drives g c = (steps.failed c.in-Failed.error, λ ids. (let does = c.in-Failed.ensures.backs ids in record { steps = does.0; left = (worker_of c.args.self.now.upload); does = does.1; behind = ap (λ (x : State). upload_with c.args.self.now.upload (doing_of x)) c.requires.closed }), refl)

pub returns-in-Failed-clause-buffer : goal.returns-in-Failed-clause-buffer
returns-in-Failed-clause-buffer g c = c.requires.sound.2
