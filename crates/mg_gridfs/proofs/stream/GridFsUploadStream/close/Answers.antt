use Rattle.std.proofs.Common.{None, refl, sym, ap, subst}
use Rattle.mg_link.specs.Moment.{moment}
use Rattle.mg_cursor.proofs.Hearing.{keeps_to}
use Rattle.mg_gridfs.specs.Calls.{ending_beside, end_ending}
use Rattle.mg_gridfs.specs.Steps as steps
use Rattle.mg_gridfs.specs.Steps.{done, waits}
use Rattle.mg_gridfs.specs.Uploads.{error_behind, phase_ticket, ticket_by, upload_ticket}
use Rattle.mg_gridfs.specs.UploadView.{HasBuffer, doing_of, phase_of, upload_of, upload_with, worker_of}
use Rattle.mg_gridfs.specs.declared.polls.Step2.TheVariants as poll
use Rattle.mg_gridfs.specs.declared.stream.GridFsUploadStream.{GridFsUploadStream}
use Rattle.mg_gridfs.specs.declared.stream.State.{State}
use Rattle.mg_gridfs.proofs.stream.GridFsUploadStream.close.Goals as goal

pub drive-requires-clause-held : goal.drive-requires-clause-held
drive-requires-clause-held g c = c.requires.held

pub drive-requires-clause-sound : goal.drive-requires-clause-sound
drive-requires-clause-sound g c = (c.requires.sound.0, c.requires.sound.1)

pub drive-requires-clause-buffer : goal.drive-requires-clause-buffer
drive-requires-clause-buffer g c = c.requires.sound.2

-- ---- Pending

pub returns-in-Pending-clause-keeps : goal.returns-in-Pending-clause-keeps
returns-in-Pending-clause-keeps g c = keeps_to (moment (g.L.Link.awaited c.args.link.now) (g.L.Link.log c.args.link.now) (g.L.Link.faults c.args.link.now) (g.L.Link.pends c.args.link.now) (g.L.Link.wire c.args.link.now) (g.L.Link.prompt c.args.link.now)) (moment (g.L.Link.awaited c.drive.new.link) (g.L.Link.log c.drive.new.link) (g.L.Link.faults c.drive.new.link) (g.L.Link.pends c.drive.new.link) (g.L.Link.wire c.drive.new.link) (g.L.Link.prompt c.drive.new.link)) (phase_ticket (phase_of c.args.stage)) (phase_ticket (phase_of c.in-Pending.stage)) (upload_ticket (upload_of c.enter.new.self)) (ending_beside (end_ending poll.Pending) (error_behind (phase_of c.args.stage))) (ap (λ (x : GridFsUploadStream). upload_ticket (upload_of x)) (sym c.enter.ensures)) c.in-Pending.ensures.keeps

pub returns-in-Pending-clause-drives : goal.returns-in-Pending-clause-drives
returns-in-Pending-clause-drives g c =
    let on = c.in-Pending.ensures.drives in
    (on.0, on.1, waits (phase_of c.in-Pending.stage), record { steps = on.2.0; left = worker_of c.drive.new.self; does = on.2.1; behind = ap upload_of c.enter.ensures }, refl)

pub returns-in-Pending-clause-buffer : goal.returns-in-Pending-clause-buffer
returns-in-Pending-clause-buffer g c = subst (λ (x : GridFsUploadStream). HasBuffer x.upload) (sym c.enter.ensures) c.drive.ensures.buffer

-- ---- Done

pub returns-in-Done-clause-keeps : goal.returns-in-Done-clause-keeps
returns-in-Done-clause-keeps g c = keeps_to (moment (g.L.Link.awaited c.args.link.now) (g.L.Link.log c.args.link.now) (g.L.Link.faults c.args.link.now) (g.L.Link.pends c.args.link.now) (g.L.Link.wire c.args.link.now) (g.L.Link.prompt c.args.link.now)) (moment (g.L.Link.awaited c.drive.new.link) (g.L.Link.log c.drive.new.link) (g.L.Link.faults c.drive.new.link) (g.L.Link.pends c.drive.new.link) (g.L.Link.wire c.drive.new.link) (g.L.Link.prompt c.drive.new.link)) (phase_ticket (phase_of c.args.stage)) None (ticket_by (doing_of c.args.self.now.state)) (ending_beside (end_ending poll.Done) (error_behind (phase_of c.args.stage))) (ap (λ (x : State). ticket_by (doing_of x)) (sym c.requires.closed)) c.in-Done.ensures.keeps

pub returns-in-Done-clause-drives : goal.returns-in-Done-clause-drives
returns-in-Done-clause-drives g c =
    let on = c.in-Done.ensures.drives in
    (on.0, on.1, done, record { steps = on.2.0; left = worker_of c.drive.new.self; does = on.2.1; behind = ap (λ (x : State). upload_with c.drive.new.self (doing_of x)) c.requires.closed }, refl)

pub returns-in-Done-clause-buffer : goal.returns-in-Done-clause-buffer
returns-in-Done-clause-buffer g c = c.drive.ensures.buffer

-- ---- Failed

pub returns-in-Failed-clause-keeps : goal.returns-in-Failed-clause-keeps
returns-in-Failed-clause-keeps g c = keeps_to (moment (g.L.Link.awaited c.args.link.now) (g.L.Link.log c.args.link.now) (g.L.Link.faults c.args.link.now) (g.L.Link.pends c.args.link.now) (g.L.Link.wire c.args.link.now) (g.L.Link.prompt c.args.link.now)) (moment (g.L.Link.awaited c.drive.new.link) (g.L.Link.log c.drive.new.link) (g.L.Link.faults c.drive.new.link) (g.L.Link.pends c.drive.new.link) (g.L.Link.wire c.drive.new.link) (g.L.Link.prompt c.drive.new.link)) (phase_ticket (phase_of c.args.stage)) None (ticket_by (doing_of c.args.self.now.state)) (ending_beside (end_ending (poll.Failed c.in-Failed.error)) (error_behind (phase_of c.args.stage))) (ap (λ (x : State). ticket_by (doing_of x)) (sym c.requires.closed)) c.in-Failed.ensures.keeps

pub returns-in-Failed-clause-drives : goal.returns-in-Failed-clause-drives
returns-in-Failed-clause-drives g c =
    let on = c.in-Failed.ensures.drives in
    (on.0, on.1, steps.failed c.in-Failed.error, record { steps = on.2.0; left = worker_of c.drive.new.self; does = on.2.1; behind = ap (λ (x : State). upload_with c.drive.new.self (doing_of x)) c.requires.closed }, refl)

pub returns-in-Failed-clause-buffer : goal.returns-in-Failed-clause-buffer
returns-in-Failed-clause-buffer g c = c.drive.ensures.buffer
