use Rattle.std.proofs.Common.{ℕ, None, refl, sym, ap, ◌∙◌, subst}
use Rattle.mg_link.specs.Acts.{IsOut}
use Rattle.mg_link.specs.Moment.{LinkKeeps, moment}
use Rattle.mg_ops.specs.Drawn.{AreLater}
use Rattle.mg_ops.proofs.Drawn.{later_same}
use Rattle.mg_gridfs.specs.Calls as calls
use Rattle.mg_gridfs.specs.Calls.{TakesNoWrite, Writes, ending_beside, write_ending}
use Rattle.mg_gridfs.specs.Uploads.{IsSoundUpload, RestsBy, SoundBy, error_by, idle, ticket_by, upload_error, upload_ticket}
use Rattle.mg_gridfs.specs.UploadView.{HasBuffer, doing_of, phase_of, upload_of, upload_with}
use Rattle.mg_gridfs.specs.declared.stream.GridFsUploadStream.{GridFsUploadStream}
use Rattle.mg_gridfs.specs.declared.stream.State.{State}
use Rattle.mg_gridfs.proofs.Calling.{keeps_refused}
use Rattle.mg_gridfs.proofs.Polled.{bounds_doing, sound_doing}
use Rattle.mg_gridfs.proofs.Stepping.{keeps_beside}
use Rattle.mg_gridfs.proofs.stream.GridFsUploadStream.any_write.Goals as goal

pub start-requires-clause-sound : goal.start-requires-clause-sound
start-requires-clause-sound g c = (subst (λ (x : State). IsSoundUpload (upload_with c.args.self.now.upload (doing_of x))) (sym c.in-Idle.ensures.value) c.requires.sound.between.sound, c.requires.sound.buffer)

pub start-requires-clause-closed : goal.start-requires-clause-closed
start-requires-clause-closed g c = c.replace.ensures.after

pub write-requires-clause-held : goal.write-requires-clause-held
write-requires-clause-held g c = subst (λ (x : State). IsOut (g.L.Link.awaited c.args.link.now) (ticket_by (doing_of x))) (sym c.in-Writing.ensures.value) c.requires.held

pub write-requires-clause-sound : goal.write-requires-clause-sound
write-requires-clause-sound g c = (
  bounds_doing (upload_of c.args.self.now) idle c.requires.sound.between.sound.bounds,
  sound_doing (upload_of c.args.self.now) idle (phase_of c.in-Writing.stage) (subst (λ (x : State). SoundBy (upload_of c.args.self.now) (doing_of x)) (sym c.in-Writing.ensures.value) c.requires.sound.between.sound.by),
  c.requires.sound.buffer,
)

pub write-requires-clause-call : goal.write-requires-clause-call
write-requires-clause-call g c = (subst (λ (x : State). RestsBy (doing_of x)) (sym c.in-Writing.ensures.value) c.requires.sound.between.rests_so).1

pub write-requires-clause-closed : goal.write-requires-clause-closed
write-requires-clause-closed g c = c.replace.ensures.after

-- ---- a new write

pub returns-in-Idle-clause-keeps : goal.returns-in-Idle-clause-keeps
returns-in-Idle-clause-keeps g c =
    subst (λ (x : State). LinkKeeps (moment (g.L.Link.awaited c.args.link.now) (g.L.Link.log c.args.link.now) (g.L.Link.faults c.args.link.now) (g.L.Link.pends c.args.link.now) (g.L.Link.wire c.args.link.now) (g.L.Link.prompt c.args.link.now)) (moment (g.L.Link.awaited c.start.new.link) (g.L.Link.log c.start.new.link) (g.L.Link.faults c.start.new.link) (g.L.Link.pends c.start.new.link) (g.L.Link.wire c.start.new.link) (g.L.Link.prompt c.start.new.link)) (ticket_by (doing_of x)) (upload_ticket (upload_of c.start.new.self)) (ending_beside (write_ending c.start.result) (error_by (doing_of x)))) c.in-Idle.ensures.value
    (keeps_beside (moment (g.L.Link.awaited c.args.link.now) (g.L.Link.log c.args.link.now) (g.L.Link.faults c.args.link.now) (g.L.Link.pends c.args.link.now) (g.L.Link.wire c.args.link.now) (g.L.Link.prompt c.args.link.now)) (moment (g.L.Link.awaited c.start.new.link) (g.L.Link.log c.start.new.link) (g.L.Link.faults c.start.new.link) (g.L.Link.pends c.start.new.link) (g.L.Link.wire c.start.new.link) (g.L.Link.prompt c.start.new.link)) None (upload_ticket (upload_of c.start.new.self)) (write_ending c.start.result) None c.start.ensures.keeps)

pub returns-in-Idle-clause-writes : goal.returns-in-Idle-clause-writes
returns-in-Idle-clause-writes g c = subst (λ (x : State). (drawn : ℕ) × AreLater (g.I.IdSource.ids c.args.ids.now) drawn (g.I.IdSource.ids c.start.new.ids) × Writes (g.L.Link.awaited c.args.link.now) (g.L.Link.awaited c.start.new.link) (g.L.Link.log c.args.link.now) (g.L.Link.log c.start.new.link) (g.L.Link.wire c.args.link.now) (g.I.IdSource.ids c.args.ids.now) drawn (upload_with c.args.self.now.upload (doing_of x)) (upload_of c.start.new.self) c.args.bytes.now c.start.result) c.in-Idle.ensures.value c.start.ensures.writes

pub returns-in-Idle-clause-buffer : goal.returns-in-Idle-clause-buffer
returns-in-Idle-clause-buffer g c = c.start.ensures.buffer

-- ---- one that goes on

pub returns-in-Writing-clause-keeps : goal.returns-in-Writing-clause-keeps
returns-in-Writing-clause-keeps g c = subst (λ (x : State). LinkKeeps (moment (g.L.Link.awaited c.args.link.now) (g.L.Link.log c.args.link.now) (g.L.Link.faults c.args.link.now) (g.L.Link.pends c.args.link.now) (g.L.Link.wire c.args.link.now) (g.L.Link.prompt c.args.link.now)) (moment (g.L.Link.awaited c.write.new.link) (g.L.Link.log c.write.new.link) (g.L.Link.faults c.write.new.link) (g.L.Link.pends c.write.new.link) (g.L.Link.wire c.write.new.link) (g.L.Link.prompt c.write.new.link)) (ticket_by (doing_of x)) (upload_ticket (upload_of c.write.new.self)) (ending_beside (write_ending c.write.result) (error_by (doing_of x)))) c.in-Writing.ensures.value c.write.ensures.keeps

pub returns-in-Writing-clause-writes : goal.returns-in-Writing-clause-writes
returns-in-Writing-clause-writes g c =
    let on = c.write.ensures.drives in
    (on.0, on.1, calls.goes_on c.in-Writing.piece (phase_of c.in-Writing.stage) (sym (ap doing_of c.in-Writing.ensures.value)) on.2 (record { steps = on.3.steps; left = on.3.left; does = on.3.does; behind = on.3.behind }) on.4)

pub returns-in-Writing-clause-buffer : goal.returns-in-Writing-clause-buffer
returns-in-Writing-clause-buffer g c = c.write.ensures.buffer

-- ---- none is taken

pub returns-in-Closing-clause-keeps : goal.returns-in-Closing-clause-keeps
returns-in-Closing-clause-keeps g c = keeps_refused (moment (g.L.Link.awaited c.args.link.now) (g.L.Link.log c.args.link.now) (g.L.Link.faults c.args.link.now) (g.L.Link.pends c.args.link.now) (g.L.Link.wire c.args.link.now) (g.L.Link.prompt c.args.link.now)) (upload_of c.args.self.now) (upload_of c.refuse_write.new.self) c.refuse_write.result (upload_error (upload_of c.args.self.now)) c.requires.held (ap upload_of (c.refuse_write.ensures.entered ∙ ap (λ (x : State). record c.args.self.now { state = x }) c.in-Closing.ensures.value)) c.refuse_write.ensures.refused

pub returns-in-Closing-clause-writes : goal.returns-in-Closing-clause-writes
returns-in-Closing-clause-writes g c = (0, later_same (g.I.IdSource.ids c.args.ids.now), calls.refused (subst (λ (x : State). TakesNoWrite (doing_of x)) c.in-Closing.ensures.value tt) (record { quiet = (record { rest = λ n. refl; log_same = refl }); undrawn = refl; same = ap upload_of (c.refuse_write.ensures.entered ∙ ap (λ (x : State). record c.args.self.now { state = x }) c.in-Closing.ensures.value) }) c.refuse_write.ensures.refused)

pub returns-in-Closing-clause-buffer : goal.returns-in-Closing-clause-buffer
returns-in-Closing-clause-buffer g c = subst (λ (x : GridFsUploadStream). HasBuffer x.upload) (sym (c.refuse_write.ensures.entered ∙ ap (λ (x : State). record c.args.self.now { state = x }) c.in-Closing.ensures.value)) c.requires.sound.buffer

pub returns-in-Aborting-clause-keeps : goal.returns-in-Aborting-clause-keeps
returns-in-Aborting-clause-keeps g c = keeps_refused (moment (g.L.Link.awaited c.args.link.now) (g.L.Link.log c.args.link.now) (g.L.Link.faults c.args.link.now) (g.L.Link.pends c.args.link.now) (g.L.Link.wire c.args.link.now) (g.L.Link.prompt c.args.link.now)) (upload_of c.args.self.now) (upload_of c.refuse_write-in-Aborting.new.self) c.refuse_write-in-Aborting.result (upload_error (upload_of c.args.self.now)) c.requires.held (ap upload_of (c.refuse_write-in-Aborting.ensures.entered ∙ ap (λ (x : State). record c.args.self.now { state = x }) c.in-Aborting.ensures.value)) c.refuse_write-in-Aborting.ensures.refused

pub returns-in-Aborting-clause-writes : goal.returns-in-Aborting-clause-writes
returns-in-Aborting-clause-writes g c = (0, later_same (g.I.IdSource.ids c.args.ids.now), calls.refused (subst (λ (x : State). TakesNoWrite (doing_of x)) c.in-Aborting.ensures.value tt) (record { quiet = (record { rest = λ n. refl; log_same = refl }); undrawn = refl; same = ap upload_of (c.refuse_write-in-Aborting.ensures.entered ∙ ap (λ (x : State). record c.args.self.now { state = x }) c.in-Aborting.ensures.value) }) c.refuse_write-in-Aborting.ensures.refused)

pub returns-in-Aborting-clause-buffer : goal.returns-in-Aborting-clause-buffer
returns-in-Aborting-clause-buffer g c = subst (λ (x : GridFsUploadStream). HasBuffer x.upload) (sym (c.refuse_write-in-Aborting.ensures.entered ∙ ap (λ (x : State). record c.args.self.now { state = x }) c.in-Aborting.ensures.value)) c.requires.sound.buffer

pub returns-in-Closed-clause-keeps : goal.returns-in-Closed-clause-keeps
returns-in-Closed-clause-keeps g c = keeps_refused (moment (g.L.Link.awaited c.args.link.now) (g.L.Link.log c.args.link.now) (g.L.Link.faults c.args.link.now) (g.L.Link.pends c.args.link.now) (g.L.Link.wire c.args.link.now) (g.L.Link.prompt c.args.link.now)) (upload_of c.args.self.now) (upload_of c.refuse_write-in-Closed.new.self) c.refuse_write-in-Closed.result (upload_error (upload_of c.args.self.now)) c.requires.held (ap upload_of (c.refuse_write-in-Closed.ensures.entered ∙ ap (λ (x : State). record c.args.self.now { state = x }) c.in-Closed.ensures.value)) c.refuse_write-in-Closed.ensures.refused

pub returns-in-Closed-clause-writes : goal.returns-in-Closed-clause-writes
returns-in-Closed-clause-writes g c = (0, later_same (g.I.IdSource.ids c.args.ids.now), calls.refused (subst (λ (x : State). TakesNoWrite (doing_of x)) c.in-Closed.ensures.value tt) (record { quiet = (record { rest = λ n. refl; log_same = refl }); undrawn = refl; same = ap upload_of (c.refuse_write-in-Closed.ensures.entered ∙ ap (λ (x : State). record c.args.self.now { state = x }) c.in-Closed.ensures.value) }) c.refuse_write-in-Closed.ensures.refused)

pub returns-in-Closed-clause-buffer : goal.returns-in-Closed-clause-buffer
returns-in-Closed-clause-buffer g c = subst (λ (x : GridFsUploadStream). HasBuffer x.upload) (sym (c.refuse_write-in-Closed.ensures.entered ∙ ap (λ (x : State). record c.args.self.now { state = x }) c.in-Closed.ensures.value)) c.requires.sound.buffer
