use Rattle.std.proofs.Common.{ℕ, Option, refl, sym, ap, ◌∙◌, subst}
use Rattle.mg_link.specs.Acts.{IsOut}
use Rattle.mg_link.specs.Moment.{moment}
use Rattle.mg_cursor.proofs.Hearing.{keeps_from}
use Rattle.mg_ops.proofs.Drawn.{later_same}
use Rattle.mg_gridfs.specs.Calls as calls
use Rattle.mg_gridfs.specs.Calls.{close_phase}
use Rattle.mg_gridfs.specs.Uploads.{idle, phase_ticket, upload_error, upload_ticket}
use Rattle.mg_gridfs.specs.UploadView.{HasBuffer, doing_of, phase_of, upload_of}
use Rattle.mg_gridfs.specs.declared.stream.GridFsUploadStream.{GridFsUploadStream}
use Rattle.mg_gridfs.specs.declared.stream.State.{State}
use Rattle.mg_gridfs.proofs.Calling.{close_goes, closes_by, keeps_closing, keeps_not_ended, no_close}
use Rattle.mg_gridfs.proofs.Polled.{bounds_doing}
use Rattle.mg_gridfs.proofs.stream.GridFsUploadStream.any_close.Goals as goal

pub close-requires-clause-held : goal.close-requires-clause-held
close-requires-clause-held g c =
    let on = close_goes (upload_of c.args.self.now) c.requires.sound.between c.args.time.millis (phase_of c.in-Ok.stage) (ap (λ (x : State). close_phase c.args.time.millis (doing_of x)) (sym c.replace.ensures.value) ∙ c.in-Ok.ensures.ok) in
    subst (λ (m : Option ℕ). IsOut (g.L.Link.awaited c.args.link.now) m) (sym on.ticket) c.requires.held

pub close-requires-clause-sound : goal.close-requires-clause-sound
close-requires-clause-sound g c =
    let on = close_goes (upload_of c.args.self.now) c.requires.sound.between c.args.time.millis (phase_of c.in-Ok.stage) (ap (λ (x : State). close_phase c.args.time.millis (doing_of x)) (sym c.replace.ensures.value) ∙ c.in-Ok.ensures.ok) in
    (bounds_doing (upload_of c.args.self.now) idle c.requires.sound.between.sound.bounds, on.sound, c.requires.sound.buffer)

pub close-requires-clause-call : goal.close-requires-clause-call
close-requires-clause-call g c = let on = close_goes (upload_of c.args.self.now) c.requires.sound.between c.args.time.millis (phase_of c.in-Ok.stage) (ap (λ (x : State). close_phase c.args.time.millis (doing_of x)) (sym c.replace.ensures.value) ∙ c.in-Ok.ensures.ok) in on.of_call

pub close-requires-clause-closed : goal.close-requires-clause-closed
close-requires-clause-closed g c = c.replace.ensures.after

pub returns-in-Ok-clause-keeps : goal.returns-in-Ok-clause-keeps
returns-in-Ok-clause-keeps g c =
    let on = close_goes (upload_of c.args.self.now) c.requires.sound.between c.args.time.millis (phase_of c.in-Ok.stage) (ap (λ (x : State). close_phase c.args.time.millis (doing_of x)) (sym c.replace.ensures.value) ∙ c.in-Ok.ensures.ok) in
    let does = c.close.ensures.drives in
    keeps_closing (g.L.Link.awaited c.args.link.now) (g.L.Link.awaited c.close.new.link) (g.L.Link.log c.args.link.now) (g.L.Link.log c.close.new.link) (g.L.Link.wire c.args.link.now) (g.I.IdSource.ids c.args.ids.now) does.0 c.args.time.millis (upload_of c.args.self.now) (upload_of c.close.new.self) does.2 c.close.result does.4 (moment (g.L.Link.awaited c.args.link.now) (g.L.Link.log c.args.link.now) (g.L.Link.faults c.args.link.now) (g.L.Link.pends c.args.link.now) (g.L.Link.wire c.args.link.now) (g.L.Link.prompt c.args.link.now)) (moment (g.L.Link.awaited c.close.new.link) (g.L.Link.log c.close.new.link) (g.L.Link.faults c.close.new.link) (g.L.Link.pends c.close.new.link) (g.L.Link.wire c.close.new.link) (g.L.Link.prompt c.close.new.link)) (upload_ticket (upload_of c.args.self.now)) (upload_ticket (upload_of c.close.new.self)) (phase_of c.in-Ok.stage) (ap (λ (x : State). close_phase c.args.time.millis (doing_of x)) (sym c.replace.ensures.value) ∙ c.in-Ok.ensures.ok) (record { steps = does.3.steps; left = does.3.left; does = does.3.does; behind = does.3.behind })
    (keeps_from (moment (g.L.Link.awaited c.args.link.now) (g.L.Link.log c.args.link.now) (g.L.Link.faults c.args.link.now) (g.L.Link.pends c.args.link.now) (g.L.Link.wire c.args.link.now) (g.L.Link.prompt c.args.link.now)) (moment (g.L.Link.awaited c.close.new.link) (g.L.Link.log c.close.new.link) (g.L.Link.faults c.close.new.link) (g.L.Link.pends c.close.new.link) (g.L.Link.wire c.close.new.link) (g.L.Link.prompt c.close.new.link)) (phase_ticket (phase_of c.in-Ok.stage)) (upload_ticket (upload_of c.args.self.now)) (upload_ticket (upload_of c.close.new.self)) _ on.ticket c.close.ensures.keeps)

pub returns-in-Ok-clause-closes : goal.returns-in-Ok-clause-closes
returns-in-Ok-clause-closes g c =
    let does = c.close.ensures.drives in
    (does.0, does.1, closes_by (g.L.Link.awaited c.args.link.now) (g.L.Link.awaited c.close.new.link) (g.L.Link.log c.args.link.now) (g.L.Link.log c.close.new.link) (g.L.Link.wire c.args.link.now) (g.I.IdSource.ids c.args.ids.now) does.0 c.args.time.millis (upload_of c.args.self.now) (upload_of c.close.new.self) does.2 c.close.result does.4 (phase_of c.in-Ok.stage) (ap (λ (x : State). close_phase c.args.time.millis (doing_of x)) (sym c.replace.ensures.value) ∙ c.in-Ok.ensures.ok) (record { steps = does.3.steps; left = does.3.left; does = does.3.does; behind = does.3.behind }))

pub returns-in-Ok-clause-buffer : goal.returns-in-Ok-clause-buffer
returns-in-Ok-clause-buffer g c = c.close.ensures.buffer

-- ---- none is taken

pub returns-in-Err-clause-keeps : goal.returns-in-Err-clause-keeps
returns-in-Err-clause-keeps g c = keeps_not_ended (moment (g.L.Link.awaited c.args.link.now) (g.L.Link.log c.args.link.now) (g.L.Link.faults c.args.link.now) (g.L.Link.pends c.args.link.now) (g.L.Link.wire c.args.link.now) (g.L.Link.prompt c.args.link.now)) (upload_of c.args.self.now) (upload_of c.refuse_end.new.self) c.refuse_end.result (upload_error (upload_of c.args.self.now)) c.requires.held (ap upload_of (c.refuse_end.ensures.entered ∙ ap (λ (x : State). record c.args.self.now { state = x }) (c.in-Err.ensures.err.0 ∙ c.replace.ensures.value))) c.refuse_end.ensures.refused

pub returns-in-Err-clause-closes : goal.returns-in-Err-clause-closes
returns-in-Err-clause-closes g c = (0, later_same (g.I.IdSource.ids c.args.ids.now), calls.refused (no_close c.args.time.millis (upload_of c.args.self.now) (ap (λ (x : State). close_phase c.args.time.millis (doing_of x)) (sym c.replace.ensures.value) ∙ c.in-Err.ensures.err.1)) (record { quiet = (record { rest = λ n. refl; log_same = refl }); undrawn = refl; same = ap upload_of (c.refuse_end.ensures.entered ∙ ap (λ (x : State). record c.args.self.now { state = x }) (c.in-Err.ensures.err.0 ∙ c.replace.ensures.value)) }) c.refuse_end.ensures.refused)

pub returns-in-Err-clause-buffer : goal.returns-in-Err-clause-buffer
returns-in-Err-clause-buffer g c = subst (λ (x : GridFsUploadStream). HasBuffer x.upload) (sym (c.refuse_end.ensures.entered ∙ ap (λ (x : State). record c.args.self.now { state = x }) (c.in-Err.ensures.err.0 ∙ c.replace.ensures.value))) c.requires.sound.buffer
