use Rattle.std.proofs.Common.{ℕ, Option, None, refl, sym, ap, ◌∙◌, subst}
use Rattle.mg_link.specs.Acts.{IsOut}
use Rattle.mg_link.specs.Moment.{moment}
use Rattle.mg_cursor.proofs.Hearing.{keeps_from}
use Rattle.mg_gridfs.specs.Calls as calls
use Rattle.mg_gridfs.specs.Calls.{abort_phase, end_ending}
use Rattle.mg_gridfs.specs.Uploads.{idle, phase_ticket, upload_ticket}
use Rattle.mg_gridfs.specs.UploadView.{HasBuffer, back_phase, doing_of, upload_of}
use Rattle.mg_gridfs.specs.declared.stream.GridFsUploadStream.{GridFsUploadStream}
use Rattle.mg_gridfs.specs.declared.stream.State.{State}
use Rattle.mg_gridfs.proofs.Calling.{abort_goes, aborts_by, keeps_none, keeps_not_ended, no_abort, state_closed}
use Rattle.mg_gridfs.proofs.Polled.{bounds_doing}
use Rattle.mg_gridfs.proofs.stream.GridFsUploadStream.any_abort.Goals as goal

pub abort-requires-clause-held : goal.abort-requires-clause-held
abort-requires-clause-held g c =
    let on = abort_goes (upload_of c.args.self.now) c.requires.sound.between (back_phase c.in-Some.back) (ap (λ (x : State). abort_phase (doing_of x)) (sym c.replace.ensures.value) ∙ sym c.in-Some.ensures) in
    subst (λ (m : Option ℕ). IsOut (g.L.Link.awaited c.args.link.now) m) (sym on.ticket) c.requires.held

pub abort-requires-clause-sound : goal.abort-requires-clause-sound
abort-requires-clause-sound g c =
    let on = abort_goes (upload_of c.args.self.now) c.requires.sound.between (back_phase c.in-Some.back) (ap (λ (x : State). abort_phase (doing_of x)) (sym c.replace.ensures.value) ∙ sym c.in-Some.ensures) in
    (bounds_doing (upload_of c.args.self.now) idle c.requires.sound.between.sound.bounds, on.sound, c.requires.sound.buffer)

pub abort-requires-clause-call : goal.abort-requires-clause-call
abort-requires-clause-call g c = let on = abort_goes (upload_of c.args.self.now) c.requires.sound.between (back_phase c.in-Some.back) (ap (λ (x : State). abort_phase (doing_of x)) (sym c.replace.ensures.value) ∙ sym c.in-Some.ensures) in on.of_call

pub abort-requires-clause-closed : goal.abort-requires-clause-closed
abort-requires-clause-closed g c = c.replace.ensures.after

pub returns-in-Some-clause-keeps : goal.returns-in-Some-clause-keeps
returns-in-Some-clause-keeps g c =
    let on = abort_goes (upload_of c.args.self.now) c.requires.sound.between (back_phase c.in-Some.back) (ap (λ (x : State). abort_phase (doing_of x)) (sym c.replace.ensures.value) ∙ sym c.in-Some.ensures) in
    keeps_from (moment (g.L.Link.awaited c.args.link.now) (g.L.Link.log c.args.link.now) (g.L.Link.faults c.args.link.now) (g.L.Link.pends c.args.link.now) (g.L.Link.wire c.args.link.now) (g.L.Link.prompt c.args.link.now)) (moment (g.L.Link.awaited c.abort.new.link) (g.L.Link.log c.abort.new.link) (g.L.Link.faults c.abort.new.link) (g.L.Link.pends c.abort.new.link) (g.L.Link.wire c.abort.new.link) (g.L.Link.prompt c.abort.new.link)) (phase_ticket (back_phase c.in-Some.back)) (upload_ticket (upload_of c.args.self.now)) (upload_ticket (upload_of c.abort.new.self)) (end_ending c.abort.result) on.ticket c.abort.ensures.keeps

pub returns-in-Some-clause-aborts : goal.returns-in-Some-clause-aborts
returns-in-Some-clause-aborts g c =
    let does = c.abort.ensures.drives in
    aborts_by (g.L.Link.awaited c.args.link.now) (g.L.Link.awaited c.abort.new.link) (g.L.Link.log c.args.link.now) (g.L.Link.log c.abort.new.link) (g.L.Link.wire c.args.link.now) (upload_of c.args.self.now) (upload_of c.abort.new.self) does.0 c.abort.result does.2 (back_phase c.in-Some.back) (ap (λ (x : State). abort_phase (doing_of x)) (sym c.replace.ensures.value) ∙ sym c.in-Some.ensures) (λ ids. (let d = does.1 ids in record { steps = d.steps; left = d.left; does = d.does; behind = d.behind }))

pub returns-in-Some-clause-buffer : goal.returns-in-Some-clause-buffer
returns-in-Some-clause-buffer g c = c.abort.ensures.buffer

-- ---- it has ended

pub returns-in-None-clause-keeps : goal.returns-in-None-clause-keeps
returns-in-None-clause-keeps g c = keeps_none (moment (g.L.Link.awaited c.args.link.now) (g.L.Link.log c.args.link.now) (g.L.Link.faults c.args.link.now) (g.L.Link.pends c.args.link.now) (g.L.Link.wire c.args.link.now) (g.L.Link.prompt c.args.link.now)) (moment (g.L.Link.awaited c.args.link.now) (g.L.Link.log c.args.link.now) (g.L.Link.faults c.args.link.now) (g.L.Link.pends c.args.link.now) (g.L.Link.wire c.args.link.now) (g.L.Link.prompt c.args.link.now)) (upload_ticket (upload_of c.args.self.now)) (upload_ticket (upload_of c.refuse_end.new.self)) (end_ending c.refuse_end.result) (keeps_not_ended (moment (g.L.Link.awaited c.args.link.now) (g.L.Link.log c.args.link.now) (g.L.Link.faults c.args.link.now) (g.L.Link.pends c.args.link.now) (g.L.Link.wire c.args.link.now) (g.L.Link.prompt c.args.link.now)) (upload_of c.args.self.now) (upload_of c.refuse_end.new.self) c.refuse_end.result None c.requires.held (ap upload_of (c.refuse_end.ensures.entered ∙ ap (λ (x : State). record c.args.self.now { state = x }) (sym (state_closed c.args.self.now.state (no_abort (upload_of c.args.self.now) (ap (λ (x : State). abort_phase (doing_of x)) (sym c.replace.ensures.value) ∙ sym c.in-None.ensures)))))) c.refuse_end.ensures.refused)

pub returns-in-None-clause-aborts : goal.returns-in-None-clause-aborts
returns-in-None-clause-aborts g c = calls.refused (no_abort (upload_of c.args.self.now) (ap (λ (x : State). abort_phase (doing_of x)) (sym c.replace.ensures.value) ∙ sym c.in-None.ensures)) (record { quiet = (record { rest = λ n. refl; log_same = refl }); undrawn = refl; same = ap upload_of (c.refuse_end.ensures.entered ∙ ap (λ (x : State). record c.args.self.now { state = x }) (sym (state_closed c.args.self.now.state (no_abort (upload_of c.args.self.now) (ap (λ (x : State). abort_phase (doing_of x)) (sym c.replace.ensures.value) ∙ sym c.in-None.ensures))))) }) c.refuse_end.ensures.refused

pub returns-in-None-clause-buffer : goal.returns-in-None-clause-buffer
returns-in-None-clause-buffer g c = subst (λ (x : GridFsUploadStream). HasBuffer x.upload) (sym (c.refuse_end.ensures.entered ∙ ap (λ (x : State). record c.args.self.now { state = x }) (sym (state_closed c.args.self.now.state (no_abort (upload_of c.args.self.now) (ap (λ (x : State). abort_phase (doing_of x)) (sym c.replace.ensures.value) ∙ sym c.in-None.ensures)))))) c.requires.sound.buffer
