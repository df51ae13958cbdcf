use Rattle.std.proofs.Common.{◌≡◌, ℕ, Bool, true, false, length, nat_le, Option, Some, None, refl, sym, ap, ◌∙◌, subst}
use Rattle.std.specs.Prelude.{if◌then◌else◌}
use Rattle.mg_link.specs.Moment.{LinkKeeps, moment}
use Rattle.mg_link.specs.declared.error.Error.{Error}
use Rattle.mg_link.specs.declared.error.ErrorKind.TheVariants as kind
use Rattle.mg_link.specs.Errors.{plain}
use Rattle.mg_ops.proofs.Drawn.{later_same}
use Rattle.mg_gridfs.specs.Calls as calls
use Rattle.mg_gridfs.specs.Calls.{Drives, ending_beside, first_phase, with_bytes, write_ending}
use Rattle.mg_gridfs.specs.Uploads.{ClientUpload, HasBounds, IsOfCall, IsSoundPhase, Phase, error_behind, phase_ticket, upload_ticket, write}
use Rattle.mg_gridfs.specs.UploadView.{HasBuffer, phase_of, upload_of, worker_of}
use Rattle.mg_gridfs.specs.declared.polls.WritePoll.{WritePoll}
use Rattle.mg_gridfs.specs.declared.stream.GridFsUploadStream.{GridFsUploadStream}
use Rattle.mg_gridfs.proofs.Calling.{bounds_bytes, first_error, first_ticket, keeps_idle, keeps_none, keeps_not_taken}
use Rattle.mg_gridfs.proofs.Polled.{begun_sound, begun_writes}
use Rattle.mg_gridfs.proofs.Stepping.{full_by, short_by}
use Rattle.mg_gridfs.proofs.stream.GridFsUploadStream.start.Goals as goal

pub take-requires : goal.take-requires
take-requires g c = c.requires.sound.1

pub has_chunk-requires : goal.has_chunk-requires
has_chunk-requires g c = c.take.ensures.buffer

-- ---- memory ran out

pub returns-then-not-take-clause-keeps : goal.returns-then-not-take-clause-keeps
returns-then-not-take-clause-keeps g c =
    subst (λ (r : WritePoll). LinkKeeps (moment (g.L.Link.awaited c.args.link.now) (g.L.Link.log c.args.link.now) (g.L.Link.faults c.args.link.now) (g.L.Link.pends c.args.link.now) (g.L.Link.wire c.args.link.now) (g.L.Link.prompt c.args.link.now)) (moment (g.L.Link.awaited c.args.link.now) (g.L.Link.log c.args.link.now) (g.L.Link.faults c.args.link.now) (g.L.Link.pends c.args.link.now) (g.L.Link.wire c.args.link.now) (g.L.Link.prompt c.args.link.now)) None (upload_ticket (upload_of c.not_taken.new.self)) (write_ending r)) (sym c.not_taken.ensures.failed)
    (keeps_not_taken (moment (g.L.Link.awaited c.args.link.now) (g.L.Link.log c.args.link.now) (g.L.Link.faults c.args.link.now) (g.L.Link.pends c.args.link.now) (g.L.Link.wire c.args.link.now) (g.L.Link.prompt c.args.link.now)) (upload_ticket (upload_of c.not_taken.new.self)) (plain kind.OutOfMemory) refl (ap upload_ticket (ap upload_of c.not_taken.ensures.entered ∙ (c.take.ensures.taken ∙ ap (λ (b : Bool). if b then with_bytes c.args.bytes.now (worker_of c.args.self.now.upload) else (worker_of c.args.self.now.upload)) c.if-not-take.true))))

pub returns-then-not-take-clause-writes : goal.returns-then-not-take-clause-writes
returns-then-not-take-clause-writes g c = (0, later_same (g.I.IdSource.ids c.args.ids.now), calls.not_taken refl (record { quiet = (record { rest = λ n. refl; log_same = refl }); undrawn = refl; same = (ap upload_of c.not_taken.ensures.entered ∙ (c.take.ensures.taken ∙ ap (λ (b : Bool). if b then with_bytes c.args.bytes.now (worker_of c.args.self.now.upload) else (worker_of c.args.self.now.upload)) c.if-not-take.true)) }) c.not_taken.ensures.failed)

pub returns-then-not-take-clause-buffer : goal.returns-then-not-take-clause-buffer
returns-then-not-take-clause-buffer g c = subst (λ (x : GridFsUploadStream). HasBuffer x.upload) (sym c.not_taken.ensures.entered) c.take.ensures.buffer

-- ---- no chunk is full

pub returns-then-not-has_chunk-clause-keeps : goal.returns-then-not-has_chunk-clause-keeps
returns-then-not-has_chunk-clause-keeps g c =
    subst (λ (r : WritePoll). LinkKeeps (moment (g.L.Link.awaited c.args.link.now) (g.L.Link.log c.args.link.now) (g.L.Link.faults c.args.link.now) (g.L.Link.pends c.args.link.now) (g.L.Link.wire c.args.link.now) (g.L.Link.prompt c.args.link.now)) (moment (g.L.Link.awaited c.args.link.now) (g.L.Link.log c.args.link.now) (g.L.Link.faults c.args.link.now) (g.L.Link.pends c.args.link.now) (g.L.Link.wire c.args.link.now) (g.L.Link.prompt c.args.link.now)) None (upload_ticket (upload_of c.kept.new.self)) (write_ending r)) (sym c.kept.ensures.wrote)
    (keeps_idle (moment (g.L.Link.awaited c.args.link.now) (g.L.Link.log c.args.link.now) (g.L.Link.faults c.args.link.now) (g.L.Link.pends c.args.link.now) (g.L.Link.wire c.args.link.now) (g.L.Link.prompt c.args.link.now)) (upload_ticket (upload_of c.kept.new.self)) (ap upload_ticket (ap upload_of c.kept.ensures.entered ∙ (c.take.ensures.taken ∙ ap (λ (b : Bool). if b then with_bytes c.args.bytes.now (worker_of c.args.self.now.upload) else (worker_of c.args.self.now.upload)) c.if-not-take.false))))

pub returns-then-not-has_chunk-clause-writes : goal.returns-then-not-has_chunk-clause-writes
returns-then-not-has_chunk-clause-writes g c =
    let short = short_by (with_bytes c.args.bytes.now (worker_of c.args.self.now.upload)).aim.size (length (with_bytes c.args.bytes.now (worker_of c.args.self.now.upload)).behind) (subst (λ (w : ClientUpload). nat_le w.aim.size (length w.behind) ≡ false) (c.take.ensures.taken ∙ ap (λ (b : Bool). if b then with_bytes c.args.bytes.now (worker_of c.args.self.now.upload) else (worker_of c.args.self.now.upload)) c.if-not-take.false) (sym c.has_chunk.ensures ∙ c.if-not-has_chunk.true)) in
    (0, later_same (g.I.IdSource.ids c.args.ids.now), calls.kept refl short (record { rest = λ n. refl; log_same = refl }) refl (ap upload_of c.kept.ensures.entered ∙ (c.take.ensures.taken ∙ ap (λ (b : Bool). if b then with_bytes c.args.bytes.now (worker_of c.args.self.now.upload) else (worker_of c.args.self.now.upload)) c.if-not-take.false)) c.kept.ensures.wrote)

pub returns-then-not-has_chunk-clause-buffer : goal.returns-then-not-has_chunk-clause-buffer
returns-then-not-has_chunk-clause-buffer g c = subst (λ (x : GridFsUploadStream). HasBuffer x.upload) (sym c.kept.ensures.entered) c.take.ensures.buffer

-- ---- the full chunks are inserted

pub write-requires-clause-held : goal.write-requires-clause-held
write-requires-clause-held g c = λ n e. let bad : None ≡ Some n = sym (ap phase_ticket c.first_stage-stage.ensures ∙ first_ticket c.take.new.self.checked) ∙ e in absurd cc

pub write-requires-clause-sound : goal.write-requires-clause-sound
write-requires-clause-sound g c = (
  subst HasBounds (sym (c.take.ensures.taken ∙ ap (λ (b : Bool). if b then with_bytes c.args.bytes.now (worker_of c.args.self.now.upload) else (worker_of c.args.self.now.upload)) c.if-not-take.false)) (bounds_bytes c.args.bytes.now (worker_of c.args.self.now.upload) c.requires.sound.0.bounds),
  subst (λ (p : Phase). IsSoundPhase (worker_of c.take.new.self) p) (sym c.first_stage-stage.ensures) (begun_sound (worker_of c.take.new.self) c.take.new.self.checked refl),
  c.take.ensures.buffer,
)

pub write-requires-clause-call : goal.write-requires-clause-call
write-requires-clause-call g c = subst (λ (p : Phase). IsOfCall (write (length c.args.bytes.now)) p) (sym c.first_stage-stage.ensures) (begun_writes (length c.args.bytes.now) c.take.new.self.checked)

pub write-requires-clause-closed : goal.write-requires-clause-closed
write-requires-clause-closed g c = c.requires.closed

pub returns-clause-keeps : goal.returns-clause-keeps
returns-clause-keeps g c =
    keeps_none (moment (g.L.Link.awaited c.args.link.now) (g.L.Link.log c.args.link.now) (g.L.Link.faults c.args.link.now) (g.L.Link.pends c.args.link.now) (g.L.Link.wire c.args.link.now) (g.L.Link.prompt c.args.link.now)) (moment (g.L.Link.awaited c.write.new.link) (g.L.Link.log c.write.new.link) (g.L.Link.faults c.write.new.link) (g.L.Link.pends c.write.new.link) (g.L.Link.wire c.write.new.link) (g.L.Link.prompt c.write.new.link)) None (upload_ticket (upload_of c.write.new.self)) (write_ending c.write.result)
    (subst (λ (e : Option Error). LinkKeeps (moment (g.L.Link.awaited c.args.link.now) (g.L.Link.log c.args.link.now) (g.L.Link.faults c.args.link.now) (g.L.Link.pends c.args.link.now) (g.L.Link.wire c.args.link.now) (g.L.Link.prompt c.args.link.now)) (moment (g.L.Link.awaited c.write.new.link) (g.L.Link.log c.write.new.link) (g.L.Link.faults c.write.new.link) (g.L.Link.pends c.write.new.link) (g.L.Link.wire c.write.new.link) (g.L.Link.prompt c.write.new.link)) None (upload_ticket (upload_of c.write.new.self)) (ending_beside (write_ending c.write.result) e)) (ap error_behind c.first_stage-stage.ensures ∙ first_error c.take.new.self.checked)
    (subst (λ (m : Option ℕ). LinkKeeps (moment (g.L.Link.awaited c.args.link.now) (g.L.Link.log c.args.link.now) (g.L.Link.faults c.args.link.now) (g.L.Link.pends c.args.link.now) (g.L.Link.wire c.args.link.now) (g.L.Link.prompt c.args.link.now)) (moment (g.L.Link.awaited c.write.new.link) (g.L.Link.log c.write.new.link) (g.L.Link.faults c.write.new.link) (g.L.Link.pends c.write.new.link) (g.L.Link.wire c.write.new.link) (g.L.Link.prompt c.write.new.link)) m (upload_ticket (upload_of c.write.new.self)) (ending_beside (write_ending c.write.result) (error_behind (phase_of c.first_stage-stage.result)))) (ap phase_ticket c.first_stage-stage.ensures ∙ first_ticket c.take.new.self.checked) c.write.ensures.keeps))

pub returns-clause-writes : goal.returns-clause-writes
returns-clause-writes g c =
    let on = c.write.ensures.drives in
    let full = full_by (with_bytes c.args.bytes.now (worker_of c.args.self.now.upload)).aim.size (length (with_bytes c.args.bytes.now (worker_of c.args.self.now.upload)).behind) (subst (λ (w : ClientUpload). nat_le w.aim.size (length w.behind) ≡ true) (c.take.ensures.taken ∙ ap (λ (b : Bool). if b then with_bytes c.args.bytes.now (worker_of c.args.self.now.upload) else (worker_of c.args.self.now.upload)) c.if-not-take.false) (sym c.has_chunk.ensures ∙ c.if-not-has_chunk.false)) in
    let does = subst (λ (p : Phase). Drives (g.L.Link.awaited c.args.link.now) (g.L.Link.awaited c.write.new.link) (g.L.Link.log c.args.link.now) (g.L.Link.log c.write.new.link) (g.L.Link.wire c.args.link.now) (g.I.IdSource.ids c.args.ids.now) on.0 (write (length c.args.bytes.now)) (worker_of c.take.new.self) (upload_of c.write.new.self) p on.2) c.first_stage-stage.ensures on.3 in
    (on.0, on.1, calls.starts refl full on.2 (subst (λ (w : ClientUpload). Drives (g.L.Link.awaited c.args.link.now) (g.L.Link.awaited c.write.new.link) (g.L.Link.log c.args.link.now) (g.L.Link.log c.write.new.link) (g.L.Link.wire c.args.link.now) (g.I.IdSource.ids c.args.ids.now) on.0 (write (length c.args.bytes.now)) w (upload_of c.write.new.self) (first_phase w) on.2) (c.take.ensures.taken ∙ ap (λ (b : Bool). if b then with_bytes c.args.bytes.now (worker_of c.args.self.now.upload) else (worker_of c.args.self.now.upload)) c.if-not-take.false) does) on.4)
