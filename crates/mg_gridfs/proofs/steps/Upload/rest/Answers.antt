use Rattle.std.proofs.Common.{ℕ, [], ◌∷◌, length, nat_lt, None, refl, sym, ap, ◌∙◌}
use Rattle.mg_link.specs.Exec.{ticket_at, ticket_of}
use Rattle.mg_link.specs.Moment.{finished, moment}
use Rattle.mg_link.proofs.Moments.{keeps_same}
use Rattle.mg_ops.proofs.Drawn.{later_same}
use Rattle.mg_cursor.proofs.Hearing.{failing, keeps_to}
use Rattle.mg_gridfs.specs.Commands.{chunk_document}
use Rattle.mg_gridfs.specs.Steps as steps
use Rattle.mg_gridfs.specs.Steps.{goes, rests_next}
use Rattle.mg_gridfs.specs.Turns.{turn_ending, turn_ticket}
use Rattle.mg_gridfs.specs.Uploads.{ends, lasts, rests}
use Rattle.mg_gridfs.specs.UploadView.{worker_of}
use Rattle.mg_gridfs.proofs.Filling.{but_none, same_but}
use Rattle.mg_gridfs.proofs.Stepping.{chunk_next, fail_ends, keeps_undone, none_by, record_next, some_by, turn_then}
use Rattle.mg_gridfs.proofs.Unsent.{unended_not_io}
use Rattle.mg_gridfs.proofs.steps.Upload.rest.Goals as goal

pub length-length-requires-clause-sound : goal.length-length-requires-clause-sound
length-length-requires-clause-sound g c = c.requires.sound

pub length-length-requires-clause-short : goal.length-length-requires-clause-short
length-length-requires-clause-short g c = c.requires.short

pub length-length-requires-clause-buffer : goal.length-length-requires-clause-buffer
length-length-requires-clause-buffer g c = c.requires.buffer

pub closing-requires-clause-buffer : goal.closing-requires-clause-buffer
closing-requires-clause-buffer g c = c.requires.buffer

pub closing-requires-clause-short : goal.closing-requires-clause-short
closing-requires-clause-short g c = c.requires.short

-- ---- nothing is left

pub returns-in-Record-clause-keeps : goal.returns-in-Record-clause-keeps
returns-in-Record-clause-keeps g c = keeps_same (moment (g.L.Link.awaited c.args.link.now) (g.L.Link.log c.args.link.now) (g.L.Link.faults c.args.link.now) (g.L.Link.pends c.args.link.now) (g.L.Link.wire c.args.link.now) (g.L.Link.prompt c.args.link.now)) None finished (λ n e. cc) refl tt tt

pub returns-in-Record-clause-turns : goal.returns-in-Record-clause-turns
returns-in-Record-clause-turns g c =
    let empty = none_by (worker_of c.args.self.now).behind (record_next (nat_lt 0 (length (worker_of c.args.self.now).behind)) (sym c.closing.ensures ∙ c.in-Record.is)) in
    (0, later_same (g.I.IdSource.ids c.args.ids.now), (rests_next c.args.time.millis refl (record { rest = λ n. refl; log_same = refl }) (steps.nothing_left empty refl refl (ap (λ (n : ℕ). goes (ends (record { length = n; moment = c.args.time.millis }))) c.length-length.ensures)), refl))

pub returns-in-Record-clause-same : goal.returns-in-Record-clause-same
returns-in-Record-clause-same g c = (but_none (worker_of c.args.self.now), c.requires.buffer)

-- ---- the last chunk

pub returns-in-Ok-clause-keeps : goal.returns-in-Ok-clause-keeps
returns-in-Ok-clause-keeps g c =
    let link = moment (g.L.Link.awaited c.args.link.now) (g.L.Link.log c.args.link.now) (g.L.Link.faults c.args.link.now) (g.L.Link.pends c.args.link.now) (g.L.Link.wire c.args.link.now) (g.L.Link.prompt c.args.link.now) in
    keeps_to link link None None (ticket_of c.in-Ok.exec) finished (sym (ap ticket_at c.in-Ok.ensures.ok.request.new)) (keeps_same link None finished (λ n e. cc) refl tt tt)

pub returns-in-Ok-clause-turns : goal.returns-in-Ok-clause-turns
returns-in-Ok-clause-turns g c =
    let some = some_by (worker_of c.args.self.now).behind (chunk_next (nat_lt 0 (length (worker_of c.args.self.now).behind)) (sym c.closing.ensures ∙ c.in-LastChunk.is)) in
    let b = c.in-Ok.ensures.ok in
    (1, b.drawn, (rests_next c.args.time.millis refl (record { rest = λ n. refl; log_same = refl }) (steps.built some b.small refl c.in-Ok.exec b.request b.left (ap (λ (n : ℕ). goes (lasts c.in-Ok.exec (record { length = n; moment = c.args.time.millis }))) c.length-length.ensures)), refl))

pub returns-in-Ok-clause-same : goal.returns-in-Ok-clause-same
returns-in-Ok-clause-same g c = c.last_portion.ensures.same

pub returns-in-Err-clause-keeps : goal.returns-in-Err-clause-keeps
returns-in-Err-clause-keeps g c =
    let link = moment (g.L.Link.awaited c.args.link.now) (g.L.Link.log c.args.link.now) (g.L.Link.faults c.args.link.now) (g.L.Link.pends c.args.link.now) (g.L.Link.wire c.args.link.now) (g.L.Link.prompt c.args.link.now) in
    keeps_undone link link (moment (g.L.Link.awaited c.fail.new.link) (g.L.Link.log c.fail.new.link) (g.L.Link.faults c.fail.new.link) (g.L.Link.pends c.fail.new.link) (g.L.Link.wire c.fail.new.link) (g.L.Link.prompt c.fail.new.link)) None (turn_ticket c.fail.result) c.in-Err.error (turn_ending c.fail.result)
    (failing link link None None c.in-Err.error (unended_not_io (worker_of c.args.self.now) (chunk_document ((g.I.IdSource.ids c.args.ids.now) 0) (worker_of c.args.self.now).aim.id (worker_of c.args.self.now).sent (worker_of c.args.self.now).behind ∷ []) c.in-Err.error c.in-Err.ensures.err) (keeps_same link None finished (λ n e. cc) refl tt tt))
    (fail_ends c.in-Err.error (g.L.Link.awaited c.args.link.now) (g.L.Link.awaited c.fail.new.link) (g.L.Link.log c.args.link.now) (g.L.Link.log c.fail.new.link) (g.L.Link.wire c.args.link.now) (worker_of c.last_portion.new.self) c.fail.result c.fail.ensures.fails) c.fail.ensures.keeps

pub returns-in-Err-clause-turns : goal.returns-in-Err-clause-turns
returns-in-Err-clause-turns g c =
    let some = some_by (worker_of c.args.self.now).behind (chunk_next (nat_lt 0 (length (worker_of c.args.self.now).behind)) (sym c.closing.ensures ∙ c.in-LastChunk.is)) in
    let drawn = c.in-Err.ensures.drawn in (
      drawn.0,
      drawn.2,
      turn_then (g.L.Link.awaited c.args.link.now) (g.L.Link.awaited c.args.link.now) (g.L.Link.awaited c.fail.new.link) (g.L.Link.log c.args.link.now) (g.L.Link.log c.args.link.now) (g.L.Link.log c.fail.new.link) (g.L.Link.wire c.args.link.now) (g.L.Link.wire c.args.link.now) (g.I.IdSource.ids c.args.ids.now) drawn.0 (worker_of c.args.self.now) (worker_of c.last_portion.new.self) (rests c.args.time.millis) c.in-Err.error c.fail.result refl
          (rests_next c.args.time.millis refl (record { rest = λ n. refl; log_same = refl }) (steps.not_built some drawn.1 c.in-Err.error (worker_of c.last_portion.new.self).behind c.in-Err.ensures.err (same_but (worker_of c.args.self.now) (worker_of c.last_portion.new.self) c.last_portion.ensures.same.0) refl)) c.fail.ensures.fails,
    )

pub returns-in-Err-clause-same : goal.returns-in-Err-clause-same
returns-in-Err-clause-same g c = c.last_portion.ensures.same
