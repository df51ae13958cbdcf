use Rattle.std.proofs.Common.{length, None, refl, sym, ap, ◌∙◌}
use Rattle.mg_link.specs.Exec.{ticket_at, ticket_of}
use Rattle.mg_link.specs.Moment.{finished, moment}
use Rattle.mg_link.proofs.Moments.{keeps_same}
use Rattle.mg_ops.proofs.Drawn.{later_same}
use Rattle.mg_cursor.proofs.Hearing.{failing, keeps_to}
use Rattle.mg_gridfs.specs.Steps as steps
use Rattle.mg_gridfs.specs.Steps.{done, fills_next, is_short}
use Rattle.mg_gridfs.specs.Turns.{turn_ending, turn_ticket}
use Rattle.mg_gridfs.specs.Uploads.{fills}
use Rattle.mg_gridfs.specs.UploadView.{worker_of}
use Rattle.mg_gridfs.proofs.Filling.{but_none, same_but}
use Rattle.mg_gridfs.proofs.Stepping.{fail_ends, full_by, keeps_undone, short_by, step_last, turn_then}
use Rattle.mg_gridfs.proofs.Unsent.{unfilled_not_io}
use Rattle.mg_gridfs.proofs.steps.Upload.fill.Goals as goal

pub has_chunk-requires : goal.has_chunk-requires
has_chunk-requires g c = c.requires.buffer

-- ---- none is full

pub returns-then-not-has_chunk-clause-keeps : goal.returns-then-not-has_chunk-clause-keeps
returns-then-not-has_chunk-clause-keeps g c = keeps_same (moment (g.L.Link.awaited c.args.link.now) (g.L.Link.log c.args.link.now) (g.L.Link.faults c.args.link.now) (g.L.Link.pends c.args.link.now) (g.L.Link.wire c.args.link.now) (g.L.Link.prompt c.args.link.now)) None finished (λ n e. cc) refl tt tt

pub returns-then-not-has_chunk-clause-turns : goal.returns-then-not-has_chunk-clause-turns
returns-then-not-has_chunk-clause-turns g c =
    let short = short_by (worker_of c.args.self.now).aim.size (length (worker_of c.args.self.now).behind) (sym c.has_chunk.ensures ∙ c.if-not-has_chunk.true) in
    (0, later_same (g.I.IdSource.ids c.args.ids.now), step_last (g.L.Link.awaited c.args.link.now) (g.L.Link.awaited c.args.link.now) (g.L.Link.log c.args.link.now) (g.L.Link.log c.args.link.now) (g.L.Link.wire c.args.link.now) (g.I.IdSource.ids c.args.ids.now) 0 (worker_of c.args.self.now) (worker_of c.args.self.now) fills done (is_short refl (record { rest = λ n. refl; log_same = refl }) refl short refl refl) tt)

pub returns-then-not-has_chunk-clause-same : goal.returns-then-not-has_chunk-clause-same
returns-then-not-has_chunk-clause-same g c = (but_none (worker_of c.args.self.now), c.requires.buffer)

-- ---- the next ones

pub next_portion-requires-clause-buffer : goal.next_portion-requires-clause-buffer
next_portion-requires-clause-buffer g c = c.requires.buffer

pub next_portion-requires-clause-sound : goal.next_portion-requires-clause-sound
next_portion-requires-clause-sound g c = c.requires.sound

pub next_portion-requires-clause-full : goal.next_portion-requires-clause-full
next_portion-requires-clause-full g c = full_by (worker_of c.args.self.now).aim.size (length (worker_of c.args.self.now).behind) (sym c.has_chunk.ensures ∙ c.if-not-has_chunk.false)

pub returns-in-Ok-clause-keeps : goal.returns-in-Ok-clause-keeps
returns-in-Ok-clause-keeps g c =
    let link = moment (g.L.Link.awaited c.args.link.now) (g.L.Link.log c.args.link.now) (g.L.Link.faults c.args.link.now) (g.L.Link.pends c.args.link.now) (g.L.Link.wire c.args.link.now) (g.L.Link.prompt c.args.link.now) in
    keeps_to link link None None (ticket_of c.in-Ok.field-0.exec) finished (sym (ap ticket_at c.in-Ok.ensures.ok.request.new)) (keeps_same link None finished (λ n e. cc) refl tt tt)

pub returns-in-Ok-clause-turns : goal.returns-in-Ok-clause-turns
returns-in-Ok-clause-turns g c =
    let full = full_by (worker_of c.args.self.now).aim.size (length (worker_of c.args.self.now).behind) (sym c.has_chunk.ensures ∙ c.if-not-has_chunk.false) in
    let b = c.in-Ok.ensures.ok in
    (c.in-Ok.field-0.count, b.drawn, (fills_next refl (record { rest = λ n. refl; log_same = refl }) full (steps.built c.in-Ok.field-0.count c.in-Ok.field-0.exec b.portion b.small refl b.request b.left refl), refl))

pub returns-in-Ok-clause-same : goal.returns-in-Ok-clause-same
returns-in-Ok-clause-same g c = c.next_portion.ensures.same

pub returns-in-Err-clause-keeps : goal.returns-in-Err-clause-keeps
returns-in-Err-clause-keeps g c =
    let link = moment (g.L.Link.awaited c.args.link.now) (g.L.Link.log c.args.link.now) (g.L.Link.faults c.args.link.now) (g.L.Link.pends c.args.link.now) (g.L.Link.wire c.args.link.now) (g.L.Link.prompt c.args.link.now) in
    keeps_undone link link (moment (g.L.Link.awaited c.fail.new.link) (g.L.Link.log c.fail.new.link) (g.L.Link.faults c.fail.new.link) (g.L.Link.pends c.fail.new.link) (g.L.Link.wire c.fail.new.link) (g.L.Link.prompt c.fail.new.link)) None (turn_ticket c.fail.result) c.in-Err.error (turn_ending c.fail.result)
    (failing link link None None c.in-Err.error (unfilled_not_io (worker_of c.args.self.now) (g.I.IdSource.ids c.args.ids.now) c.in-Err.error c.in-Err.ensures.err) (keeps_same link None finished (λ n e. cc) refl tt tt))
    (fail_ends c.in-Err.error (g.L.Link.awaited c.args.link.now) (g.L.Link.awaited c.fail.new.link) (g.L.Link.log c.args.link.now) (g.L.Link.log c.fail.new.link) (g.L.Link.wire c.args.link.now) (worker_of c.next_portion.new.self) c.fail.result c.fail.ensures.fails) c.fail.ensures.keeps

pub returns-in-Err-clause-turns : goal.returns-in-Err-clause-turns
returns-in-Err-clause-turns g c =
    let full = full_by (worker_of c.args.self.now).aim.size (length (worker_of c.args.self.now).behind) (sym c.has_chunk.ensures ∙ c.if-not-has_chunk.false) in
    let drawn = c.in-Err.ensures.drawn in (
      drawn.0,
      drawn.2,
      turn_then (g.L.Link.awaited c.args.link.now) (g.L.Link.awaited c.args.link.now) (g.L.Link.awaited c.fail.new.link) (g.L.Link.log c.args.link.now) (g.L.Link.log c.args.link.now) (g.L.Link.log c.fail.new.link) (g.L.Link.wire c.args.link.now) (g.L.Link.wire c.args.link.now) (g.I.IdSource.ids c.args.ids.now) drawn.0 (worker_of c.args.self.now) (worker_of c.next_portion.new.self) fills c.in-Err.error c.fail.result refl
          (fills_next refl (record { rest = λ n. refl; log_same = refl }) full (steps.not_built drawn.1 c.in-Err.error (worker_of c.next_portion.new.self).behind c.in-Err.ensures.err (same_but (worker_of c.args.self.now) (worker_of c.next_portion.new.self) c.next_portion.ensures.same.0) refl)) c.fail.ensures.fails,
    )

pub returns-in-Err-clause-same : goal.returns-in-Err-clause-same
returns-in-Err-clause-same g c = c.next_portion.ensures.same
