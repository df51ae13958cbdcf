use Rattle.std.proofs.Common.{◌∷◌, [], None, refl, sym, ap}
use Rattle.mg_link.specs.Exec.{ticket_at, ticket_of}
use Rattle.mg_link.specs.Moment.{finished, moment}
use Rattle.mg_link.proofs.Moments.{keeps_same}
use Rattle.mg_cursor.proofs.Hearing.{failing, keeps_to}
use Rattle.mg_gridfs.specs.Commands.{record_lines}
use Rattle.mg_gridfs.specs.Steps as steps
use Rattle.mg_gridfs.specs.Steps.{ends_next}
use Rattle.mg_gridfs.specs.Turns.{turn_ending, turn_ticket}
use Rattle.mg_gridfs.specs.Uploads.{ends, record_of}
use Rattle.mg_gridfs.specs.UploadView.{ending_view, worker_of}
use Rattle.mg_gridfs.proofs.Stepping.{fail_ends, keeps_undone, turn_then}
use Rattle.mg_gridfs.proofs.Unsent.{unstored_not_io}
use Rattle.mg_gridfs.proofs.steps.Upload.end.Goals as goal

pub returns-in-Ok-clause-keeps : goal.returns-in-Ok-clause-keeps
returns-in-Ok-clause-keeps g c =
    let link = moment (g.L.Link.awaited c.args.link.now) (g.L.Link.log c.args.link.now) (g.L.Link.faults c.args.link.now) (g.L.Link.pends c.args.link.now) (g.L.Link.wire c.args.link.now) (g.L.Link.prompt c.args.link.now) in
    keeps_to link link None None (ticket_of c.in-Ok.exec) finished (sym (ap ticket_at c.in-Ok.ensures.ok.new)) (keeps_same link None finished (λ n e. cc) refl tt tt)

pub returns-in-Ok-clause-turns : goal.returns-in-Ok-clause-turns
returns-in-Ok-clause-turns g c = λ given. (ends_next (ending_view c.args.ending) refl (record { rest = λ n. refl; log_same = refl }) refl (steps.built c.in-Ok.exec c.in-Ok.ensures.ok refl refl), refl)

pub returns-in-Err-clause-keeps : goal.returns-in-Err-clause-keeps
returns-in-Err-clause-keeps g c =
    let link = moment (g.L.Link.awaited c.args.link.now) (g.L.Link.log c.args.link.now) (g.L.Link.faults c.args.link.now) (g.L.Link.pends c.args.link.now) (g.L.Link.wire c.args.link.now) (g.L.Link.prompt c.args.link.now) in
    keeps_undone link link (moment (g.L.Link.awaited c.fail.new.link) (g.L.Link.log c.fail.new.link) (g.L.Link.faults c.fail.new.link) (g.L.Link.pends c.fail.new.link) (g.L.Link.wire c.fail.new.link) (g.L.Link.prompt c.fail.new.link)) None (turn_ticket c.fail.result) c.in-Err.error (turn_ending c.fail.result)
    (failing link link None None c.in-Err.error (unstored_not_io (record_lines (worker_of c.args.self.now).aim.bucket (record_of (worker_of c.args.self.now).aim (ending_view c.args.ending))) ((record_of (worker_of c.args.self.now).aim (ending_view c.args.ending)) ∷ []) c.in-Err.error c.in-Err.ensures.err) (keeps_same link None finished (λ n e. cc) refl tt tt))
    (fail_ends c.in-Err.error (g.L.Link.awaited c.args.link.now) (g.L.Link.awaited c.fail.new.link) (g.L.Link.log c.args.link.now) (g.L.Link.log c.fail.new.link) (g.L.Link.wire c.args.link.now) (worker_of c.args.self.now) c.fail.result c.fail.ensures.fails) c.fail.ensures.keeps

pub returns-in-Err-clause-turns : goal.returns-in-Err-clause-turns
returns-in-Err-clause-turns g c = λ given.
    turn_then (g.L.Link.awaited c.args.link.now) (g.L.Link.awaited c.args.link.now) (g.L.Link.awaited c.fail.new.link) (g.L.Link.log c.args.link.now) (g.L.Link.log c.args.link.now) (g.L.Link.log c.fail.new.link) (g.L.Link.wire c.args.link.now) (g.L.Link.wire c.args.link.now) given 0 (worker_of c.args.self.now) (worker_of c.args.self.now) (ends (ending_view c.args.ending)) c.in-Err.error c.fail.result refl (ends_next (ending_view c.args.ending) refl (record { rest = λ n. refl; log_same = refl }) refl (steps.not_built c.in-Err.error c.in-Err.ensures.err refl refl)) c.fail.ensures.fails
