use Rattle.std.proofs.Common.{◌≡◌, Some, None, refl, sym, ap, ◌∙◌}
use Rattle.mg_link.specs.Exec.{ticket_at, ticket_of}
use Rattle.mg_link.specs.Moment.{finished, moment}
use Rattle.mg_link.proofs.Moments.{keeps_same}
use Rattle.mg_cursor.proofs.Hearing.{keeps_from}
use Rattle.mg_gridfs.specs.Steps as steps
use Rattle.mg_gridfs.specs.Steps.{ids_behind, undoes_next}
use Rattle.mg_gridfs.specs.Uploads.{removes, undoes}
use Rattle.mg_gridfs.specs.UploadView.{back_stopped, worker_of}
use Rattle.mg_gridfs.proofs.Stepping.{keeps_failed, step_last, step_then, undo_not_io}
use Rattle.mg_gridfs.proofs.steps.Upload.undo.Goals as goal

-- nothing is held yet
pub remove-requires : goal.remove-requires
remove-requires g c = λ n e. let bad : None ≡ Some n = sym (ap ticket_at c.in-Ok.ensures.ok.new) ∙ e in absurd cc

pub returns-in-Ok-clause-keeps : goal.returns-in-Ok-clause-keeps
returns-in-Ok-clause-keeps g c = keeps_from _ _ (ticket_of c.in-Ok.exec) None _ _ (ap ticket_at c.in-Ok.ensures.ok.new) c.remove.ensures.keeps

pub returns-in-Ok-clause-backs : goal.returns-in-Ok-clause-backs
returns-in-Ok-clause-backs g c = λ ids.
    step_then (g.L.Link.awaited c.args.link.now) (g.L.Link.awaited c.args.link.now) (g.L.Link.awaited c.remove.new.link) (g.L.Link.log c.args.link.now) (g.L.Link.log c.args.link.now) (g.L.Link.log c.remove.new.link) (g.L.Link.wire c.args.link.now) (g.L.Link.wire c.args.link.now) ids 0 (worker_of c.args.self.now) (worker_of c.args.self.now) (worker_of c.args.self.now) (undoes c.args.error) (removes c.in-Ok.exec c.args.error) (back_stopped c.remove.result) refl
    (undoes_next c.args.error refl (record { rest = λ n. refl; log_same = refl }) refl (steps.built c.in-Ok.exec c.in-Ok.ensures.ok refl refl)) (c.remove.ensures.backs (ids_behind 0 ids))

pub returns-in-Err-clause-keeps : goal.returns-in-Err-clause-keeps
returns-in-Err-clause-keeps g c =
    let link = moment (g.L.Link.awaited c.args.link.now) (g.L.Link.log c.args.link.now) (g.L.Link.faults c.args.link.now) (g.L.Link.pends c.args.link.now) (g.L.Link.wire c.args.link.now) (g.L.Link.prompt c.args.link.now) in
    keeps_failed link link None None c.args.error c.not_undone.result (undo_not_io c.args.error c.in-Err.delete c.not_undone.result c.not_undone.ensures) (keeps_same link None finished (λ n e. cc) refl tt tt)

pub returns-in-Err-clause-backs : goal.returns-in-Err-clause-backs
returns-in-Err-clause-backs g c = λ ids.
    step_last (g.L.Link.awaited c.args.link.now) (g.L.Link.awaited c.args.link.now) (g.L.Link.log c.args.link.now) (g.L.Link.log c.args.link.now) (g.L.Link.wire c.args.link.now) ids 0 (worker_of c.args.self.now) (worker_of c.args.self.now) (undoes c.args.error) (steps.failed c.not_undone.result)
    (undoes_next c.args.error refl (record { rest = λ n. refl; log_same = refl }) refl (steps.not_built c.in-Err.delete c.not_undone.result c.in-Err.ensures.err c.not_undone.ensures refl refl)) tt
