use Rattle.std.proofs.Common.{ℕ, List, None, refl, subst}
use Rattle.mg_bson.specs.Raw.{fields}
use Rattle.mg_link.specs.Exec.{Sending, ticket_of}
use Rattle.mg_link.specs.Moment.{moment}
use Rattle.mg_link.specs.declared.action.Step.TheVariants as step
use Rattle.mg_link.proofs.Moments.{keeps_step}
use Rattle.mg_ops.specs.Failing.{FailsBy}
use Rattle.mg_ops.specs.Writes.{FailedAs, Wrote, count_of}
use Rattle.mg_gridfs.specs.Steps as steps
use Rattle.mg_gridfs.specs.Steps.{not_removed, removed, removes_on, waits}
use Rattle.mg_gridfs.specs.Uploads.{removes}
use Rattle.mg_gridfs.specs.UploadView.{back_stopped, worker_of}
use Rattle.mg_gridfs.proofs.Stepping.{keeps_end, keeps_failed, keeps_removed, step_last, undo_not_io, undone_last}
use Rattle.mg_gridfs.proofs.steps.Upload.remove.Goals as goal

pub returns-in-Pending-clause-keeps : goal.returns-in-Pending-clause-keeps
returns-in-Pending-clause-keeps g c =
    let before = moment (g.L.Link.awaited c.args.link.now) (g.L.Link.log c.args.link.now) (g.L.Link.faults c.args.link.now) (g.L.Link.pends c.args.link.now) (g.L.Link.wire c.args.link.now) (g.L.Link.prompt c.args.link.now) in
    let after = moment (g.L.Link.awaited c.poll.new.link) (g.L.Link.log c.poll.new.link) (g.L.Link.faults c.poll.new.link) (g.L.Link.pends c.poll.new.link) (g.L.Link.wire c.poll.new.link) (g.L.Link.prompt c.poll.new.link) in
    keeps_step {S = Sending} {T = List ℕ} before after ticket_of (ticket_of c.args.exec) (step.Pending c.in-Pending.exec) c.in-Pending.ensures.tickets c.in-Pending.ensures.pended c.in-Pending.ensures.lost c.in-Pending.ensures.prompt c.in-Pending.ensures.later

pub returns-in-Pending-clause-backs : goal.returns-in-Pending-clause-backs
returns-in-Pending-clause-backs g c = λ ids. step_last (g.L.Link.awaited c.args.link.now) (g.L.Link.awaited c.poll.new.link) (g.L.Link.log c.args.link.now) (g.L.Link.log c.poll.new.link) (g.L.Link.wire c.args.link.now) ids 0 (worker_of c.args.self.now) (worker_of c.args.self.now) (removes c.args.exec c.args.error) (waits (removes c.in-Pending.exec c.args.error)) (removes_on c.args.exec c.args.error refl refl (step.Pending c.in-Pending.exec) c.in-Pending.ensures.runs (refl, refl)) tt

-- ---- the deletion is heard

pub returns-in-Ok-clause-keeps : goal.returns-in-Ok-clause-keeps
returns-in-Ok-clause-keeps g c =
    let before = moment (g.L.Link.awaited c.args.link.now) (g.L.Link.log c.args.link.now) (g.L.Link.faults c.args.link.now) (g.L.Link.pends c.args.link.now) (g.L.Link.wire c.args.link.now) (g.L.Link.prompt c.args.link.now) in
    let after = moment (g.L.Link.awaited c.poll.new.link) (g.L.Link.log c.poll.new.link) (g.L.Link.faults c.poll.new.link) (g.L.Link.pends c.poll.new.link) (g.L.Link.wire c.poll.new.link) (g.L.Link.prompt c.poll.new.link) in
    keeps_removed before after (ticket_of c.args.exec) c.args.error c.undone.result c.undone.ensures
    (keeps_step {S = Sending} {T = List ℕ} before after ticket_of (ticket_of c.args.exec) (step.Done c.in-Done.reply) c.in-Done.ensures.tickets c.in-Done.ensures.pended c.in-Done.ensures.lost c.in-Done.ensures.prompt c.in-Done.ensures.later)

pub returns-in-Ok-clause-backs : goal.returns-in-Ok-clause-backs
returns-in-Ok-clause-backs g c = λ ids.
    let wrote = subst (λ (b : List ℕ). Wrote (count_of (fields b)) (fields b) c.in-Ok._n) c.as_raw.ensures c.in-Ok.ensures.ok in
    step_last (g.L.Link.awaited c.args.link.now) (g.L.Link.awaited c.poll.new.link) (g.L.Link.log c.args.link.now) (g.L.Link.log c.poll.new.link) (g.L.Link.wire c.args.link.now) ids 0 (worker_of c.args.self.now) (worker_of c.args.self.now) (removes c.args.exec c.args.error) (back_stopped c.undone.result) (removes_on c.args.exec c.args.error refl refl (step.Done c.in-Done.reply) c.in-Done.ensures.runs (removed c.in-Ok._n wrote refl c.undone.ensures)) (undone_last c.args.error c.undone.result c.undone.ensures)

pub returns-in-Done-clause-keeps : goal.returns-in-Done-clause-keeps
returns-in-Done-clause-keeps g c =
    let before = moment (g.L.Link.awaited c.args.link.now) (g.L.Link.log c.args.link.now) (g.L.Link.faults c.args.link.now) (g.L.Link.pends c.args.link.now) (g.L.Link.wire c.args.link.now) (g.L.Link.prompt c.args.link.now) in
    let after = moment (g.L.Link.awaited c.poll.new.link) (g.L.Link.log c.poll.new.link) (g.L.Link.faults c.poll.new.link) (g.L.Link.pends c.poll.new.link) (g.L.Link.wire c.poll.new.link) (g.L.Link.prompt c.poll.new.link) in
    keeps_failed before after (ticket_of c.args.exec) None c.args.error c.not_undone.result (undo_not_io c.args.error c.in-Err.delete c.not_undone.result c.not_undone.ensures)
    (keeps_step {S = Sending} {T = List ℕ} before after ticket_of (ticket_of c.args.exec) (step.Done c.in-Done.reply) c.in-Done.ensures.tickets c.in-Done.ensures.pended c.in-Done.ensures.lost c.in-Done.ensures.prompt c.in-Done.ensures.later)

pub returns-in-Done-clause-backs : goal.returns-in-Done-clause-backs
returns-in-Done-clause-backs g c = λ ids.
    let fails = subst (λ (b : List ℕ). FailsBy (FailedAs (count_of (fields b)) (fields b)) c.in-Err.delete) c.as_raw.ensures c.in-Err.ensures.err in
    step_last (g.L.Link.awaited c.args.link.now) (g.L.Link.awaited c.poll.new.link) (g.L.Link.log c.args.link.now) (g.L.Link.log c.poll.new.link) (g.L.Link.wire c.args.link.now) ids 0 (worker_of c.args.self.now) (worker_of c.args.self.now) (removes c.args.exec c.args.error) (steps.failed c.not_undone.result) (removes_on c.args.exec c.args.error refl refl (step.Done c.in-Done.reply) c.in-Done.ensures.runs (not_removed c.in-Err.delete c.not_undone.result fails c.not_undone.ensures refl refl)) tt

-- ---- the deletion failed

pub returns-clause-keeps : goal.returns-clause-keeps
returns-clause-keeps g c =
    let before = moment (g.L.Link.awaited c.args.link.now) (g.L.Link.log c.args.link.now) (g.L.Link.faults c.args.link.now) (g.L.Link.pends c.args.link.now) (g.L.Link.wire c.args.link.now) (g.L.Link.prompt c.args.link.now) in
    let after = moment (g.L.Link.awaited c.poll.new.link) (g.L.Link.log c.poll.new.link) (g.L.Link.faults c.poll.new.link) (g.L.Link.pends c.poll.new.link) (g.L.Link.wire c.poll.new.link) (g.L.Link.prompt c.poll.new.link) in
    keeps_failed before after (ticket_of c.args.exec) None c.args.error c.not_undone-in-Failed.result (undo_not_io c.args.error c.in-Failed.delete c.not_undone-in-Failed.result c.not_undone-in-Failed.ensures)
    (keeps_end before after (ticket_of c.args.exec) None c.in-Failed.delete (keeps_step {S = Sending} {T = List ℕ} before after ticket_of (ticket_of c.args.exec) (step.Failed c.in-Failed.delete) c.in-Failed.ensures.tickets c.in-Failed.ensures.pended c.in-Failed.ensures.lost c.in-Failed.ensures.prompt c.in-Failed.ensures.later))

pub returns-clause-backs : goal.returns-clause-backs
returns-clause-backs g c = λ ids. step_last (g.L.Link.awaited c.args.link.now) (g.L.Link.awaited c.poll.new.link) (g.L.Link.log c.args.link.now) (g.L.Link.log c.poll.new.link) (g.L.Link.wire c.args.link.now) ids 0 (worker_of c.args.self.now) (worker_of c.args.self.now) (removes c.args.exec c.args.error) (steps.failed c.not_undone-in-Failed.result) (removes_on c.args.exec c.args.error refl refl (step.Failed c.in-Failed.delete) c.in-Failed.ensures.runs (c.not_undone-in-Failed.result, c.not_undone-in-Failed.ensures, refl, refl)) tt
