use Rattle.std.proofs.Common.{ℕ, List, None, refl, subst}
use Rattle.mg_bson.specs.Raw.{fields}
use Rattle.mg_link.specs.Exec.{Sending, ticket_of}
use Rattle.mg_link.specs.Moment.{moment}
use Rattle.mg_link.specs.declared.action.Step.TheVariants as step
use Rattle.mg_link.proofs.Moments.{keeps_step}
use Rattle.mg_ops.specs.Failing.{FailsBy}
use Rattle.mg_ops.specs.Writes.{Inserted, NotInserted}
use Rattle.mg_cursor.proofs.Hearing.{failing}
use Rattle.mg_gridfs.specs.Steps as steps
use Rattle.mg_gridfs.specs.Steps.{done, records_on, waits}
use Rattle.mg_gridfs.specs.Turns.{turn_ending, turn_ticket}
use Rattle.mg_gridfs.specs.Uploads.{records}
use Rattle.mg_gridfs.specs.UploadView.{ending_view, worker_of}
use Rattle.mg_gridfs.proofs.Stepping.{fail_ends, keeps_undone, step_last, turn_then}
use Rattle.mg_gridfs.proofs.Unsent.{not_inserted_io}
use Rattle.mg_gridfs.proofs.steps.Upload.keep.Goals as goal

pub returns-in-Pending-clause-keeps : goal.returns-in-Pending-clause-keeps
returns-in-Pending-clause-keeps g c =
    let before = moment (g.L.Link.awaited c.args.link.now) (g.L.Link.log c.args.link.now) (g.L.Link.faults c.args.link.now) (g.L.Link.pends c.args.link.now) (g.L.Link.wire c.args.link.now) (g.L.Link.prompt c.args.link.now) in
    let after = moment (g.L.Link.awaited c.poll.new.link) (g.L.Link.log c.poll.new.link) (g.L.Link.faults c.poll.new.link) (g.L.Link.pends c.poll.new.link) (g.L.Link.wire c.poll.new.link) (g.L.Link.prompt c.poll.new.link) in
    keeps_step {S = Sending} {T = List ℕ} before after ticket_of (ticket_of c.args.exec) (step.Pending c.in-Pending.exec) c.in-Pending.ensures.tickets c.in-Pending.ensures.pended c.in-Pending.ensures.lost c.in-Pending.ensures.prompt c.in-Pending.ensures.later

pub returns-in-Pending-clause-turns : goal.returns-in-Pending-clause-turns
returns-in-Pending-clause-turns g c = λ given. step_last (g.L.Link.awaited c.args.link.now) (g.L.Link.awaited c.poll.new.link) (g.L.Link.log c.args.link.now) (g.L.Link.log c.poll.new.link) (g.L.Link.wire c.args.link.now) given 0 (worker_of c.args.self.now) (worker_of c.args.self.now) (records c.args.exec (ending_view c.args.ending)) (waits (records c.in-Pending.exec (ending_view c.args.ending))) (records_on c.args.exec (ending_view c.args.ending) refl refl (step.Pending c.in-Pending.exec) c.in-Pending.ensures.runs (refl, refl)) tt

-- ---- the reply is heard

pub returns-in-Ok-clause-keeps : goal.returns-in-Ok-clause-keeps
returns-in-Ok-clause-keeps g c =
    let before = moment (g.L.Link.awaited c.args.link.now) (g.L.Link.log c.args.link.now) (g.L.Link.faults c.args.link.now) (g.L.Link.pends c.args.link.now) (g.L.Link.wire c.args.link.now) (g.L.Link.prompt c.args.link.now) in
    let after = moment (g.L.Link.awaited c.poll.new.link) (g.L.Link.log c.poll.new.link) (g.L.Link.faults c.poll.new.link) (g.L.Link.pends c.poll.new.link) (g.L.Link.wire c.poll.new.link) (g.L.Link.prompt c.poll.new.link) in
    keeps_step {S = Sending} {T = List ℕ} before after ticket_of (ticket_of c.args.exec) (step.Done c.in-Done.reply) c.in-Done.ensures.tickets c.in-Done.ensures.pended c.in-Done.ensures.lost c.in-Done.ensures.prompt c.in-Done.ensures.later

pub returns-in-Ok-clause-turns : goal.returns-in-Ok-clause-turns
returns-in-Ok-clause-turns g c = λ given.
    let told = subst (λ (b : List ℕ). Inserted 1 (fields b) c.in-Ok._n) c.as_raw.ensures c.in-Ok.ensures.ok in
    step_last (g.L.Link.awaited c.args.link.now) (g.L.Link.awaited c.poll.new.link) (g.L.Link.log c.args.link.now) (g.L.Link.log c.poll.new.link) (g.L.Link.wire c.args.link.now) given 0 (worker_of c.args.self.now) (worker_of c.args.self.now) (records c.args.exec (ending_view c.args.ending)) done (records_on c.args.exec (ending_view c.args.ending) refl refl (step.Done c.in-Done.reply) c.in-Done.ensures.runs (steps.inserted c.in-Ok._n told refl refl)) tt

pub returns-in-Done-clause-keeps : goal.returns-in-Done-clause-keeps
returns-in-Done-clause-keeps g c =
    let before = moment (g.L.Link.awaited c.args.link.now) (g.L.Link.log c.args.link.now) (g.L.Link.faults c.args.link.now) (g.L.Link.pends c.args.link.now) (g.L.Link.wire c.args.link.now) (g.L.Link.prompt c.args.link.now) in
    let after = moment (g.L.Link.awaited c.poll.new.link) (g.L.Link.log c.poll.new.link) (g.L.Link.faults c.poll.new.link) (g.L.Link.pends c.poll.new.link) (g.L.Link.wire c.poll.new.link) (g.L.Link.prompt c.poll.new.link) in
    let fails = subst (λ (b : List ℕ). FailsBy (NotInserted 1 (fields b)) c.in-Err.error) c.as_raw.ensures c.in-Err.ensures.err in
    keeps_undone before after (moment (g.L.Link.awaited c.fail.new.link) (g.L.Link.log c.fail.new.link) (g.L.Link.faults c.fail.new.link) (g.L.Link.pends c.fail.new.link) (g.L.Link.wire c.fail.new.link) (g.L.Link.prompt c.fail.new.link)) (ticket_of c.args.exec) (turn_ticket c.fail.result) c.in-Err.error (turn_ending c.fail.result)
    (failing before after (ticket_of c.args.exec) None c.in-Err.error (not_inserted_io 1 (fields c.in-Done.reply) c.in-Err.error fails) (keeps_step {S = Sending} {T = List ℕ} before after ticket_of (ticket_of c.args.exec) (step.Done c.in-Done.reply) c.in-Done.ensures.tickets c.in-Done.ensures.pended c.in-Done.ensures.lost c.in-Done.ensures.prompt c.in-Done.ensures.later))
    (fail_ends c.in-Err.error (g.L.Link.awaited c.poll.new.link) (g.L.Link.awaited c.fail.new.link) (g.L.Link.log c.poll.new.link) (g.L.Link.log c.fail.new.link) (g.L.Link.wire c.poll.new.link) (worker_of c.args.self.now) c.fail.result c.fail.ensures.fails) c.fail.ensures.keeps

pub returns-in-Done-clause-turns : goal.returns-in-Done-clause-turns
returns-in-Done-clause-turns g c = λ given.
    let fails = subst (λ (b : List ℕ). FailsBy (NotInserted 1 (fields b)) c.in-Err.error) c.as_raw.ensures c.in-Err.ensures.err in
    turn_then (g.L.Link.awaited c.args.link.now) (g.L.Link.awaited c.poll.new.link) (g.L.Link.awaited c.fail.new.link) (g.L.Link.log c.args.link.now) (g.L.Link.log c.poll.new.link) (g.L.Link.log c.fail.new.link) (g.L.Link.wire c.args.link.now) (g.L.Link.wire c.poll.new.link) given 0 (worker_of c.args.self.now) (worker_of c.args.self.now) (records c.args.exec (ending_view c.args.ending)) c.in-Err.error c.fail.result c.in-Done.ensures.later.wire (records_on c.args.exec (ending_view c.args.ending) refl refl (step.Done c.in-Done.reply) c.in-Done.ensures.runs (steps.not_inserted c.in-Err.error fails (refl, refl))) c.fail.ensures.fails

-- ---- it failed

pub returns-clause-keeps : goal.returns-clause-keeps
returns-clause-keeps g c =
    let before = moment (g.L.Link.awaited c.args.link.now) (g.L.Link.log c.args.link.now) (g.L.Link.faults c.args.link.now) (g.L.Link.pends c.args.link.now) (g.L.Link.wire c.args.link.now) (g.L.Link.prompt c.args.link.now) in
    let after = moment (g.L.Link.awaited c.poll.new.link) (g.L.Link.log c.poll.new.link) (g.L.Link.faults c.poll.new.link) (g.L.Link.pends c.poll.new.link) (g.L.Link.wire c.poll.new.link) (g.L.Link.prompt c.poll.new.link) in
    keeps_undone before after (moment (g.L.Link.awaited c.fail-in-Failed.new.link) (g.L.Link.log c.fail-in-Failed.new.link) (g.L.Link.faults c.fail-in-Failed.new.link) (g.L.Link.pends c.fail-in-Failed.new.link) (g.L.Link.wire c.fail-in-Failed.new.link) (g.L.Link.prompt c.fail-in-Failed.new.link)) (ticket_of c.args.exec) (turn_ticket c.fail-in-Failed.result) c.in-Failed.error (turn_ending c.fail-in-Failed.result)
    (keeps_step {S = Sending} {T = List ℕ} before after ticket_of (ticket_of c.args.exec) (step.Failed c.in-Failed.error) c.in-Failed.ensures.tickets c.in-Failed.ensures.pended c.in-Failed.ensures.lost c.in-Failed.ensures.prompt c.in-Failed.ensures.later)
    (fail_ends c.in-Failed.error (g.L.Link.awaited c.poll.new.link) (g.L.Link.awaited c.fail-in-Failed.new.link) (g.L.Link.log c.poll.new.link) (g.L.Link.log c.fail-in-Failed.new.link) (g.L.Link.wire c.poll.new.link) (worker_of c.args.self.now) c.fail-in-Failed.result c.fail-in-Failed.ensures.fails) c.fail-in-Failed.ensures.keeps

pub returns-clause-turns : goal.returns-clause-turns
returns-clause-turns g c = λ given.
    turn_then (g.L.Link.awaited c.args.link.now) (g.L.Link.awaited c.poll.new.link) (g.L.Link.awaited c.fail-in-Failed.new.link) (g.L.Link.log c.args.link.now) (g.L.Link.log c.poll.new.link) (g.L.Link.log c.fail-in-Failed.new.link) (g.L.Link.wire c.args.link.now) (g.L.Link.wire c.poll.new.link) given 0 (worker_of c.args.self.now) (worker_of c.args.self.now) (records c.args.exec (ending_view c.args.ending)) c.in-Failed.error c.fail-in-Failed.result c.in-Failed.ensures.later.wire (records_on c.args.exec (ending_view c.args.ending) refl refl (step.Failed c.in-Failed.error) c.in-Failed.ensures.runs (refl, refl)) c.fail-in-Failed.ensures.fails
