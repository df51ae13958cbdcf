use Rattle.std.proofs.Common.{sym, ap, subst}
use Rattle.mg_link.specs.Moment.{finished, failed}
use Rattle.mg_link.specs.declared.action.Step.TheVariants as step
use Rattle.mg_cursor.specs.Client.{client_ticket}
use Rattle.mg_cursor.specs.Closing.{ClosingCursor, ClosingPolls, closed, closing_ticket}
use Rattle.mg_cursor.specs.View.{client_of}
use Rattle.mg_cursor.specs.declared.polls.NextPoll.TheVariants as next
use Rattle.mg_cursor.proofs.Hearing.{keeps_to}
use Rattle.mg_cursor.proofs.Killing.{batch_behind, failed_behind, keeps_behind, lands_rest, pending_behind, quiet_behind}
use Rattle.mg_cursor.proofs.closing.land.Goals as goal

pub new-requires : goal.new-requires
new-requires g c = c.in-Pending.ensures.sound c.requires.sound

pub kill_cursor-requires : goal.kill_cursor-requires
kill_cursor-requires g c = lands_rest _ _ _ _ _ (client_of c.args.batches) (client_of c.land.new.self) (next.Batch c.in-Batch._batch) (λ e. cc) c.in-Batch.ensures.lands

pub kill_cursor-requires-in-End : goal.kill_cursor-requires-in-End
kill_cursor-requires-in-End g c = lands_rest _ _ _ _ _ (client_of c.args.batches) (client_of c.land.new.self) next.End (λ e. cc) c.in-End.ensures.lands

pub pass-requires : goal.pass-requires
pass-requires g c = lands_rest _ _ _ _ _ (client_of c.args.batches) (client_of c.land.new.self) (next.Failed c.in-Failed.error) (λ e. cc) c.in-Failed.ensures.lands

-- ---- it pends still

pub returns-in-Pending-clause-keeps : goal.returns-in-Pending-clause-keeps
returns-in-Pending-clause-keeps g c = keeps_to _ _ _ (client_ticket (client_of c.land.new.self)) _ _ (sym (ap closing_ticket c.new.ensures)) c.in-Pending.ensures.keeps

pub returns-in-Pending-clause-lands : goal.returns-in-Pending-clause-lands
returns-in-Pending-clause-lands g c =
    let link = c.args.link.now in
    let later = c.land.new.link in
    subst (λ (k : ClosingCursor). ClosingPolls (g.L.Link.awaited link) (g.L.Link.awaited later) (g.L.Link.log link) (g.L.Link.log later) (g.L.Link.wire link) (closed (client_of c.args.batches)) (step.Pending k)) (sym c.new.ensures)
    (pending_behind (g.L.Link.awaited link) (g.L.Link.awaited later) (g.L.Link.log link) (g.L.Link.log later) (g.L.Link.wire link) (client_of c.args.batches) (client_of c.land.new.self) c.in-Pending.ensures.lands)

-- ---- it has ended

pub returns-in-Batch-clause-keeps : goal.returns-in-Batch-clause-keeps
returns-in-Batch-clause-keeps g c = keeps_behind _ _ _ _ _ (client_of c.land.new.self) finished _ (lands_rest _ _ _ _ _ (client_of c.args.batches) (client_of c.land.new.self) (next.Batch c.in-Batch._batch) (λ e. cc) c.in-Batch.ensures.lands) c.in-Batch.ensures.keeps c.in-Batch.ensures.keeps.pended c.kill_cursor.ensures.keeps

pub returns-in-Batch-clause-lands : goal.returns-in-Batch-clause-lands
returns-in-Batch-clause-lands g c =
    batch_behind _ _ _ _ _ _ _ _ c.in-Batch.ensures.keeps.later.wire (client_of c.args.batches) (client_of c.land.new.self) c.kill_cursor.result c.in-Batch._batch c.in-Batch.ensures.lands c.kill_cursor.ensures.kills

pub returns-in-End-clause-keeps : goal.returns-in-End-clause-keeps
returns-in-End-clause-keeps g c = keeps_behind _ _ _ _ _ (client_of c.land.new.self) finished _ (lands_rest _ _ _ _ _ (client_of c.args.batches) (client_of c.land.new.self) next.End (λ e. cc) c.in-End.ensures.lands) c.in-End.ensures.keeps c.in-End.ensures.keeps.pended c.kill_cursor-in-End.ensures.keeps

pub returns-in-End-clause-lands : goal.returns-in-End-clause-lands
returns-in-End-clause-lands g c =
    quiet_behind _ _ _ _ _ _ _ _ c.in-End.ensures.keeps.later.wire (client_of c.args.batches) (client_of c.land.new.self) c.kill_cursor-in-End.result c.in-End.ensures.lands c.kill_cursor-in-End.ensures.kills

pub returns-in-Failed-clause-keeps : goal.returns-in-Failed-clause-keeps
returns-in-Failed-clause-keeps g c =
    keeps_behind _ _ _ _ _ (client_of c.land.new.self) (failed c.in-Failed.error) _ (lands_rest _ _ _ _ _ (client_of c.args.batches) (client_of c.land.new.self) (next.Failed c.in-Failed.error) (λ e. cc) c.in-Failed.ensures.lands) c.in-Failed.ensures.keeps c.in-Failed.ensures.keeps.pended c.pass.ensures.keeps

pub returns-in-Failed-clause-lands : goal.returns-in-Failed-clause-lands
returns-in-Failed-clause-lands g c =
    failed_behind _ _ _ _ _ _ _ _ c.in-Failed.ensures.keeps.later.wire (client_of c.args.batches) (client_of c.land.new.self) c.pass.result c.in-Failed.error c.in-Failed.ensures.lands c.pass.ensures.passes
