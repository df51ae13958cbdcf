use Rattle.std.proofs.Common.{sym, subst}
use Rattle.mg_link.specs.Moment.{finished, failed}
use Rattle.mg_cursor.specs.Client as cursors
use Rattle.mg_cursor.specs.Closing.{IsNotAsking}
use Rattle.mg_cursor.specs.View.{client_of}
use Rattle.mg_cursor.specs.declared.polls.NextPoll.TheVariants as next
use Rattle.mg_cursor.proofs.Killing.{keeps_behind, lands_rest}
use Rattle.mg_change.proofs.Remaining.{batch_behind, failed_behind, landing_still, pending_behind, quiet_behind}
use Rattle.mg_change.proofs.closing.land.Goals as goal

-- ---- it pends still

pub invariant_of-still : goal.invariant_of-still
invariant_of-still g c =
    let link = c.args.link.now in
    let later = c.land.new.link in
    landing_still (g.L.Link.awaited link) (g.L.Link.awaited later) (g.L.Link.log link) (g.L.Link.log later) (g.L.Link.wire link) c.args.remains c.land.new.self c.requires.sound c.in-Pending.ensures.lands (c.in-Pending.ensures.sound c.requires.sound.sound.asks_its_own)

pub returns-in-Pending-clause-keeps : goal.returns-in-Pending-clause-keeps
returns-in-Pending-clause-keeps g c = c.in-Pending.ensures.keeps

pub returns-in-Pending-clause-closes : goal.returns-in-Pending-clause-closes
returns-in-Pending-clause-closes g c =
    let link = c.args.link.now in
    let later = c.land.new.link in
    pending_behind (g.L.Link.awaited link) (g.L.Link.awaited later) (g.L.Link.log link) (g.L.Link.log later) (g.L.Link.wire link) c.args.remains c.land.new.self c.requires.sound.saves c.in-Pending.ensures.lands

-- ---- it has ended

pub kill_left-requires : goal.kill_left-requires
kill_left-requires g c =
    subst (λ (d : cursors.Doing). IsNotAsking d) (sym (lands_rest _ _ _ _ _ (client_of c.args.remains.batches) (client_of c.land.new.self) (next.Batch c.in-Batch._batch) (λ e. cc) c.in-Batch.ensures.lands)) tt

pub kill_left-requires-in-End : goal.kill_left-requires-in-End
kill_left-requires-in-End g c =
    subst (λ (d : cursors.Doing). IsNotAsking d) (sym (lands_rest _ _ _ _ _ (client_of c.args.remains.batches) (client_of c.land.new.self) next.End (λ e. cc) c.in-End.ensures.lands)) tt

pub pass-requires : goal.pass-requires
pass-requires g c =
    subst (λ (d : cursors.Doing). IsNotAsking d) (sym (lands_rest _ _ _ _ _ (client_of c.args.remains.batches) (client_of c.land.new.self) (next.Failed c.in-Failed.error) (λ e. cc) c.in-Failed.ensures.lands)) tt

pub returns-in-Batch-clause-keeps : goal.returns-in-Batch-clause-keeps
returns-in-Batch-clause-keeps g c = keeps_behind _ _ _ _ _ (client_of c.land.new.self) finished _ (lands_rest _ _ _ _ _ (client_of c.args.remains.batches) (client_of c.land.new.self) (next.Batch c.in-Batch._batch) (λ e. cc) c.in-Batch.ensures.lands) c.in-Batch.ensures.keeps c.in-Batch.ensures.keeps.pended c.kill_left.ensures.keeps

pub returns-in-Batch-clause-closes : goal.returns-in-Batch-clause-closes
returns-in-Batch-clause-closes g c =
    batch_behind _ _ _ _ _ _ _ _ c.in-Batch.ensures.keeps.later.wire c.args.remains c.land.new.self c.requires.sound.saves c.kill_left.result c.in-Batch._batch c.in-Batch.ensures.lands c.kill_left.ensures.kills

pub returns-in-End-clause-keeps : goal.returns-in-End-clause-keeps
returns-in-End-clause-keeps g c = keeps_behind _ _ _ _ _ (client_of c.land.new.self) finished _ (lands_rest _ _ _ _ _ (client_of c.args.remains.batches) (client_of c.land.new.self) next.End (λ e. cc) c.in-End.ensures.lands) c.in-End.ensures.keeps c.in-End.ensures.keeps.pended c.kill_left-in-End.ensures.keeps

pub returns-in-End-clause-closes : goal.returns-in-End-clause-closes
returns-in-End-clause-closes g c =
    quiet_behind _ _ _ _ _ _ _ _ c.in-End.ensures.keeps.later.wire c.args.remains c.land.new.self c.requires.sound.saves c.kill_left-in-End.result c.in-End.ensures.lands c.kill_left-in-End.ensures.kills

pub returns-in-Failed-clause-keeps : goal.returns-in-Failed-clause-keeps
returns-in-Failed-clause-keeps g c =
    keeps_behind _ _ _ _ _ (client_of c.land.new.self) (failed c.in-Failed.error) _ (lands_rest _ _ _ _ _ (client_of c.args.remains.batches) (client_of c.land.new.self) (next.Failed c.in-Failed.error) (λ e. cc) c.in-Failed.ensures.lands) c.in-Failed.ensures.keeps c.in-Failed.ensures.keeps.pended c.pass.ensures.keeps

pub returns-in-Failed-clause-closes : goal.returns-in-Failed-clause-closes
returns-in-Failed-clause-closes g c =
    failed_behind _ _ _ _ _ _ _ _ c.in-Failed.ensures.keeps.later.wire c.args.remains c.land.new.self c.requires.sound.saves c.pass.result c.in-Failed.error c.in-Failed.ensures.lands c.pass.ensures.passes
