use Rattle.std.proofs.Common.{false, inl, inr, refl}
use Rattle.mg_server.proofs.Killing.{plain_stayed}
use Rattle.mg_players.specs.declared.insert.InsertStage.TheVariants as inserts
use Rattle.mg_script.specs.declared.outcome.Ended.TheVariants as ended
use Rattle.mg_players.proofs.Advancing.{insert_done, insert_over, insert_waits}
use Rattle.mg_players.proofs.InsertTelling.{done_sent, fails_sent, sends_none, stage_done, stage_fails, stage_stays, stage_waits, waits_sent}
use Rattle.mg_players.proofs.insert.InsertStage.go.Goals as goal

pub returns-in-Unsent-clause-plain : goal.returns-in-Unsent-clause-plain
returns-in-Unsent-clause-plain g c = rw c.in-Unsent.is (λ plain. (plain_stayed _ _ refl, plain))

pub returns-in-Ended-clause-plain : goal.returns-in-Ended-clause-plain
returns-in-Ended-clause-plain g c = rw c.in-Ended.is (λ plain. (plain_stayed _ _ refl, plain))

pub returns-in-Unsent-clause-told : goal.returns-in-Unsent-clause-told
returns-in-Unsent-clause-told g c = rw c.in-Unsent.is (λ at documents. stage_stays (g.L.Link.awaited c.args.link.now) (g.L.Link.log c.args.link.now) (g.L.Link.wire c.args.link.now) at documents inserts.Unsent)

pub returns-in-Ended-clause-told : goal.returns-in-Ended-clause-told
returns-in-Ended-clause-told g c = rw c.in-Ended.is (λ at documents. stage_stays (g.L.Link.awaited c.args.link.now) (g.L.Link.log c.args.link.now) (g.L.Link.wire c.args.link.now) at documents (inserts.Ended c.in-Ended.ended))

pub returns-in-Pending-clause-told : goal.returns-in-Pending-clause-told
returns-in-Pending-clause-told g c = rw c.in-Goes.is (λ at documents. stage_waits (g.L.Link.awaited c.args.link.now) (g.L.Link.awaited c.poll.new.link) (g.L.Link.log c.args.link.now) (g.L.Link.log c.poll.new.link) (g.L.Link.wire c.args.link.now) at documents c.in-Goes.inserting c.in-Pending.inserting c.in-Pending.ensures.caused c.in-Pending.ensures.inserts)

pub returns-in-Done-clause-told : goal.returns-in-Done-clause-told
returns-in-Done-clause-told g c = rw c.in-Goes.is (λ at documents. stage_done (g.L.Link.awaited c.args.link.now) (g.L.Link.awaited c.poll.new.link) (g.L.Link.log c.args.link.now) (g.L.Link.log c.poll.new.link) (g.L.Link.wire c.args.link.now) at documents c.in-Goes.inserting c.in-Done.count c.in-Done.ensures.number c.in-Done.ensures.caused c.in-Done.ensures.inserts)

pub returns-in-Failed-clause-told : goal.returns-in-Failed-clause-told
returns-in-Failed-clause-told g c = rw c.in-Goes.is (λ at documents. stage_fails (g.L.Link.awaited c.args.link.now) (g.L.Link.awaited c.poll.new.link) (g.L.Link.log c.args.link.now) (g.L.Link.log c.poll.new.link) (g.L.Link.wire c.args.link.now) at documents c.in-Goes.inserting c.in-Failed.error c.in-Failed.ensures.caused)

pub returns-in-Unsent-clause-comes : goal.returns-in-Unsent-clause-comes
returns-in-Unsent-clause-comes g c = rw c.in-Unsent.is (false, refl, λ calls k last at. absurd at)

pub returns-in-Pending-clause-comes : goal.returns-in-Pending-clause-comes
returns-in-Pending-clause-comes g c = rw c.in-Goes.is (insert_waits _ _ (inserts.Goes c.in-Goes.inserting) (inserts.Goes c.in-Pending.inserting) c.in-Pending.ensures.pended.1 (λ k at. (at, c.in-Pending.ensures.pended.0)))

pub returns-in-Done-clause-comes : goal.returns-in-Done-clause-comes
returns-in-Done-clause-comes g c = rw c.in-Goes.is (insert_done _ _ (inserts.Goes c.in-Goes.inserting) (ended.Gave c.in-Done.count) c.in-Done.ensures.pended tt)

pub returns-in-Failed-clause-comes : goal.returns-in-Failed-clause-comes
returns-in-Failed-clause-comes g c = rw c.in-Goes.is (insert_done _ _ (inserts.Goes c.in-Goes.inserting) (ended.Failed c.in-Failed.error) c.in-Failed.ensures.pended tt)

pub returns-in-Ended-clause-comes : goal.returns-in-Ended-clause-comes
returns-in-Ended-clause-comes g c = rw c.in-Ended.is (insert_over _ _)

pub returns-in-Unsent-clause-sends : goal.returns-in-Unsent-clause-sends
returns-in-Unsent-clause-sends g c = rw c.in-Unsent.is (λ at documents. sends_none (g.L.Link.log c.args.link.now) at documents inserts.Unsent)

pub returns-in-Ended-clause-sends : goal.returns-in-Ended-clause-sends
returns-in-Ended-clause-sends g c = rw c.in-Ended.is (λ at documents. sends_none (g.L.Link.log c.args.link.now) at documents (inserts.Ended c.in-Ended.ended))

pub returns-in-Pending-clause-sends : goal.returns-in-Pending-clause-sends
returns-in-Pending-clause-sends g c = rw c.in-Goes.is (λ at documents. waits_sent (g.L.Link.log c.args.link.now) (g.L.Link.log c.poll.new.link) at documents c.in-Goes.inserting c.in-Pending.inserting c.in-Pending.ensures.number c.in-Pending.ensures.sends)

pub returns-in-Done-clause-sends : goal.returns-in-Done-clause-sends
returns-in-Done-clause-sends g c = rw c.in-Goes.is (λ at documents. done_sent (g.L.Link.log c.args.link.now) (g.L.Link.log c.poll.new.link) at documents c.in-Goes.inserting c.in-Done.count c.in-Done.ensures.number c.in-Done.ensures.sends)

pub returns-in-Failed-clause-sends : goal.returns-in-Failed-clause-sends
returns-in-Failed-clause-sends g c = rw c.in-Goes.is (λ at documents. fails_sent (g.L.Link.log c.args.link.now) (g.L.Link.log c.poll.new.link) at documents c.in-Goes.inserting c.in-Failed.error c.in-Failed.ensures.sends)

pub returns-in-Unsent-clause-lost : goal.returns-in-Unsent-clause-lost
returns-in-Unsent-clause-lost g c = λ lost. absurd lost

pub returns-in-Pending-clause-lost : goal.returns-in-Pending-clause-lost
returns-in-Pending-clause-lost g c = λ lost. absurd lost

pub returns-in-Done-clause-lost : goal.returns-in-Done-clause-lost
returns-in-Done-clause-lost g c = λ lost. absurd lost

pub returns-in-Failed-clause-lost : goal.returns-in-Failed-clause-lost
returns-in-Failed-clause-lost g c = λ lost. inr (c.in-Failed.ensures.lost lost)

pub returns-in-Ended-clause-lost : goal.returns-in-Ended-clause-lost
returns-in-Ended-clause-lost g c = rw c.in-Ended.is (λ lost. inl lost)
