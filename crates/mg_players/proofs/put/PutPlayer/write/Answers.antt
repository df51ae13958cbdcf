use Rattle.std.proofs.Common.{◌+◌, ℕ, ap, refl, ◌∙◌, inr, subst}
use Rattle.mg_gridfs.specs.Uploads.{upload_error, upload_ticket}
use Rattle.mg_gridfs.specs.UploadView.{upload_of}
use Rattle.mg_players.specs.Losses.{PutLost}
use Rattle.mg_players.specs.declared.put.Going.{Going}
use Rattle.mg_players.specs.declared.put.PutPlayer.{PutPlayer}
use Rattle.mg_players.specs.declared.put.PutStage.TheVariants as puts
use Rattle.mg_players.proofs.KeptIds.{kept_twelve}
use Rattle.mg_players.proofs.Losing.{beside_lost, idle_lost}
use Rattle.mg_players.proofs.PutDriving.{comes_as, failed_pends, fails_comes, turns_as, write_done_comes, write_done_turns, write_fails_turns, write_waits_comes, write_waits_turns}
use Rattle.mg_players.proofs.put.PutPlayer.write.Goals as goal

-- ---- what it knows and tells

pub returns-in-Pending-clause-turned : goal.returns-in-Pending-clause-turned
returns-in-Pending-clause-turned g c = λ moment.
    let going : Going = record c.args.going { upload = c.poll_write.new.self; ids = c.poll_write.new.ids } in
    let e = c.in-Pending.ensures in
    turns_as _ _ _ _ _ _ _ (record c.args.self { stage = puts.Goes going }) _ c.moved_to.ensures
    (write_waits_turns moment c.args.self c.args.going going c.args.piece.now _ _ _ _ _ c.requires.there c.requires.holds refl e.sound (record { twelve = λ k. kept_twelve c.args.going.ids.ids.items (c.args.going.ids.next + k); drawn = e.writes.0; behind = e.writes.1; does = e.writes.2; leaves = e.leaves; caused = e.caused; stored = e.stored; passes = e.passes; tickets = e.keeps.tickets }))

pub returns-in-Wrote-clause-turned : goal.returns-in-Wrote-clause-turned
returns-in-Wrote-clause-turned g c = λ moment.
    let going : Going = record c.args.going { upload = c.poll_write.new.self; ids = c.poll_write.new.ids } in
    let e = c.in-Wrote.ensures in
    turns_as _ _ _ _ _ _ _ (record c.args.self { stage = puts.Goes going; done = c.args.self.done + 1 }) _ (c.moved_to-in-Wrote.ensures ∙ ap {B = PutPlayer} (λ (n : ℕ). record c.args.self { stage = puts.Goes going; done = n }) c.requires.count)
    (write_done_turns moment c.args.self c.args.going going c.args.piece.now _ _ _ _ _ c.requires.there c.requires.holds refl _ e.sound (record { twelve = λ k. kept_twelve c.args.going.ids.ids.items (c.args.going.ids.next + k); drawn = e.writes.0; behind = e.writes.1; does = e.writes.2; leaves = e.leaves; caused = e.caused; stored = e.stored; passes = e.passes; tickets = e.keeps.tickets }))

pub returns-clause-turned : goal.returns-clause-turned
returns-clause-turned g c = λ moment.
    let going : Going = record c.args.going { upload = c.poll_write.new.self; ids = c.poll_write.new.ids } in
    let e = c.in-Failed.ensures in
    turns_as _ _ _ _ _ _ _ _ _ c.moved_to-in-Failed.ensures
    (write_fails_turns moment c.args.self c.args.going going c.args.piece.now _ _ _ _ _ c.requires.there c.requires.holds refl c.in-Failed.error (record { twelve = λ k. kept_twelve c.args.going.ids.ids.items (c.args.going.ids.next + k); drawn = e.writes.0; behind = e.writes.1; does = e.writes.2; leaves = e.leaves; caused = e.caused; stored = e.stored; passes = e.passes; tickets = e.keeps.tickets }))

-- ---- how far it comes

pub returns-in-Pending-clause-comes : goal.returns-in-Pending-clause-comes
returns-in-Pending-clause-comes g c =
    let going : Going = record c.args.going { upload = c.poll_write.new.self; ids = c.poll_write.new.ids } in
    comes_as _ _ (record c.args.self { stage = puts.Goes c.args.going }) (record c.args.self { stage = puts.Goes going }) _ c.moved_to.ensures (write_waits_comes c.args.self c.args.going going c.args.piece.now c.requires.there _ _ c.in-Pending.ensures.leaves c.in-Pending.ensures.keeps.pended)

pub returns-in-Wrote-clause-comes : goal.returns-in-Wrote-clause-comes
returns-in-Wrote-clause-comes g c =
    let going : Going = record c.args.going { upload = c.poll_write.new.self; ids = c.poll_write.new.ids } in
    comes_as _ _ (record c.args.self { stage = puts.Goes c.args.going }) (record c.args.self { stage = puts.Goes going; done = c.args.self.done + 1 }) _ (c.moved_to-in-Wrote.ensures ∙ ap {B = PutPlayer} (λ (n : ℕ). record c.args.self { stage = puts.Goes going; done = n }) c.requires.count)
    (write_done_comes c.args.self c.args.going going c.args.piece.now c.requires.there _ _ c.in-Wrote.ensures.leaves.0 c.in-Wrote.ensures.keeps.pended)

pub returns-clause-comes : goal.returns-clause-comes
returns-clause-comes g c = comes_as _ _ (record c.args.self { stage = puts.Goes c.args.going }) _ _ c.moved_to-in-Failed.ensures (fails_comes c.args.self c.args.going c.in-Failed.error _ _ (failed_pends c.in-Failed.error (upload_error (upload_of c.args.going.upload)) (upload_ticket (upload_of c.poll_write.new.self)) _ _ c.in-Failed.ensures.keeps.pended))

-- ---- what it says of lost replies

pub returns-in-Pending-clause-lost : goal.returns-in-Pending-clause-lost
returns-in-Pending-clause-lost g c = λ lost. inr (inr c.in-Pending.ensures.keeps.pended.1.0)

pub returns-in-Wrote-clause-lost : goal.returns-in-Wrote-clause-lost
returns-in-Wrote-clause-lost g c = λ lost. absurd (idle_lost (upload_of c.poll_write.new.self) c.in-Wrote.ensures.leaves.0 (subst (λ (p : PutPlayer). PutLost p.stage) c.moved_to-in-Wrote.ensures lost))

pub returns-clause-lost : goal.returns-clause-lost
returns-clause-lost g c = λ lost. beside_lost _ _ _ _ (upload_error (upload_of c.args.going.upload)) c.in-Failed.error c.in-Failed.ensures.keeps (subst (λ (p : PutPlayer). PutLost p.stage) c.moved_to-in-Failed.ensures lost)
