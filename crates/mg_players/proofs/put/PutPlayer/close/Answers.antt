use Rattle.std.proofs.Common.{refl, ◌+◌, inr, subst}
use Rattle.mg_gridfs.specs.Uploads.{upload_error, upload_ticket}
use Rattle.mg_gridfs.specs.UploadView.{upload_of}
use Rattle.mg_players.specs.Losses.{PutLost}
use Rattle.mg_players.specs.declared.put.PutPlayer.{PutPlayer}
use Rattle.mg_players.specs.declared.put.Going.{Going}
use Rattle.mg_players.specs.declared.put.PutStage.TheVariants as puts
use Rattle.mg_players.proofs.KeptIds.{kept_twelve}
use Rattle.mg_players.proofs.Losing.{beside_lost}
use Rattle.mg_players.proofs.PutDriving.{close_done_comes, close_done_turns, close_fails_turns, close_waits_comes, close_waits_turns, comes_as, failed_pends, fails_comes, turns_as}
use Rattle.mg_players.proofs.put.PutPlayer.close.Goals as goal

-- ---- what it knows and tells

pub returns-in-Pending-clause-turned : goal.returns-in-Pending-clause-turned
returns-in-Pending-clause-turned g c =
    let going : Going = record c.args.going { upload = c.poll_close.new.self; ids = c.poll_close.new.ids } in
    let e = c.in-Pending.ensures in
    turns_as _ _ _ _ _ _ _ (record c.args.self { stage = puts.Goes going }) _ c.moved_to.ensures
    (close_waits_turns _ c.args.self c.args.going going _ _ _ _ _ c.requires.all c.requires.holds refl e.sound (record { twelve = λ k. kept_twelve c.args.going.ids.ids.items (c.args.going.ids.next + k); drawn = e.closes.0; behind = e.closes.1; does = e.closes.2; leaves = e.leaves; caused = e.caused; stored = e.stored; passes = e.passes; tickets = e.keeps.tickets }))

pub returns-in-Done-clause-turned : goal.returns-in-Done-clause-turned
returns-in-Done-clause-turned g c =
    let going : Going = record c.args.going { upload = c.poll_close.new.self; ids = c.poll_close.new.ids } in
    let e = c.in-Done.ensures in
    turns_as _ _ _ _ _ _ _ _ _ c.moved_to-in-Done.ensures
    (close_done_turns _ c.args.self c.args.going going _ _ _ _ _ c.requires.all c.requires.holds refl (record { twelve = λ k. kept_twelve c.args.going.ids.ids.items (c.args.going.ids.next + k); drawn = e.closes.0; behind = e.closes.1; does = e.closes.2; leaves = e.leaves; caused = e.caused; stored = e.stored; passes = e.passes; tickets = e.keeps.tickets }))

pub returns-clause-turned : goal.returns-clause-turned
returns-clause-turned g c =
    let going : Going = record c.args.going { upload = c.poll_close.new.self; ids = c.poll_close.new.ids } in
    let e = c.in-Failed.ensures in
    turns_as _ _ _ _ _ _ _ _ _ c.moved_to-in-Failed.ensures
    (close_fails_turns _ c.args.self c.args.going going _ _ _ _ _ c.requires.all c.requires.holds refl c.in-Failed.error (record { twelve = λ k. kept_twelve c.args.going.ids.ids.items (c.args.going.ids.next + k); drawn = e.closes.0; behind = e.closes.1; does = e.closes.2; leaves = e.leaves; caused = e.caused; stored = e.stored; passes = e.passes; tickets = e.keeps.tickets }))

-- ---- how far it comes

pub returns-in-Pending-clause-comes : goal.returns-in-Pending-clause-comes
returns-in-Pending-clause-comes g c =
    let going : Going = record c.args.going { upload = c.poll_close.new.self; ids = c.poll_close.new.ids } in
    comes_as _ _ (record c.args.self { stage = puts.Goes c.args.going }) (record c.args.self { stage = puts.Goes going }) _ c.moved_to.ensures (close_waits_comes c.args.self c.args.going going c.requires.all c.requires.holds _ _ c.in-Pending.ensures.leaves c.in-Pending.ensures.keeps.pended)

pub returns-in-Done-clause-comes : goal.returns-in-Done-clause-comes
returns-in-Done-clause-comes g c = comes_as _ _ (record c.args.self { stage = puts.Goes c.args.going }) _ _ c.moved_to-in-Done.ensures (close_done_comes c.args.self c.args.going c.args.going c.requires.all c.requires.holds _ _ c.in-Done.ensures.keeps.pended)

pub returns-clause-comes : goal.returns-clause-comes
returns-clause-comes g c = comes_as _ _ (record c.args.self { stage = puts.Goes c.args.going }) _ _ c.moved_to-in-Failed.ensures (fails_comes c.args.self c.args.going c.in-Failed.error _ _ (failed_pends c.in-Failed.error (upload_error (upload_of c.args.going.upload)) (upload_ticket (upload_of c.poll_close.new.self)) _ _ c.in-Failed.ensures.keeps.pended))

-- ---- what it says of lost replies

pub returns-in-Pending-clause-lost : goal.returns-in-Pending-clause-lost
returns-in-Pending-clause-lost g c = λ lost. inr (inr c.in-Pending.ensures.keeps.pended.1.0)

pub returns-in-Done-clause-lost : goal.returns-in-Done-clause-lost
returns-in-Done-clause-lost g c = λ lost. absurd (subst (λ (p : PutPlayer). PutLost p.stage) c.moved_to-in-Done.ensures lost)

pub returns-clause-lost : goal.returns-clause-lost
returns-clause-lost g c = λ lost. beside_lost _ _ _ _ (upload_error (upload_of c.args.going.upload)) c.in-Failed.error c.in-Failed.ensures.keeps (subst (λ (p : PutPlayer). PutLost p.stage) c.moved_to-in-Failed.ensures lost)
