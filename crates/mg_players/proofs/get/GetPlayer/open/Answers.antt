use Rattle.std.proofs.Common.{ap, arith, length, List, ℕ, Option, subst, sym, ◌∙◌}
use Rattle.mg_link.specs.Acts.{Tickets}
use Rattle.mg_gridfs.specs.DownloadView.{finding_of}
use Rattle.mg_gridfs.specs.Findings.{finding_ticket}
use Rattle.mg_players.specs.declared.get.GetStage.TheVariants as gets
use Rattle.mg_script.specs.declared.outcome.Ended.TheVariants as ended
use Rattle.mg_players.proofs.Advancing.{fits_none, get_fails_at, get_opened_at, get_rests, get_waits}
use Rattle.mg_players.proofs.GetTurning.{opening_done, opening_fails, opening_waits}
use Rattle.mg_players.proofs.Losing.{opens_lost}
use Rattle.mg_players.proofs.get.GetPlayer.open.Goals as goal

pub returns-in-Pending-clause-holds : goal.returns-in-Pending-clause-holds
returns-in-Pending-clause-holds g c = (c.in-Pending.ensures.sound c.requires.holds.0, c.requires.holds.1)

pub opened-requires-clause-sound : goal.opened-requires-clause-sound
opened-requires-clause-sound g c = (c.in-Done.ensures.sound c.requires.holds.0).0

pub opened-requires-clause-free : goal.opened-requires-clause-free
opened-requires-clause-free g c = (c.in-Done.ensures.sound c.requires.holds.0).1

pub opened-requires-clause-some : goal.opened-requires-clause-some
opened-requires-clause-some g c = c.requires.holds.1

pub returns-in-Done-clause-tickets : goal.returns-in-Done-clause-tickets
returns-in-Done-clause-tickets g c = subst (λ (h : Option ℕ). Tickets (g.L.Link.awaited c.args.link.now) (g.L.Link.awaited c.poll.new.link) (finding_ticket (finding_of c.args.opening)) h) (sym c.opened.ensures.ticket) c.in-Done.ensures.tickets

-- ---- what it knows and tells

pub returns-in-Pending-clause-turned : goal.returns-in-Pending-clause-turned
returns-in-Pending-clause-turned g c =
    let p = c.in-Pending.ensures in
    let sound = c.requires.holds.0 in
    opening_waits _ _ _ _ _ c.args.self.now c.args.opening sound c.requires.holds.1 c.in-Pending.opening p.pended.0 (p.sound sound) p.same p.opens (p.caused sound) (p.known sound _)

pub returns-in-Done-clause-turned : goal.returns-in-Done-clause-turned
returns-in-Done-clause-turned g c =
    let p = c.in-Done.ensures in
    let sound = c.requires.holds.0 in
    let o = c.opened.ensures in
    opening_done _ _ _ _ _ c.args.self.now c.args.opening sound c.requires.holds.1 c.in-Done.download c.opened.new.self o.what o.bytes c.requires.new p.opens (p.sound sound).0 (p.caused sound) (p.known sound _) c.opened.result o.stage o.done

pub returns-in-Failed-clause-turned : goal.returns-in-Failed-clause-turned
returns-in-Failed-clause-turned g c =
    let p = c.in-Failed.ensures in
    let sound = c.requires.holds.0 in
    opening_fails _ _ _ _ _ c.args.self.now c.args.opening sound c.requires.holds.1 c.in-Failed.error c.requires.new p.opens (p.caused sound) (p.known sound _)

-- ---- how far it comes

pub returns-in-Pending-clause-comes : goal.returns-in-Pending-clause-comes
returns-in-Pending-clause-comes g c =
    let job = c.args.self.now in
    get_waits (g.L.Link.pends c.args.link.now) (g.L.Link.pends c.poll.new.link) (gets.Opens c.args.opening) (gets.Opens c.in-Pending.opening) (length job.bytes.items) job.done job.what.read c.in-Pending.ensures.pended.1 (λ k last at. (at.0, at.1, at.2, c.in-Pending.ensures.pended.0))

pub returns-in-Done-clause-comes : goal.returns-in-Done-clause-comes
returns-in-Done-clause-comes g c =
    let job = c.args.self.now in
    let after = c.opened.new.self in
    let e = c.opened.ensures in
    get_rests (g.L.Link.pends c.args.link.now) (g.L.Link.pends c.poll.new.link) (gets.Opens c.args.opening) c.opened.result (length job.bytes.items) job.done (length after.bytes.items) after.done job.what.read c.in-Done.ensures.pended
    (λ k last at. get_opened_at c.in-Done.download c.opened.result (length after.bytes.items) job.done after.done k job.what.read e.stage e.ticket c.requires.new e.done at.0 (ap (λ (l : List ℕ). length l) e.bytes ∙ at.2))

pub returns-in-Failed-clause-comes : goal.returns-in-Failed-clause-comes
returns-in-Failed-clause-comes g c =
    let job = c.args.self.now in
    let first = c.requires.new in
    get_rests (g.L.Link.pends c.args.link.now) (g.L.Link.pends c.poll.new.link) (gets.Opens c.args.opening) (gets.Ended (ended.Failed c.in-Failed.error)) (length job.bytes.items) job.done (length job.bytes.items) job.done job.what.read c.in-Failed.ensures.pended
    (λ k last at. get_fails_at (length job.bytes.items) job.done k job.what.read c.in-Failed.error (at.0 ∙ sym first) (omega (arith, first)) (fits_none (length job.bytes.items) job.done job.what.read at.2))

-- ---- what it says of lost replies

pub returns-in-Pending-clause-lost : goal.returns-in-Pending-clause-lost
returns-in-Pending-clause-lost g c = λ lost. absurd lost

pub returns-in-Done-clause-lost : goal.returns-in-Done-clause-lost
returns-in-Done-clause-lost g c = λ lost. absurd (opens_lost c.in-Done.download c.opened.result c.opened.ensures.stage lost)

pub returns-in-Failed-clause-lost : goal.returns-in-Failed-clause-lost
returns-in-Failed-clause-lost g c = λ lost. c.in-Failed.ensures.lost lost
