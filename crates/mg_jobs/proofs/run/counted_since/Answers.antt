use Rattle.std.proofs.Common.{◌≤◌, ℕ, ap, subst, sym}
use Rattle.mg_link.specs.Causes.{RoseJust}
use Rattle.mg_link.specs.Link.{Awaited}
use Rattle.mg_turns.specs.Counts.{IsNoted, shown}
use Rattle.mg_players.specs.Runs.{Goes}
use Rattle.mg_players.specs.Playing.{job_ticket}
use Rattle.mg_players.specs.Plays.{SentAt}
use Rattle.mg_players.proofs.Advancing.{noted_once, noted_so}
use Rattle.mg_players.proofs.Losing.{counted_lost}
use Rattle.mg_turns.proofs.OwnTickets.{newest_of}
use Rattle.mg_jobs.proofs.Showing.{goes_shown}
use Rattle.mg_turns.proofs.Tallies.{is_noted, one_at_most}
use Rattle.mg_jobs.proofs.run.counted_since.Goals as goal

pub returns-clause-goes : goal.returns-clause-goes
returns-clause-goes g c =
    let held = g.B.Began.held in
    let began = g.B.Began.awaited in
    let link = c.go-player.new.link.0 in
    let p = c.args.turn.player in
    let p' = c.go-player.result in
    let goes = subst (λ (a : Awaited). Goes (SentAt c.args.turn.moment.millis) (shown held began a) (shown held began (g.L.Link.awaited link)) (g.L.Link.log c.args.link) (g.L.Link.log link) (g.L.Link.wire link) p p') c.requires.awaited
    (subst (λ l. Goes (SentAt c.args.turn.moment.millis) (shown held began (g.L.Link.awaited l)) (shown held began (g.L.Link.awaited link)) (g.L.Link.log l) (g.L.Link.log link) (g.L.Link.wire link) p p') c.new-counting.ensures.link c.go-player.ensures.goes) in
    subst (λ l. Goes (SentAt c.args.turn.moment.millis) (g.L.Link.awaited c.args.link) (g.L.Link.awaited l) (g.L.Link.log c.args.link) (g.L.Link.log l) (g.L.Link.wire l) p p') (sym c.into_parts-link.ensures.link)
    (subst (λ (a : Awaited). Goes (SentAt c.args.turn.moment.millis) a (g.L.Link.awaited link) (g.L.Link.log c.args.link) (g.L.Link.log link) (g.L.Link.wire link) p p') (sym c.requires.awaited)
    (goes_shown (SentAt c.args.turn.moment.millis) held began (g.L.Link.awaited link) (g.L.Link.log c.args.link) (g.L.Link.log link) (g.L.Link.wire link) p p' c.requires.held c.into_parts-link.ensures.own.1.others goes))

pub returns-clause-comes : goal.returns-clause-comes
returns-clause-comes g c = noted_so _ _ c.into_parts-link.result.1 _ _ c.new-counting.ensures.none c.into_parts-link.ensures.pended c.go-player.ensures.comes

pub returns-clause-noted : goal.returns-clause-noted
returns-clause-noted g c =
    let once = noted_once _ _ c.into_parts-link.result.1 _ _ c.new-counting.ensures.none c.into_parts-link.ensures.pended c.go-player.ensures.comes in
    subst (λ l. IsNoted c.into_parts-link.result.1 g.B.Began.calls (g.L.Link.log l) g.B.Began.pends (g.L.Link.pends l) g.B.Began.prompts (g.L.Link.prompt l)) (sym c.into_parts-link.ensures.link)
    (is_noted c.into_parts-link.result.1 _ _ _ _ _ _ _ once c.into_parts-link.ensures.counted)

pub returns-clause-polled : goal.returns-clause-polled
returns-clause-polled g c =
    let once = noted_once _ _ c.into_parts-link.result.1 _ _ c.new-counting.ensures.none c.into_parts-link.ensures.pended c.go-player.ensures.comes in
    let own = c.into_parts-link.ensures.own in
    let after = job_ticket c.go-player.result in
    let newest = newest_of g.B.Began.held after g.B.Began.awaited (g.L.Link.awaited c.go-player.new.link.0) g.B.Began.calls (g.L.Link.log c.go-player.new.link.0) own.0 c.into_parts-link.result.1.pended _ g.B.Began.polls (g.L.Link.polls c.go-player.new.link.0) once c.go-player.ensures.goes.tickets.held own.1 in
    rw (c.requires.held, c.requires.awaited, c.requires.calls, c.requires.polls, c.into_parts-link.ensures.link) newest

pub returns-clause-lost : goal.returns-clause-lost
returns-clause-lost g c =
    let after = c.go-player.new.link in
    let note = c.into_parts-link.result.1 in
    let once = noted_once _ _ note _ _ c.new-counting.ensures.none c.into_parts-link.ensures.pended c.go-player.ensures.comes in
    let few = subst (λ (n : ℕ). n ≤ 1) (sym once) (one_at_most note.pended) in
    counted_lost (g.L.Link.faults c.new-counting.result.0) (g.L.Link.faults after.0) (g.L.Link.faults c.args.link) (g.L.Link.faults c.into_parts-link.result.0) c.new-counting.result.1 after.1 (g.L.Link.pends c.args.link) (g.L.Link.pends c.into_parts-link.result.0) c.args.turn.player c.go-player.result
    (ap g.L.Link.faults c.new-counting.ensures.link) (ap g.L.Link.faults (sym c.into_parts-link.ensures.link)) c.new-counting.ensures.none few
    (λ small. subst (λ (n : ℕ). RoseJust after.1 n (g.L.Link.pends c.into_parts-link.result.0)) (sym c.requires.pends) (subst (λ l. RoseJust after.1 g.B.Began.pends (g.L.Link.pends l)) (sym c.into_parts-link.ensures.link) (c.into_parts-link.ensures.counted.pends small)))
    c.go-player.ensures.lost
