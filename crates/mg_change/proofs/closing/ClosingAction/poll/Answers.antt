use Rattle.std.proofs.Common.{sym, ap, subst}
use Rattle.mg_link.specs.Acts.{IsOut}
use Rattle.mg_cursor.proofs.Hearing.{keeps_from}
use Rattle.mg_cursor.proofs.Killing.{at_once_step, lost_step, pended_step}
use Rattle.mg_change.specs.ClosingStreams.{ClosesStream, ClosingStream, IsSoundClosing, stream_closing_ticket}
use Rattle.mg_change.proofs.Closed.{closes_for, closes_moved}
use Rattle.mg_change.proofs.ClosingCauses.{closing_caused}
use Rattle.mg_change.proofs.closing.ClosingAction.poll.Goals as goal

pub go_on-requires-clause-held : goal.go_on-requires-clause-held
go_on-requires-clause-held g c = subst (λ (k : ClosingStream). IsOut (g.L.Link.awaited c.args.link.now) (stream_closing_ticket k)) (sym c.self.view_is) c.requires

pub go_on-requires-clause-sound : goal.go_on-requires-clause-sound
go_on-requires-clause-sound g c = c.self.invariant

-- ---- the clauses of an action

pub returns-clause-tickets : goal.returns-clause-tickets
returns-clause-tickets g c = (keeps_from _ _ _ (stream_closing_ticket c.args.self) _ _ (ap stream_closing_ticket c.self.view_is) c.go_on.ensures.keeps).tickets

pub returns-clause-pended : goal.returns-clause-pended
returns-clause-pended g c = pended_step stream_closing_ticket c.go_on.result _ _ c.go_on.ensures.keeps.pended

pub returns-clause-lost : goal.returns-clause-lost
returns-clause-lost g c = lost_step c.go_on.result _ _ c.go_on.ensures.keeps.lost

pub returns-clause-prompt : goal.returns-clause-prompt
returns-clause-prompt g c = λ prompt. at_once_step c.go_on.result (c.go_on.ensures.keeps.prompt prompt)

pub returns-clause-later : goal.returns-clause-later
returns-clause-later g c = c.go_on.ensures.keeps.later

-- ---- what it did

pub returns-clause-closes : goal.returns-clause-closes
returns-clause-closes g c =
    let link = c.args.link.now in
    let later = c.go_on.new.link in
    subst (λ (k : ClosingStream). ClosesStream (g.L.Link.awaited link) (g.L.Link.awaited later) (g.L.Link.log link) (g.L.Link.log later) (g.L.Link.wire link) k c.go_on.result) c.self.view_is c.go_on.ensures.closes

pub returns-clause-caused : goal.returns-clause-caused
returns-clause-caused g c =
    closing_caused (g.L.Link.awaited c.args.link.now) (g.L.Link.awaited c.go_on.new.link) (g.L.Link.log c.args.link.now) (g.L.Link.log c.go_on.new.link) (g.L.Link.wire c.args.link.now) c.args.self c.go_on.result
    (subst IsSoundClosing c.self.view_is c.self.invariant.sound) (returns-clause-closes g c)

-- ---- where its stream is

pub returns-clause-moved : goal.returns-clause-moved
returns-clause-moved g c = λ w start token is_for opened answered.
    closes_moved w start token opened answered (g.L.Link.awaited c.args.link.now) (g.L.Link.awaited c.go_on.new.link) (g.L.Link.log c.args.link.now) (g.L.Link.log c.go_on.new.link) (g.L.Link.wire c.args.link.now) c.args.self c.go_on.result
    (subst IsSoundClosing c.self.view_is c.self.invariant.sound) is_for (returns-clause-closes g c)

pub returns-clause-lands_for : goal.returns-clause-lands_for
returns-clause-lands_for g c = λ w start token is_for.
    closes_for w start token (g.L.Link.awaited c.args.link.now) (g.L.Link.awaited c.go_on.new.link) (g.L.Link.log c.args.link.now) (g.L.Link.log c.go_on.new.link) (g.L.Link.wire c.args.link.now) c.args.self c.go_on.result is_for (returns-clause-closes g c)
