use Rattle.std.proofs.Common.{sym, ap, subst}
use Rattle.mg_link.specs.Acts.{IsOut}
use Rattle.mg_cursor.specs.Closing.{ClosingCursor, ClosingPolls, IsClosing, closing_ticket}
use Rattle.mg_cursor.proofs.ClosedCaused.{closing_caused}
use Rattle.mg_cursor.proofs.Hearing.{keeps_from}
use Rattle.mg_cursor.proofs.Killing.{at_once_step, lost_step, pended_step}
use Rattle.mg_cursor.proofs.closing.ClosingAction.poll.Goals as goal

pub go_on-requires-clause-held : goal.go_on-requires-clause-held
go_on-requires-clause-held g c = subst (λ (k : ClosingCursor). IsOut (g.L.Link.awaited c.args.link.now) (closing_ticket k)) (sym c.self.view_is) c.requires

pub go_on-requires-clause-closing : goal.go_on-requires-clause-closing
go_on-requires-clause-closing g c = c.self.invariant

-- ---- the clauses of an action

pub returns-clause-tickets : goal.returns-clause-tickets
returns-clause-tickets g c = (keeps_from _ _ _ (closing_ticket c.args.self) _ _ (ap closing_ticket c.self.view_is) c.go_on.ensures.keeps).tickets

pub returns-clause-pended : goal.returns-clause-pended
returns-clause-pended g c = pended_step closing_ticket c.go_on.result _ _ c.go_on.ensures.keeps.pended

pub returns-clause-lost : goal.returns-clause-lost
returns-clause-lost g c = lost_step c.go_on.result _ _ c.go_on.ensures.keeps.lost

pub returns-clause-prompt : goal.returns-clause-prompt
returns-clause-prompt g c = λ prompt. at_once_step c.go_on.result (c.go_on.ensures.keeps.prompt prompt)

pub returns-clause-later : goal.returns-clause-later
returns-clause-later g c = c.go_on.ensures.keeps.later

-- ---- what it did

pub returns-clause-closes : goal.returns-clause-closes
returns-clause-closes g c =
    let link = c.args.link.now in
    let later = c.go_on.new.link in
    subst (λ (k : ClosingCursor). ClosingPolls (g.L.Link.awaited link) (g.L.Link.awaited later) (g.L.Link.log link) (g.L.Link.log later) (g.L.Link.wire link) k c.go_on.result) c.self.view_is c.go_on.ensures.closes

pub returns-clause-caused : goal.returns-clause-caused
returns-clause-caused g c =
    closing_caused (g.L.Link.awaited c.args.link.now) (g.L.Link.awaited c.go_on.new.link) (g.L.Link.log c.args.link.now) (g.L.Link.log c.go_on.new.link) (g.L.Link.wire c.args.link.now) c.args.self c.go_on.result
    (subst IsClosing c.self.view_is c.self.invariant) (returns-clause-closes g c)
