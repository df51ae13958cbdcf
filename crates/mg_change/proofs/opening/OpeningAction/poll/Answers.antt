use Rattle.std.proofs.Common.{true, None, refl, subst}
use Rattle.mg_change.specs.ClientOpenings.{OpensStream, opening_ticket, seen_step}
use Rattle.mg_change.specs.OpeningView.{IsOpens, opening_of, opens_in, opens_of, ticket_in}
use Rattle.mg_change.specs.StreamView.{IsOwnPlace, IsStream, changes_in, changes_of, stream_of}
use Rattle.mg_change.specs.declared.changes.Changes.{Changes}
use Rattle.mg_change.specs.declared.opens.Opens.{Opens}
use Rattle.mg_cursor.proofs.Killing.{at_once_step, lost_step, pended_step}
use Rattle.mg_change.proofs.Opened.{opens_moved}
use Rattle.mg_change.proofs.OpeningCauses.{opens_caused}
use Rattle.mg_change.proofs.Seen.{polled_keeps, polled_kept, polled_seen}
use Rattle.mg_change.proofs.opening.OpeningAction.poll.Goals as goal

pub poll_in-requires : goal.poll_in-requires
poll_in-requires g c = c.requires

-- ---- the clauses of an action

pub returns-clause-tickets : goal.returns-clause-tickets
returns-clause-tickets g c = (polled_keeps _ _ (ticket_in c.args.self) (λ (o : Opens). opening_ticket (opens_of o)) opens_in changes_in c.opening_step.result c.poll_in.result c.opening_step.ensures c.poll_in.ensures.keeps).tickets

pub returns-clause-pended : goal.returns-clause-pended
returns-clause-pended g c =
    pended_step ticket_in c.opening_step.result _ _
    (polled_keeps _ _ (ticket_in c.args.self) (λ (o : Opens). opening_ticket (opens_of o)) opens_in changes_in c.opening_step.result c.poll_in.result c.opening_step.ensures c.poll_in.ensures.keeps).pended

pub returns-clause-lost : goal.returns-clause-lost
returns-clause-lost g c =
    lost_step c.opening_step.result _ _
    (polled_keeps _ _ (ticket_in c.args.self) (λ (o : Opens). opening_ticket (opens_of o)) opens_in changes_in c.opening_step.result c.poll_in.result c.opening_step.ensures c.poll_in.ensures.keeps).lost

pub returns-clause-prompt : goal.returns-clause-prompt
returns-clause-prompt g c = λ prompt.
    at_once_step c.opening_step.result
    ((polled_keeps _ _ (ticket_in c.args.self) (λ (o : Opens). opening_ticket (opens_of o)) opens_in changes_in c.opening_step.result c.poll_in.result c.opening_step.ensures c.poll_in.ensures.keeps).prompt prompt)

pub returns-clause-later : goal.returns-clause-later
returns-clause-later g c = c.poll_in.ensures.keeps.later

-- ---- what it did

pub returns-clause-sound : goal.returns-clause-sound
returns-clause-sound g c = λ is. polled_kept (IsOpens true) (IsStream true) opens_in changes_in c.opening_step.result c.poll_in.result c.opening_step.ensures (c.poll_in.ensures.sound true is refl)

pub returns-clause-owned : goal.returns-clause-owned
returns-clause-owned g c = polled_kept (λ (o : Opens). Unit {0}) (λ (s : Changes). IsOwnPlace s.token) opens_in changes_in c.opening_step.result c.poll_in.result c.opening_step.ensures c.poll_in.ensures.owned

pub returns-clause-opens : goal.returns-clause-opens
returns-clause-opens g c = λ is.
    let link = c.args.link.now in
    let later = c.poll_in.new.link in
    let did = c.poll_in.ensures.opens is.first in (
      did.0,
      subst (OpensStream (g.L.Link.awaited link) (g.L.Link.awaited later) (g.L.Link.log link) (g.L.Link.log later) (g.L.Link.wire link) None did.0 (opening_of c.args.self))
          (polled_seen opens_in changes_in opens_of changes_of c.opening_step.result c.poll_in.result c.opening_step.ensures) did.1,
    )

pub returns-clause-caused : goal.returns-clause-caused
returns-clause-caused g c = λ is.
    let link = c.args.link.now in
    let later = c.poll_in.new.link in
    let did = returns-clause-opens g c is in
    opens_caused (g.L.Link.awaited link) (g.L.Link.awaited later) (g.L.Link.log link) (g.L.Link.log later) (g.L.Link.wire link) None did.0 (opening_of c.args.self) (seen_step opening_of stream_of c.opening_step.result) did.1

pub returns-clause-moved : goal.returns-clause-moved
returns-clause-moved g c = λ is w start asks.
    let link = c.args.link.now in
    let later = c.poll_in.new.link in
    let did = returns-clause-opens g c is in
    opens_moved (g.L.Link.awaited link) (g.L.Link.awaited later) (g.L.Link.log link) (g.L.Link.log later) (g.L.Link.wire link) None did.0 (opening_of c.args.self) (seen_step opening_of stream_of c.opening_step.result) w start asks true is.sound did.1
