use Rattle.std.proofs.Common.{false, Some, sym, ◌∙◌, subst}
use Rattle.mg_link.specs.Moment.{moment}
use Rattle.mg_change.specs.ClientOpenings.{OpensStream, opening_ticket, seen_step}
use Rattle.mg_change.specs.OpeningView.{IsOpens, opens_of, session_opening_of, session_opens_in, session_ticket_in}
use Rattle.mg_change.specs.StreamView.{IsOwnPlace, IsStream, changes_of, session_changes_in, session_stream_of}
use Rattle.mg_change.specs.declared.changes.Changes.{Changes}
use Rattle.mg_change.specs.declared.opens.Opens.{Opens}
use Rattle.mg_change.proofs.Opened.{opens_moved}
use Rattle.mg_change.proofs.OpeningCauses.{opens_caused}
use Rattle.mg_change.proofs.Seen.{polled_keeps, polled_kept, polled_seen}
use Rattle.mg_change.proofs.session_opening.SessionOpening.poll_in.Goals as goal

pub opens_in_session-requires : goal.opens_in_session-requires
opens_in_session-requires g c = c.requires

pub returns-clause-keeps : goal.returns-clause-keeps
returns-clause-keeps g c =
    let link = c.args.link.now in
    let later = c.opens_in_session.new.link in
    polled_keeps (moment (g.L.Link.awaited link) (g.L.Link.log link) (g.L.Link.faults link) (g.L.Link.pends link) (g.L.Link.wire link) (g.L.Link.prompt link))
    (moment (g.L.Link.awaited later) (g.L.Link.log later) (g.L.Link.faults later) (g.L.Link.pends later) (g.L.Link.wire later) (g.L.Link.prompt later))
    (session_ticket_in c.args.self) (λ (o : Opens). opening_ticket (opens_of o)) session_opens_in session_changes_in c.session_step.result c.opens_in_session.result c.session_step.ensures c.opens_in_session.ensures.keeps

pub returns-clause-sound : goal.returns-clause-sound
returns-clause-sound g c = λ is. polled_kept (IsOpens false) (IsStream false) session_opens_in session_changes_in c.session_step.result c.opens_in_session.result c.session_step.ensures (c.opens_in_session.ensures.sound is)

pub returns-clause-owned : goal.returns-clause-owned
returns-clause-owned g c = polled_kept (λ (o : Opens). Unit {0}) (λ (s : Changes). IsOwnPlace s.token) session_opens_in session_changes_in c.session_step.result c.opens_in_session.result c.session_step.ensures c.opens_in_session.ensures.owned

pub returns-clause-opens : goal.returns-clause-opens
returns-clause-opens g c = λ is.
    let link = c.args.link.now in
    let later = c.opens_in_session.new.link in
    let did = c.opens_in_session.ensures.opens is.first in (
      did.0,
      subst (OpensStream (g.L.Link.awaited link) (g.L.Link.awaited later) (g.L.Link.log link) (g.L.Link.log later) (g.L.Link.wire link) (Some c.args.session.now) did.0 (session_opening_of c.args.self))
          (polled_seen session_opens_in session_changes_in opens_of changes_of c.session_step.result c.opens_in_session.result c.session_step.ensures) did.1,
      c.session-1.given.1 (sym (c.opens_in_session.ensures.same_session is.first)) ∙ did.2,
    )

pub returns-clause-caused : goal.returns-clause-caused
returns-clause-caused g c = λ is.
    let link = c.args.link.now in
    let later = c.opens_in_session.new.link in
    let did = returns-clause-opens g c is in
    opens_caused (g.L.Link.awaited link) (g.L.Link.awaited later) (g.L.Link.log link) (g.L.Link.log later) (g.L.Link.wire link) (Some c.args.session.now) did.0 (session_opening_of c.args.self) (seen_step session_opening_of session_stream_of c.session_step.result) did.1

pub returns-clause-moved : goal.returns-clause-moved
returns-clause-moved g c = λ is w start asks.
    let link = c.args.link.now in
    let later = c.opens_in_session.new.link in
    let did = returns-clause-opens g c is in
    opens_moved (g.L.Link.awaited link) (g.L.Link.awaited later) (g.L.Link.log link) (g.L.Link.log later) (g.L.Link.wire link) (Some c.args.session.now) did.0 (session_opening_of c.args.self) (seen_step session_opening_of session_stream_of c.session_step.result) w start asks false is.sound did.1
