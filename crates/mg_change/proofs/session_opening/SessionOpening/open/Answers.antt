use Rattle.std.proofs.Common.{false, max, Some, sym, ◌∙◌, subst}
use Rattle.mg_change.specs.ClientOpenings.{opening_ticket}
use Rattle.mg_change.specs.OpenedStreams.{CallOpens}
use Rattle.mg_change.specs.OpeningView.{IsOpens, opens_of, session_opens_in}
use Rattle.mg_change.specs.StreamView.{IsOwnPlace, IsStream, changes_of, session_changes_in}
use Rattle.mg_change.specs.declared.changes.Changes.{Changes}
use Rattle.mg_change.specs.declared.opens.Opens.{Opens}
use Rattle.mg_change.proofs.OpenCalls.{seen_open_keeps}
use Rattle.mg_change.proofs.Seen.{polled_kept, polled_seen}
use Rattle.mg_change.proofs.session_opening.SessionOpening.open.Goals as goal

pub returns-clause-tickets : goal.returns-clause-tickets
returns-clause-tickets g c = (seen_open_keeps (max c.args.polls 1) _ _ (λ (o : Opens). opening_ticket (opens_of o)) session_opens_in session_changes_in c.session_step.result c.open_in_session.result c.session_step.ensures c.open_in_session.ensures.keeps).tickets

pub returns-clause-pended : goal.returns-clause-pended
returns-clause-pended g c = (seen_open_keeps (max c.args.polls 1) _ _ (λ (o : Opens). opening_ticket (opens_of o)) session_opens_in session_changes_in c.session_step.result c.open_in_session.result c.session_step.ensures c.open_in_session.ensures.keeps).pended

pub returns-clause-lost : goal.returns-clause-lost
returns-clause-lost g c = (seen_open_keeps (max c.args.polls 1) _ _ (λ (o : Opens). opening_ticket (opens_of o)) session_opens_in session_changes_in c.session_step.result c.open_in_session.result c.session_step.ensures c.open_in_session.ensures.keeps).lost

pub returns-clause-prompt : goal.returns-clause-prompt
returns-clause-prompt g c = (seen_open_keeps (max c.args.polls 1) _ _ (λ (o : Opens). opening_ticket (opens_of o)) session_opens_in session_changes_in c.session_step.result c.open_in_session.result c.session_step.ensures c.open_in_session.ensures.keeps).prompt

pub returns-clause-later : goal.returns-clause-later
returns-clause-later g c = c.open_in_session.ensures.keeps.later

pub returns-clause-sound : goal.returns-clause-sound
returns-clause-sound g c = polled_kept (IsOpens false) (IsStream false) session_opens_in session_changes_in c.session_step.result c.open_in_session.result c.session_step.ensures c.open_in_session.ensures.sound

pub returns-clause-owned : goal.returns-clause-owned
returns-clause-owned g c = polled_kept (λ (o : Opens). Unit {0}) (λ (s : Changes). IsOwnPlace s.token) session_opens_in session_changes_in c.session_step.result c.open_in_session.result c.session_step.ensures c.open_in_session.ensures.owned

pub returns-clause-begins : goal.returns-clause-begins
returns-clause-begins g c = (subst (CallOpens (g.L.Link.awaited c.open_in_session.new.link) (g.L.Link.log c.args.link.now) (g.L.Link.log c.open_in_session.new.link) (g.L.Link.wire c.args.link.now) (Some c.args.session.now) c.args.args) (polled_seen session_opens_in session_changes_in opens_of changes_of c.session_step.result c.open_in_session.result c.session_step.ensures) c.open_in_session.ensures.opens).begins

pub returns-clause-caused : goal.returns-clause-caused
returns-clause-caused g c = (subst (CallOpens (g.L.Link.awaited c.open_in_session.new.link) (g.L.Link.log c.args.link.now) (g.L.Link.log c.open_in_session.new.link) (g.L.Link.wire c.args.link.now) (Some c.args.session.now) c.args.args) (polled_seen session_opens_in session_changes_in opens_of changes_of c.session_step.result c.open_in_session.result c.session_step.ensures) c.open_in_session.ensures.opens).caused

pub returns-clause-moved : goal.returns-clause-moved
returns-clause-moved g c = (subst (CallOpens (g.L.Link.awaited c.open_in_session.new.link) (g.L.Link.log c.args.link.now) (g.L.Link.log c.open_in_session.new.link) (g.L.Link.wire c.args.link.now) (Some c.args.session.now) c.args.args) (polled_seen session_opens_in session_changes_in opens_of changes_of c.session_step.result c.open_in_session.result c.session_step.ensures) c.open_in_session.ensures.opens).moved

pub returns-clause-sent : goal.returns-clause-sent
returns-clause-sent g c = c.open_in_session.ensures.opens.sent

pub returns-clause-told : goal.returns-clause-told
returns-clause-told g c = let did = c.open_in_session.ensures.told in (did.0, c.session-1.given.1 (sym c.open_in_session.ensures.same_session) ∙ did.1)
