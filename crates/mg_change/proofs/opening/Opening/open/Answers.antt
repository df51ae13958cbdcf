use Rattle.std.proofs.Common.{true, max, None, refl, subst}
use Rattle.mg_change.specs.ClientOpenings.{opening_ticket}
use Rattle.mg_change.specs.OpenedStreams.{CallOpens}
use Rattle.mg_change.specs.OpeningView.{IsOpens, opens_in, opens_of}
use Rattle.mg_change.specs.StreamView.{IsOwnPlace, IsStream, changes_in, changes_of}
use Rattle.mg_change.specs.declared.changes.Changes.{Changes}
use Rattle.mg_change.specs.declared.opens.Opens.{Opens}
use Rattle.mg_change.proofs.OpenCalls.{seen_open_keeps}
use Rattle.mg_change.proofs.Seen.{polled_kept, polled_seen}
use Rattle.mg_change.proofs.opening.Opening.open.Goals as goal

pub returns-clause-tickets : goal.returns-clause-tickets
returns-clause-tickets g c = (seen_open_keeps (max c.args.polls 1) _ _ (λ (o : Opens). opening_ticket (opens_of o)) opens_in changes_in c.opening_step.result c.open_in.result c.opening_step.ensures c.open_in.ensures.keeps).tickets

pub returns-clause-pended : goal.returns-clause-pended
returns-clause-pended g c = (seen_open_keeps (max c.args.polls 1) _ _ (λ (o : Opens). opening_ticket (opens_of o)) opens_in changes_in c.opening_step.result c.open_in.result c.opening_step.ensures c.open_in.ensures.keeps).pended

pub returns-clause-lost : goal.returns-clause-lost
returns-clause-lost g c = (seen_open_keeps (max c.args.polls 1) _ _ (λ (o : Opens). opening_ticket (opens_of o)) opens_in changes_in c.opening_step.result c.open_in.result c.opening_step.ensures c.open_in.ensures.keeps).lost

pub returns-clause-prompt : goal.returns-clause-prompt
returns-clause-prompt g c = (seen_open_keeps (max c.args.polls 1) _ _ (λ (o : Opens). opening_ticket (opens_of o)) opens_in changes_in c.opening_step.result c.open_in.result c.opening_step.ensures c.open_in.ensures.keeps).prompt

pub returns-clause-later : goal.returns-clause-later
returns-clause-later g c = c.open_in.ensures.keeps.later

pub returns-clause-sound : goal.returns-clause-sound
returns-clause-sound g c = polled_kept (IsOpens true) (IsStream true) opens_in changes_in c.opening_step.result c.open_in.result c.opening_step.ensures (c.open_in.ensures.sound true refl)

pub returns-clause-owned : goal.returns-clause-owned
returns-clause-owned g c = polled_kept (λ (o : Opens). Unit {0}) (λ (s : Changes). IsOwnPlace s.token) opens_in changes_in c.opening_step.result c.open_in.result c.opening_step.ensures c.open_in.ensures.owned

pub returns-clause-begins : goal.returns-clause-begins
returns-clause-begins g c = (subst (CallOpens (g.L.Link.awaited c.open_in.new.link) (g.L.Link.log c.args.link.now) (g.L.Link.log c.open_in.new.link) (g.L.Link.wire c.args.link.now) None c.args.args) (polled_seen opens_in changes_in opens_of changes_of c.opening_step.result c.open_in.result c.opening_step.ensures) c.open_in.ensures.opens).begins

pub returns-clause-caused : goal.returns-clause-caused
returns-clause-caused g c = (subst (CallOpens (g.L.Link.awaited c.open_in.new.link) (g.L.Link.log c.args.link.now) (g.L.Link.log c.open_in.new.link) (g.L.Link.wire c.args.link.now) None c.args.args) (polled_seen opens_in changes_in opens_of changes_of c.opening_step.result c.open_in.result c.opening_step.ensures) c.open_in.ensures.opens).caused

pub returns-clause-moved : goal.returns-clause-moved
returns-clause-moved g c = (subst (CallOpens (g.L.Link.awaited c.open_in.new.link) (g.L.Link.log c.args.link.now) (g.L.Link.log c.open_in.new.link) (g.L.Link.wire c.args.link.now) None c.args.args) (polled_seen opens_in changes_in opens_of changes_of c.opening_step.result c.open_in.result c.opening_step.ensures) c.open_in.ensures.opens).moved

pub returns-clause-sent : goal.returns-clause-sent
returns-clause-sent g c = c.open_in.ensures.opens.sent
