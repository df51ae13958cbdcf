use Rattle.std.proofs.Common.{◌∙◌, inl, refl, subst, sym}
use Rattle.mg_link.specs.Acts.{IsOut}
use Rattle.mg_players.proofs.Advancing.{closing_goes, stays_ended}
use Rattle.mg_players.proofs.Going.{follow_comes, follow_goes, staged}
use Rattle.mg_players.proofs.Losing.{follow_lost}
use Rattle.mg_players.proofs.Telling.{tells_same}
use Rattle.mg_players.proofs.Turning.{took_ended}
use Rattle.mg_players.proofs.Vainly.{vain_ended}
use Rattle.mg_link.proofs.Onward.{tickets_same}
use Rattle.mg_players.specs.Follows.{same_place}
use Rattle.mg_players.specs.Playing.{StageHolds, stage_ticket}
use Rattle.mg_players.specs.Telling.{kept}
use Rattle.mg_players.specs.declared.follow.Stage.{Stage}
use Rattle.mg_players.specs.declared.follow.Stage.TheVariants as stage
use Rattle.mg_players.proofs.follow.FollowPlayerKind.go.Goals as goal

pub open-next-requires-clause-held : goal.open-next-requires-clause-held
open-next-requires-clause-held g c = subst (λ (s : Stage). IsOut (g.L.Link.awaited c.args.link.now) (stage_ticket s)) (sym c.replace-stage.ensures.value ∙ c.in-Opens.is) c.requires.can.out

pub open-next-requires-clause-sound : goal.open-next-requires-clause-sound
open-next-requires-clause-sound g c = subst StageHolds (sym c.replace-stage.ensures.value ∙ c.in-Opens.is) c.requires.can.holds

pub ask-next-requires-clause-held : goal.ask-next-requires-clause-held
ask-next-requires-clause-held g c = subst (λ (s : Stage). IsOut (g.L.Link.awaited c.args.link.now) (stage_ticket s)) (sym c.replace-stage.ensures.value ∙ c.in-Open.is) c.requires.can.out

pub ask-next-requires-clause-sound : goal.ask-next-requires-clause-sound
ask-next-requires-clause-sound g c = (subst StageHolds (sym c.replace-stage.ensures.value ∙ c.in-Open.is) c.requires.can.holds).0

pub ask-next-requires-clause-owned : goal.ask-next-requires-clause-owned
ask-next-requires-clause-owned g c = (subst StageHolds (sym c.replace-stage.ensures.value ∙ c.in-Open.is) c.requires.can.holds).1

pub close-next-requires-clause-held : goal.close-next-requires-clause-held
close-next-requires-clause-held g c = subst (λ (s : Stage). IsOut (g.L.Link.awaited c.args.link.now) (stage_ticket s)) (sym c.replace-stage.ensures.value ∙ c.in-Closes.is) c.requires.can.out

pub close-next-requires-clause-holds : goal.close-next-requires-clause-holds
close-next-requires-clause-holds g c = subst StageHolds (sym c.replace-stage.ensures.value ∙ c.in-Closes.is) c.requires.can.holds

pub returns-in-Unopened-clause-goes : goal.returns-in-Unopened-clause-goes
returns-in-Unopened-clause-goes g c =
    follow_goes _ c.args.self _ c.begin-next.new.self c.moved_to.result stage.Unopened c.begin-next.result (sym c.in-Unopened.is ∙ c.replace-stage.ensures.value) c.moved_to.ensures _ _ _ _ _ _ c.begin-next.ensures.turned.next (record { watched = refl; opened = refl; answers = refl; token = refl }) refl c.begin-next.ensures.later.wire c.begin-next.ensures.tickets c.begin-next.ensures.holds c.begin-next.ensures.turned.turned
    c.begin-next.ensures.turned.told c.begin-next.ensures.watched

pub returns-in-Unopened-clause-comes : goal.returns-in-Unopened-clause-comes
returns-in-Unopened-clause-comes g c = follow_comes c.args.self c.args.self c.begin-next.new.self c.moved_to.result stage.Unopened c.begin-next.result (sym c.in-Unopened.is ∙ c.replace-stage.ensures.value) c.moved_to.ensures _ _ refl c.begin-next.ensures.comes

pub returns-in-Opens-clause-goes : goal.returns-in-Opens-clause-goes
returns-in-Opens-clause-goes g c =
    follow_goes _ c.args.self _ c.open-next.new.self c.moved_to-in-Opens.result (stage.Opens c.in-Opens.opening) c.open-next.result (sym c.in-Opens.is ∙ c.replace-stage.ensures.value) c.moved_to-in-Opens.ensures _ _ _ _ _ _ c.open-next.ensures.turned.next (record { watched = refl; opened = refl; answers = refl; token = refl }) refl c.open-next.ensures.later.wire c.open-next.ensures.tickets c.open-next.ensures.holds c.open-next.ensures.turned.turned
    c.open-next.ensures.turned.told c.open-next.ensures.watched

pub returns-in-Opens-clause-comes : goal.returns-in-Opens-clause-comes
returns-in-Opens-clause-comes g c = follow_comes c.args.self c.args.self c.open-next.new.self c.moved_to-in-Opens.result (stage.Opens c.in-Opens.opening) c.open-next.result (sym c.in-Opens.is ∙ c.replace-stage.ensures.value) c.moved_to-in-Opens.ensures _ _ refl c.open-next.ensures.comes

pub returns-in-Open-clause-goes : goal.returns-in-Open-clause-goes
returns-in-Open-clause-goes g c =
    follow_goes _ c.args.self _ c.ask-next.new.self c.moved_to-in-Open.result (stage.Open c.in-Open.stream) c.ask-next.result (sym c.in-Open.is ∙ c.replace-stage.ensures.value) c.moved_to-in-Open.ensures _ _ _ _ _ _ same_place (record { watched = refl; opened = refl; answers = refl; token = refl }) refl c.ask-next.ensures.later.wire c.ask-next.ensures.tickets c.ask-next.ensures.holds c.ask-next.ensures.turned
    c.ask-next.ensures.told c.ask-next.ensures.watched

pub returns-in-Open-clause-comes : goal.returns-in-Open-clause-comes
returns-in-Open-clause-comes g c = follow_comes c.args.self c.args.self c.ask-next.new.self c.moved_to-in-Open.result (stage.Open c.in-Open.stream) c.ask-next.result (sym c.in-Open.is ∙ c.replace-stage.ensures.value) c.moved_to-in-Open.ensures _ _ refl c.ask-next.ensures.comes

pub returns-in-Closes-clause-goes : goal.returns-in-Closes-clause-goes
returns-in-Closes-clause-goes g c =
    follow_goes _ c.args.self _ c.close-next.new.self c.moved_to-in-Closes.result (stage.Closes c.in-Closes.closing) c.close-next.result (sym c.in-Closes.is ∙ c.replace-stage.ensures.value) c.moved_to-in-Closes.ensures _ _ _ _ _ _ same_place (record { watched = refl; opened = refl; answers = refl; token = refl }) refl c.close-next.ensures.later.wire c.close-next.ensures.tickets c.close-next.ensures.holds c.close-next.ensures.turned
    c.close-next.ensures.told c.close-next.ensures.watched

pub returns-in-Closes-clause-comes : goal.returns-in-Closes-clause-comes
returns-in-Closes-clause-comes g c = follow_comes c.args.self c.args.self c.close-next.new.self c.moved_to-in-Closes.result (stage.Closes c.in-Closes.closing) c.close-next.result (sym c.in-Closes.is ∙ c.replace-stage.ensures.value) c.moved_to-in-Closes.ensures _ _ refl (closing_goes _ _ c.in-Closes.closing _ _ _ c.close-next.ensures.comes)

pub returns-in-Ended-clause-goes : goal.returns-in-Ended-clause-goes
returns-in-Ended-clause-goes g c =
    follow_goes _ c.args.self c.args.self c.args.self _ stage.Ended stage.Ended (sym c.in-Ended.is ∙ c.replace-stage.ensures.value) (staged c.args.self _ _ c.replace-stage.ensures.after) _ _ _ _ _ _ same_place (record { watched = refl; opened = refl; answers = refl; token = refl }) refl refl
    (tickets_same (g.L.Link.awaited c.args.link.now) (stage_ticket stage.Ended) (λ n is. absurd cc)) tt (record { watching = took_ended _ _ stage.Ended c.args.self refl; vainly = vain_ended _ _ stage.Ended c.args.self refl }) (tells_same _ _ _ stage.Ended (kept c.args.self)) refl

pub returns-in-Ended-clause-comes : goal.returns-in-Ended-clause-comes
returns-in-Ended-clause-comes g c =
    follow_comes c.args.self c.args.self c.args.self _ stage.Ended stage.Ended (sym c.in-Ended.is ∙ c.replace-stage.ensures.value) (staged c.args.self _ _ c.replace-stage.ensures.after) _ _ refl (stays_ended _ _)

pub returns-in-Unopened-clause-lost : goal.returns-in-Unopened-clause-lost
returns-in-Unopened-clause-lost g c = follow_lost (g.L.Link.faults c.args.link.now) (g.L.Link.faults c.begin-next.new.link) (g.L.Link.pends c.args.link.now) (g.L.Link.pends c.begin-next.new.link) c.args.self c.begin-next.new.self c.moved_to.result c.begin-next.result c.moved_to.ensures (λ part lost. c.begin-next.ensures.lost part lost)

pub returns-in-Opens-clause-lost : goal.returns-in-Opens-clause-lost
returns-in-Opens-clause-lost g c = follow_lost (g.L.Link.faults c.args.link.now) (g.L.Link.faults c.open-next.new.link) (g.L.Link.pends c.args.link.now) (g.L.Link.pends c.open-next.new.link) c.args.self c.open-next.new.self c.moved_to-in-Opens.result c.open-next.result c.moved_to-in-Opens.ensures (λ part lost. c.open-next.ensures.lost part lost)

pub returns-in-Open-clause-lost : goal.returns-in-Open-clause-lost
returns-in-Open-clause-lost g c = follow_lost (g.L.Link.faults c.args.link.now) (g.L.Link.faults c.ask-next.new.link) (g.L.Link.pends c.args.link.now) (g.L.Link.pends c.ask-next.new.link) c.args.self c.ask-next.new.self c.moved_to-in-Open.result c.ask-next.result c.moved_to-in-Open.ensures (λ part lost. c.ask-next.ensures.lost part lost)

pub returns-in-Closes-clause-lost : goal.returns-in-Closes-clause-lost
returns-in-Closes-clause-lost g c = follow_lost (g.L.Link.faults c.args.link.now) (g.L.Link.faults c.close-next.new.link) (g.L.Link.pends c.args.link.now) (g.L.Link.pends c.close-next.new.link) c.args.self c.close-next.new.self c.moved_to-in-Closes.result c.close-next.result c.moved_to-in-Closes.ensures (λ part lost. c.close-next.ensures.lost part lost)

pub returns-in-Ended-clause-lost : goal.returns-in-Ended-clause-lost
returns-in-Ended-clause-lost g c = λ part lost. inl lost
