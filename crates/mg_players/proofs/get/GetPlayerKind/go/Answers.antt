use Rattle.std.proofs.Common.{◌∙◌, inl, inr, length, refl, subst, sym}
use Rattle.mg_link.specs.Acts.{IsOut}
use Rattle.mg_players.specs.Gets.{FewCalls, GetStageHolds, get_end, gets_ticket}
use Rattle.mg_players.specs.Losses.{EndLost}
use Rattle.mg_players.specs.declared.get.GetPlayer.{GetPlayer}
use Rattle.mg_players.specs.declared.get.GetStage.{GetStage}
use Rattle.mg_players.specs.declared.get.GetStage.TheVariants as gets
use Rattle.mg_players.proofs.Advancing.{get_over}
use Rattle.mg_players.proofs.Losing.{ending_lost}
use Rattle.mg_players.proofs.GetGoing.{get_comes, get_ended, get_gone}
use Rattle.mg_players.proofs.get.GetPlayerKind.go.Goals as goal

-- ---- what its stage asks for

pub begin-next-requires : goal.begin-next-requires
begin-next-requires g c = record { new = subst (λ (s : GetStage). FewCalls s (length c.args.self.bytes.items) c.args.self.done) (sym c.replace-stage.ensures.value ∙ c.in-Unsent.is) c.requires.can.holds.few }

pub open-next-requires-clause-held : goal.open-next-requires-clause-held
open-next-requires-clause-held g c = subst (λ (s : GetStage). IsOut (g.L.Link.awaited c.args.link.now) (gets_ticket s)) (sym c.replace-stage.ensures.value ∙ c.in-Opens.is) c.requires.can.out

pub open-next-requires-clause-holds : goal.open-next-requires-clause-holds
open-next-requires-clause-holds g c = subst (GetStageHolds c.args.self.what.read) (sym c.replace-stage.ensures.value ∙ c.in-Opens.is) c.requires.can.holds.stage

pub read-next-requires-clause-held : goal.read-next-requires-clause-held
read-next-requires-clause-held g c = subst (λ (s : GetStage). IsOut (g.L.Link.awaited c.args.link.now) (gets_ticket s)) (sym c.replace-stage.ensures.value ∙ c.in-Reads.is) c.requires.can.out

pub read-next-requires-clause-holds : goal.read-next-requires-clause-holds
read-next-requires-clause-holds g c = subst (GetStageHolds c.args.self.what.read) (sym c.replace-stage.ensures.value ∙ c.in-Reads.is) c.requires.can.holds.stage

pub open-next-requires-clause-new : goal.open-next-requires-clause-new
open-next-requires-clause-new g c = subst (λ (s : GetStage). FewCalls s (length c.args.self.bytes.items) c.args.self.done) (sym c.replace-stage.ensures.value ∙ c.in-Opens.is) c.requires.can.holds.few

pub read-next-requires-clause-few : goal.read-next-requires-clause-few
read-next-requires-clause-few g c = subst (λ (s : GetStage). FewCalls s (length c.args.self.bytes.items) c.args.self.done) (sym c.replace-stage.ensures.value ∙ c.in-Reads.is) c.requires.can.holds.few

-- ---- the turn

pub returns-in-Unsent-clause-goes : goal.returns-in-Unsent-clause-goes
returns-in-Unsent-clause-goes g c =
    let n = c.begin-next.ensures in
    get_gone _ _ _ _ _ _ _ c.args.self c.begin-next.new.self c.moved_to.result gets.Unsent c.begin-next.result (sym c.in-Unsent.is ∙ c.replace-stage.ensures.value) c.moved_to.ensures n.later.wire n.tickets n.holds n.few n.what n.turned

pub returns-in-Unsent-clause-comes : goal.returns-in-Unsent-clause-comes
returns-in-Unsent-clause-comes g c = get_comes _ _ c.args.self c.begin-next.new.self c.moved_to.result gets.Unsent c.begin-next.result (sym c.in-Unsent.is ∙ c.replace-stage.ensures.value) c.moved_to.ensures c.begin-next.ensures.what c.begin-next.ensures.comes

pub returns-in-Opens-clause-goes : goal.returns-in-Opens-clause-goes
returns-in-Opens-clause-goes g c =
    let n = c.open-next.ensures in
    get_gone _ _ _ _ _ _ _ c.args.self c.open-next.new.self c.moved_to-in-Opens.result (gets.Opens c.in-Opens.opening) c.open-next.result (sym c.in-Opens.is ∙ c.replace-stage.ensures.value) c.moved_to-in-Opens.ensures n.later.wire n.tickets n.holds n.few n.what n.turned

pub returns-in-Opens-clause-comes : goal.returns-in-Opens-clause-comes
returns-in-Opens-clause-comes g c = get_comes _ _ c.args.self c.open-next.new.self c.moved_to-in-Opens.result (gets.Opens c.in-Opens.opening) c.open-next.result (sym c.in-Opens.is ∙ c.replace-stage.ensures.value) c.moved_to-in-Opens.ensures c.open-next.ensures.what c.open-next.ensures.comes

pub returns-in-Reads-clause-goes : goal.returns-in-Reads-clause-goes
returns-in-Reads-clause-goes g c =
    let n = c.read-next.ensures in
    get_gone _ _ _ _ _ _ _ c.args.self c.read-next.new.self c.moved_to-in-Reads.result (gets.Reads c.in-Reads.download c.in-Reads.room) c.read-next.result (sym c.in-Reads.is ∙ c.replace-stage.ensures.value) c.moved_to-in-Reads.ensures n.later.wire n.tickets n.holds n.few n.what n.turned

pub returns-in-Reads-clause-comes : goal.returns-in-Reads-clause-comes
returns-in-Reads-clause-comes g c = get_comes _ _ c.args.self c.read-next.new.self c.moved_to-in-Reads.result (gets.Reads c.in-Reads.download c.in-Reads.room) c.read-next.result (sym c.in-Reads.is ∙ c.replace-stage.ensures.value) c.moved_to-in-Reads.ensures c.read-next.ensures.what c.read-next.ensures.comes

pub returns-in-Ended-clause-goes : goal.returns-in-Ended-clause-goes
returns-in-Ended-clause-goes g c = get_ended (g.L.Link.awaited c.args.link.now) (g.L.Link.log c.args.link.now) _ _ c.args.self c.moved_to-in-Ended.result c.in-Ended.ended (sym c.in-Ended.is ∙ c.replace-stage.ensures.value) c.moved_to-in-Ended.ensures c.requires.can.holds

pub returns-in-Ended-clause-comes : goal.returns-in-Ended-clause-comes
returns-in-Ended-clause-comes g c = get_comes _ _ c.args.self c.args.self c.moved_to-in-Ended.result (gets.Ended c.in-Ended.ended) (gets.Ended c.in-Ended.ended) (sym c.in-Ended.is ∙ c.replace-stage.ensures.value) c.moved_to-in-Ended.ensures refl (get_over _ (length c.args.self.bytes.items) c.args.self.done c.args.self.what.read c.in-Ended.ended)

-- ---- what it says of lost replies

pub returns-in-Unsent-clause-lost : goal.returns-in-Unsent-clause-lost
returns-in-Unsent-clause-lost g c = ending_lost (g.L.Link.faults c.args.link.now) (g.L.Link.faults c.begin-next.new.link) (g.L.Link.pends c.args.link.now) (g.L.Link.pends c.begin-next.new.link) (get_end c.args.self.stage) (get_end c.moved_to.result.stage) (λ lost. inr (c.begin-next.ensures.lost (subst (λ (p : GetPlayer). EndLost (get_end p.stage)) c.moved_to.ensures lost)))

pub returns-in-Opens-clause-lost : goal.returns-in-Opens-clause-lost
returns-in-Opens-clause-lost g c = ending_lost (g.L.Link.faults c.args.link.now) (g.L.Link.faults c.open-next.new.link) (g.L.Link.pends c.args.link.now) (g.L.Link.pends c.open-next.new.link) (get_end c.args.self.stage) (get_end c.moved_to-in-Opens.result.stage) (λ lost. inr (c.open-next.ensures.lost (subst (λ (p : GetPlayer). EndLost (get_end p.stage)) c.moved_to-in-Opens.ensures lost)))

pub returns-in-Reads-clause-lost : goal.returns-in-Reads-clause-lost
returns-in-Reads-clause-lost g c = ending_lost (g.L.Link.faults c.args.link.now) (g.L.Link.faults c.read-next.new.link) (g.L.Link.pends c.args.link.now) (g.L.Link.pends c.read-next.new.link) (get_end c.args.self.stage) (get_end c.moved_to-in-Reads.result.stage) (λ lost. inr (c.read-next.ensures.lost (subst (λ (p : GetPlayer). EndLost (get_end p.stage)) c.moved_to-in-Reads.ensures lost)))

pub returns-in-Ended-clause-lost : goal.returns-in-Ended-clause-lost
returns-in-Ended-clause-lost g c =
    ending_lost (g.L.Link.faults c.args.link.now) (g.L.Link.faults c.args.link.now) (g.L.Link.pends c.args.link.now) (g.L.Link.pends c.args.link.now) (get_end c.args.self.stage) (get_end c.moved_to-in-Ended.result.stage)
    (λ lost. inl (subst (λ (s : GetStage). EndLost (get_end s)) (sym c.in-Ended.is ∙ c.replace-stage.ensures.value) (subst (λ (p : GetPlayer). EndLost (get_end p.stage)) c.moved_to-in-Ended.ensures lost)))
