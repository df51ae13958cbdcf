use Rattle.std.proofs.Common.{◌∙◌, ap, inl, length, refl, subst, sym}
use Rattle.mg_link.specs.Acts.{IsOut}
use Rattle.mg_script.specs.Plan.{pieces}
use Rattle.mg_players.specs.Puts.{PutStageHolds, puts_ticket, writes}
use Rattle.mg_players.specs.declared.put.PutStage.{PutStage}
use Rattle.mg_players.specs.declared.put.PutStage.TheVariants as puts
use Rattle.mg_players.proofs.Losing.{opening_lost, put_lost}
use Rattle.mg_players.specs.Losses.{StoringLost}
use Rattle.mg_players.specs.declared.put.PutPlayer.{PutPlayer}
use Rattle.mg_players.proofs.PutDriving.{comes_as, turns_as}
use Rattle.mg_players.proofs.PutGoing.{at_stage, ended_comes, opening_comes, put_comes, put_goes, put_same, undrawn_comes}
use Rattle.mg_players.proofs.PutOpening.{opening_turns}
use Rattle.mg_players.proofs.put.PutPlayerKind.go.Goals as goal

pub go_on-requires-clause-held : goal.go_on-requires-clause-held
go_on-requires-clause-held g c = subst (λ (s : PutStage). IsOut (g.L.Link.awaited c.args.link.now) (puts_ticket s)) (sym c.replace.ensures.value ∙ c.in-Goes.is) c.requires.can.out

pub go_on-requires-clause-holds : goal.go_on-requires-clause-holds
go_on-requires-clause-holds g c = subst (λ (s : PutStage). PutStageHolds s c.args.self.done (length (pieces c.args.self.what.pieces.now))) (sym c.replace.ensures.value ∙ c.in-Goes.is) c.requires.can.holds

pub returns-in-Goes-clause-goes : goal.returns-in-Goes-clause-goes
returns-in-Goes-clause-goes g c = put_goes _ _ _ _ _ _ _ c.args.self c.go_on.result (puts.Goes c.in-Goes.going) (sym c.in-Goes.is ∙ c.replace.ensures.value) c.go_on.ensures.later.wire c.go_on.ensures.turned

pub returns-in-Goes-clause-comes : goal.returns-in-Goes-clause-comes
returns-in-Goes-clause-comes g c = put_comes _ _ c.args.self c.go_on.result (puts.Goes c.in-Goes.going) (sym c.in-Goes.is ∙ c.replace.ensures.value) c.go_on.ensures.comes

pub returns-in-Begins-clause-goes : goal.returns-in-Begins-clause-goes
returns-in-Begins-clause-goes g c =
    let none = subst (λ (s : PutStage). PutStageHolds s c.args.self.done (length (pieces c.args.self.what.pieces.now))) (sym c.replace.ensures.value ∙ c.in-Begins.is) c.requires.can.holds in
    put_goes _ _ _ _ _ _ _ c.args.self c.moved_to.result (puts.Begins c.in-Begins.begun) (sym c.in-Begins.is ∙ c.replace.ensures.value) refl (turns_as _ _ _ _ _ _ _ _ _ c.moved_to.ensures (opening_turns _ _ _ _ c.args.self c.in-Begins.begun c.opening-next.result none c.opening-next.ensures))

pub returns-in-Begins-clause-comes : goal.returns-in-Begins-clause-comes
returns-in-Begins-clause-comes g c =
    comes_as _ _ c.args.self _ _ c.moved_to.ensures (opening_comes _ (writes c.args.self.what) c.args.self c.in-Begins.begun c.opening-next.result (sym c.in-Begins.is ∙ c.replace.ensures.value) c.opening-next.ensures)

pub returns-in-Undrawn-clause-goes : goal.returns-in-Undrawn-clause-goes
returns-in-Undrawn-clause-goes g c =
    put_same (g.L.Link.awaited c.args.link.now) (g.L.Link.log c.args.link.now) _ _ c.args.self _ (ap (λ (s : PutStage). record c.args.self { stage = s }) (c.replace.ensures.after ∙ sym c.in-Undrawn.is ∙ c.replace.ensures.value)) c.requires.can.out c.requires.can.holds

pub returns-in-Undrawn-clause-comes : goal.returns-in-Undrawn-clause-comes
returns-in-Undrawn-clause-comes g c = undrawn_comes _ c.args.self (record c.args.self { stage = c.replace.new.dest }) (sym c.in-Undrawn.is ∙ c.replace.ensures.value)

pub returns-in-Ended-clause-goes : goal.returns-in-Ended-clause-goes
returns-in-Ended-clause-goes g c =
    put_same (g.L.Link.awaited c.args.link.now) (g.L.Link.log c.args.link.now) _ _ c.args.self c.moved_to-in-Ended.result (c.moved_to-in-Ended.ensures ∙ at_stage c.args.self (puts.Ended c.in-Ended.ended) (sym c.in-Ended.is ∙ c.replace.ensures.value)) c.requires.can.out c.requires.can.holds

pub returns-in-Ended-clause-comes : goal.returns-in-Ended-clause-comes
returns-in-Ended-clause-comes g c =
    ended_comes _ c.args.self c.moved_to-in-Ended.result c.in-Ended.ended (sym c.in-Ended.is ∙ c.replace.ensures.value) (c.moved_to-in-Ended.ensures ∙ at_stage c.args.self (puts.Ended c.in-Ended.ended) (sym c.in-Ended.is ∙ c.replace.ensures.value))

-- ---- what it says of lost replies

pub returns-in-Undrawn-clause-lost : goal.returns-in-Undrawn-clause-lost
returns-in-Undrawn-clause-lost g c = λ part lost. inl (subst (λ (s : PutStage). StoringLost s part) (c.replace.ensures.after ∙ sym c.in-Undrawn.is ∙ c.replace.ensures.value) lost)

pub returns-in-Begins-clause-lost : goal.returns-in-Begins-clause-lost
returns-in-Begins-clause-lost g c = λ part lost.
    put_lost (g.L.Link.faults c.args.link.now) (g.L.Link.faults c.args.link.now) (g.L.Link.pends c.args.link.now) (g.L.Link.pends c.args.link.now) c.args.self.stage (puts.Begins c.in-Begins.begun) c.opening-next.result (sym c.in-Begins.is ∙ c.replace.ensures.value) (λ h. inl (opening_lost (writes c.args.self.what) c.in-Begins.begun c.opening-next.result c.opening-next.ensures h)) part
    (subst (λ (p : PutPlayer). StoringLost p.stage part) c.moved_to.ensures lost)

pub returns-in-Goes-clause-lost : goal.returns-in-Goes-clause-lost
returns-in-Goes-clause-lost g c = put_lost (g.L.Link.faults c.args.link.now) (g.L.Link.faults c.go_on.new.link) (g.L.Link.pends c.args.link.now) (g.L.Link.pends c.go_on.new.link) c.args.self.stage (puts.Goes c.in-Goes.going) c.go_on.result.stage (sym c.in-Goes.is ∙ c.replace.ensures.value) c.go_on.ensures.lost

pub returns-in-Ended-clause-lost : goal.returns-in-Ended-clause-lost
returns-in-Ended-clause-lost g c = λ part lost.
    inl (subst (λ (p : PutPlayer). StoringLost p.stage part) (c.moved_to-in-Ended.ensures ∙ at_stage c.args.self (puts.Ended c.in-Ended.ended) (sym c.in-Ended.is ∙ c.replace.ensures.value)) lost)
