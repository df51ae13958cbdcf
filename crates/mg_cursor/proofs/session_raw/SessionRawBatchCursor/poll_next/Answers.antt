use Rattle.std.proofs.Common.{◌≡◌, Bool, Some, true, false, refl, sym, ap, ◌∙◌, subst}
use Rattle.std.specs.Prelude.{if◌then◌else◌}
use Rattle.mg_link.specs.Acts.{IsOut}
use Rattle.mg_link.specs.Session.{after_command}
use Rattle.mg_link.specs.declared.session.ExplicitClientSessionHandle.{ExplicitClientSessionHandle}
use Rattle.mg_cursor.specs.Causes.{NextCaused}
use Rattle.mg_cursor.specs.Client.{ClientCursor, client_ticket}
use Rattle.mg_cursor.specs.View.{client_of}
use Rattle.mg_cursor.proofs.Giving.{session_told_once}
use Rattle.mg_cursor.proofs.session_raw.SessionRawBatchCursor.poll_next.Goals as goal

pub poll_next-requires : goal.poll_next-requires
poll_next-requires g c = subst (λ (x : ClientCursor). IsOut (g.L.Link.awaited c.args.link.now) (client_ticket x)) (sym c.self.view_is) c.requires

pub invariant_of-self : goal.invariant_of-self
invariant_of-self g c = c.poll_next.ensures.sound false c.self.invariant tt

pub returns-clause-keeps : goal.returns-clause-keeps
returns-clause-keeps g c = rw (← c.self.view_is) c.poll_next.ensures.keeps

pub returns-clause-polls : goal.returns-clause-polls
returns-clause-polls g c = let x = c.poll_next.ensures.polls in rw (← c.self.view_is) (x.0, x.1, session_told_once {H = ExplicitClientSessionHandle} (λ h. record h { 0 = record h.0 { now = after_command h.0.now } }) (λ h. h.0.now) x.0 _ _ x.2 (λ h. refl))

pub returns-clause-caused : goal.returns-clause-caused
returns-clause-caused g c =
    subst (λ (x : ClientCursor). NextCaused (g.L.Link.awaited c.args.link.now) (g.L.Link.awaited c.poll_next.new.link) (g.L.Link.log c.args.link.now) (g.L.Link.log c.poll_next.new.link) (g.L.Link.wire c.args.link.now) (Some c.args.handle.now.0.now) x (client_of c.poll_next.new.self) c.poll_next.result) c.self.view_is (c.poll_next.ensures.caused false c.self.invariant)

pub returns-clause-list : goal.returns-clause-list
returns-clause-list g c = rw (← c.self.view_is) (c.poll_next.ensures.list false c.self.invariant)

-- whether it was told or not
kept_once : {H A : Type 0} (told : H → H) (seen : H → A) (started : Bool) (h : H) → ((x : H) → seen (told x) ≡ seen x) → seen (if started then told h else h) ≡ seen h
kept_once told seen true h keeps = keeps h
kept_once told seen false h keeps = refl

pub returns-clause-same_session : goal.returns-clause-same_session
returns-clause-same_session g c =
    let x = c.poll_next.ensures.polls in
    ap (λ (h : ExplicitClientSessionHandle). h.0.ghost_name) x.2 ∙ kept_once {H = ExplicitClientSessionHandle} (λ h. record h { 0 = record h.0 { now = after_command h.0.now } }) (λ h. h.0.ghost_name) x.0 c.args.handle.now (λ h. refl)
