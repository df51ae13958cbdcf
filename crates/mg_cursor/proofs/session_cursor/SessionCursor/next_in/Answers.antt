use Rattle.std.proofs.Common.{Some, false, refl, sym, subst}
use Rattle.mg_link.specs.Acts.{IsOut}
use Rattle.mg_link.specs.Session.{after_command}
use Rattle.mg_link.specs.declared.session.ExplicitClientSessionHandle.{ExplicitClientSessionHandle}
use Rattle.mg_cursor.specs.Client.{client_ticket}
use Rattle.mg_cursor.specs.Documents.{DocumentCursor}
use Rattle.mg_cursor.specs.Seeking.{SeekCaused, item_ending}
use Rattle.mg_cursor.specs.View.{document_cursor}
use Rattle.mg_cursor.proofs.Giving.{session_kept, session_told}
use Rattle.mg_cursor.proofs.session_cursor.SessionCursor.next_in.Goals as goal

pub poll_next-requires : goal.poll_next-requires
poll_next-requires g c = subst (λ (d : DocumentCursor). IsOut (g.L.Link.awaited c.args.link.now) (client_ticket d.cursor)) (sym c.self.view_is) c.requires

pub invariant_of-self : goal.invariant_of-self
invariant_of-self g c = c.poll_next.ensures.sound false c.self.invariant tt

pub returns-clause-keeps : goal.returns-clause-keeps
returns-clause-keeps g c = rw (← c.self.view_is) c.poll_next.ensures.keeps

pub returns-clause-seeks : goal.returns-clause-seeks
returns-clause-seeks g c = let x = c.poll_next.ensures.seeks in rw (← c.self.view_is) (x.0, x.1, x.2, session_told {H = ExplicitClientSessionHandle} (λ h. record h { 0 = record h.0 { now = after_command h.0.now } }) (λ h. h.0.now) x.1 _ _ x.3 (λ h. refl))

pub returns-clause-current : goal.returns-clause-current
returns-clause-current g c = c.poll_next.ensures.current

pub returns-clause-caused : goal.returns-clause-caused
returns-clause-caused g c =
    subst (λ (d : DocumentCursor). SeekCaused (g.L.Link.awaited c.args.link.now) (g.L.Link.awaited c.poll_next.new.link) (g.L.Link.log c.args.link.now) (g.L.Link.log c.poll_next.new.link) (g.L.Link.wire c.args.link.now) (Some c.args.handle.now.0.now) d (document_cursor c.poll_next.new.self) (item_ending c.poll_next.result)) c.self.view_is (c.poll_next.ensures.caused false c.self.invariant)

pub returns-clause-list : goal.returns-clause-list
returns-clause-list g c = rw (← c.self.view_is) (c.poll_next.ensures.list false c.self.invariant)

pub returns-clause-same_session : goal.returns-clause-same_session
returns-clause-same_session g c = let x = c.poll_next.ensures.seeks in session_kept {H = ExplicitClientSessionHandle} (λ h. record h { 0 = record h.0 { now = after_command h.0.now } }) (λ h. h.0.ghost_name) x.1 _ _ x.3 (λ h. refl)
