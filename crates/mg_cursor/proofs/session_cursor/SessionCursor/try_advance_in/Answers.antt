use Rattle.std.proofs.Common.{Some, false, refl, sym, subst}
use Rattle.mg_link.specs.Acts.{IsOut}
use Rattle.mg_link.specs.Causes.{one_if}
use Rattle.mg_link.specs.Session.{after_command}
use Rattle.mg_link.specs.declared.session.ExplicitClientSessionHandle.{ExplicitClientSessionHandle}
use Rattle.mg_cursor.specs.Client.{client_ticket}
use Rattle.mg_cursor.specs.Documents.{DocumentCursor, try_ending}
use Rattle.mg_cursor.specs.Seeking.{SeekCaused}
use Rattle.mg_cursor.specs.View.{document_cursor}
use Rattle.mg_cursor.proofs.Giving.{session_kept, session_told}
use Rattle.mg_cursor.proofs.session_cursor.SessionCursor.try_advance_in.Goals as goal

pub poll_try_advance-requires : goal.poll_try_advance-requires
poll_try_advance-requires g c = subst (λ (d : DocumentCursor). IsOut (g.L.Link.awaited c.args.link.now) (client_ticket d.cursor)) (sym c.self.view_is) c.requires

pub invariant_of-self : goal.invariant_of-self
invariant_of-self g c = c.poll_try_advance.ensures.sound false c.self.invariant tt

pub returns-clause-keeps : goal.returns-clause-keeps
returns-clause-keeps g c = rw (← c.self.view_is) c.poll_try_advance.ensures.keeps

pub returns-clause-tries : goal.returns-clause-tries
returns-clause-tries g c = let x = c.poll_try_advance.ensures.tries in rw (← c.self.view_is) (x.0, x.1, session_told {H = ExplicitClientSessionHandle} (λ h. record h { 0 = record h.0 { now = after_command h.0.now } }) (λ h. h.0.now) (one_if x.0) _ _ x.2 (λ h. refl))

pub returns-clause-current : goal.returns-clause-current
returns-clause-current g c = c.poll_try_advance.ensures.current

pub returns-clause-caused : goal.returns-clause-caused
returns-clause-caused g c =
    subst (λ (d : DocumentCursor). SeekCaused (g.L.Link.awaited c.args.link.now) (g.L.Link.awaited c.poll_try_advance.new.link) (g.L.Link.log c.args.link.now) (g.L.Link.log c.poll_try_advance.new.link) (g.L.Link.wire c.args.link.now) (Some c.args.handle.now.0.now) d (document_cursor c.poll_try_advance.new.self) (try_ending c.poll_try_advance.result)) c.self.view_is (c.poll_try_advance.ensures.caused false c.self.invariant)

pub returns-clause-list : goal.returns-clause-list
returns-clause-list g c = rw (← c.self.view_is) (c.poll_try_advance.ensures.list false c.self.invariant)

pub returns-clause-same_session : goal.returns-clause-same_session
returns-clause-same_session g c = let x = c.poll_try_advance.ensures.tries in session_kept {H = ExplicitClientSessionHandle} (λ h. record h { 0 = record h.0 { now = after_command h.0.now } }) (λ h. h.0.ghost_name) (one_if x.0) _ _ x.2 (λ h. refl)
