use Rattle.std.proofs.Common.{false, refl, sym, ◌∙◌}
use Rattle.mg_link.specs.Session.{after_command}
use Rattle.mg_link.specs.declared.session.ExplicitClientSessionHandle.{ExplicitClientSessionHandle}
use Rattle.mg_cursor.proofs.Giving.{session_kept, session_told}
use Rattle.mg_change.proofs.session_stream.SessionChangeStream.poll_advance_if_any.Goals as goal

pub poll_advance_if_any-requires-clause-held : goal.poll_advance_if_any-requires-clause-held
poll_advance_if_any-requires-clause-held g c = c.requires.held

pub poll_advance_if_any-requires-clause-sound : goal.poll_advance_if_any-requires-clause-sound
poll_advance_if_any-requires-clause-sound g c = c.requires.sound

pub returns-clause-keeps : goal.returns-clause-keeps
returns-clause-keeps g c = c.poll_advance_if_any.ensures.keeps

pub returns-clause-sound : goal.returns-clause-sound
returns-clause-sound g c = c.poll_advance_if_any.ensures.sound false c.requires.sound tt

pub returns-clause-does : goal.returns-clause-does
returns-clause-does g c =
    let x = c.poll_advance_if_any.ensures.does in
    (x.0, x.1, x.2, c.session-1.given.1 (sym (session_kept {H = ExplicitClientSessionHandle} (λ h. record h { 0 = record h.0 { now = after_command h.0.now } }) (λ h. h.0.ghost_name) x.1 _ _ x.3 (λ h. refl))) ∙ session_told {H = ExplicitClientSessionHandle} (λ h. record h { 0 = record h.0 { now = after_command h.0.now } }) (λ h. h.0.now) x.1 _ _ x.3 (λ h. refl))

pub returns-clause-leaves : goal.returns-clause-leaves
returns-clause-leaves g c = c.poll_advance_if_any.ensures.leaves

pub returns-clause-sent : goal.returns-clause-sent
returns-clause-sent g c = c.poll_advance_if_any.ensures.sent

pub returns-clause-caused : goal.returns-clause-caused
returns-clause-caused g c = c.poll_advance_if_any.ensures.caused

pub returns-clause-moved : goal.returns-clause-moved
returns-clause-moved g c = c.poll_advance_if_any.ensures.moved
