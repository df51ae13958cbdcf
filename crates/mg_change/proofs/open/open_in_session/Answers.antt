use Rattle.std.proofs.Common.{false, refl, ◌∙◌}
use Rattle.mg_link.specs.Session.{after_command}
use Rattle.mg_link.specs.declared.session.ExplicitClientSessionHandle.{ExplicitClientSessionHandle}
use Rattle.mg_cursor.proofs.Giving.{session_kept, session_told}
use Rattle.mg_change.proofs.OpenCalls.{moved_often}
use Rattle.mg_change.proofs.open.open_in_session.Goals as goal

pub returns-clause-sound : goal.returns-clause-sound
returns-clause-sound g c = c.open_in.ensures.sound false tt

pub returns-clause-told : goal.returns-clause-told
returns-clause-told g c =
    let x = c.open_in.ensures.told in
    let moved = moved_often x.0 c.args.handle.now.0.now in
    (moved.0, session_told {H = ExplicitClientSessionHandle} (λ h. record h { 0 = record h.0 { now = after_command h.0.now } }) (λ h. h.0.now) x.0 _ _ x.1 (λ h. refl) ∙ moved.1)

pub returns-clause-same_session : goal.returns-clause-same_session
returns-clause-same_session g c = let x = c.open_in.ensures.told in session_kept {H = ExplicitClientSessionHandle} (λ h. record h { 0 = record h.0 { now = after_command h.0.now } }) (λ h. h.0.ghost_name) x.0 _ _ x.1 (λ h. refl)
