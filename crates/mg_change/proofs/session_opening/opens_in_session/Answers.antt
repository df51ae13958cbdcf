use Rattle.std.proofs.Common.{false, refl, ◌∙◌}
use Rattle.mg_link.specs.Causes.{one_if}
use Rattle.mg_link.specs.Session.{after_command}
use Rattle.mg_link.specs.declared.session.ExplicitClientSessionHandle.{ExplicitClientSessionHandle}
use Rattle.mg_cursor.proofs.Giving.{session_kept, session_told}
use Rattle.mg_change.proofs.Seen.{moved_once}
use Rattle.mg_change.proofs.session_opening.opens_in_session.Goals as goal

pub returns-clause-opens : goal.returns-clause-opens
returns-clause-opens g c = λ first.
    let x = c.poll_in.ensures.opens first in
    (x.0, x.1, session_told {H = ExplicitClientSessionHandle} (λ h. record h { 0 = record h.0 { now = after_command h.0.now } }) (λ h. h.0.now) (one_if x.0) _ _ x.2 (λ h. refl) ∙ moved_once x.0 c.args.handle.now.0.now)

pub returns-clause-sound : goal.returns-clause-sound
returns-clause-sound g c = λ is. c.poll_in.ensures.sound false is tt

pub returns-clause-same_session : goal.returns-clause-same_session
returns-clause-same_session g c = λ first. let x = c.poll_in.ensures.opens first in session_kept {H = ExplicitClientSessionHandle} (λ h. record h { 0 = record h.0 { now = after_command h.0.now } }) (λ h. h.0.ghost_name) (one_if x.0) _ _ x.2 (λ h. refl)
