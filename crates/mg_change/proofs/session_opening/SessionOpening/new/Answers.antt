use Rattle.std.proofs.Common.{false}
use Rattle.mg_change.proofs.session_opening.SessionOpening.new.Goals as goal

pub returns-clause-opening : goal.returns-clause-opening
returns-clause-opening g c = c.new.ensures.seen

pub returns-clause-sound : goal.returns-clause-sound
returns-clause-sound g c = c.new.ensures.sound false
