use Rattle.std.proofs.Common.{true}
use Rattle.mg_change.proofs.opening.Opening.new.Goals as goal

pub returns-clause-opening : goal.returns-clause-opening
returns-clause-opening g c = c.new.ensures.seen

pub returns-clause-sound : goal.returns-clause-sound
returns-clause-sound g c = c.new.ensures.sound true
