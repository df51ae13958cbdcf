use Rattle.std.proofs.Common.{refl}
use Rattle.mg_change.proofs.opens.Opens.new.Goals as goal

pub returns-clause-sound : goal.returns-clause-sound
returns-clause-sound c = λ plain. record { first = refl; sound = tt }
