use Rattle.mg_change.proofs.Closed.{close_moved}
use Rattle.mg_change.proofs.Keeping.{sound_any}
use Rattle.mg_change.proofs.laws.streams_close.Goals as goal

pub returns : goal.returns
returns c = λ plain lent log awaited w start s opened answered sound. close_moved log awaited w start lent s opened answered (sound_any plain s sound)
