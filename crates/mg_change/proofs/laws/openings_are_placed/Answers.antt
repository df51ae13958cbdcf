use Rattle.mg_change.proofs.Placed.{opens_at}
use Rattle.mg_change.proofs.laws.openings_are_placed.Goals as goal

pub returns : goal.returns
returns c = λ plain old new log log' wire session started o s sound opens. opens_at old new log log' wire session started o s plain sound opens
