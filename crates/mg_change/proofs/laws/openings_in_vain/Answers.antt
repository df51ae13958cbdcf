use Rattle.mg_change.proofs.Vain.{opens_in_vain}
use Rattle.mg_change.proofs.laws.openings_in_vain.Goals as goal

pub returns : goal.returns
returns c = λ plain old new log log' wire session started o r none sound opens. opens_in_vain old new log log' wire session started o r none plain sound opens
