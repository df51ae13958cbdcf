use Rattle.mg_jobs.proofs.Endings.{decided}
use Rattle.mg_jobs.proofs.laws.input_decides.Goals as goal

pub returns : goal.returns
returns c = decided
