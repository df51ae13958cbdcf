use Rattle.mg_ops.proofs.Appending.{appended_grown}
use Rattle.mg_jobs.proofs.laws.appended_stays.Goals as goal

pub returns : goal.returns
returns c = appended_grown
