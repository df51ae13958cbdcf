use Rattle.mg_jobs.proofs.Completing.{jobs_end}
use Rattle.mg_jobs.proofs.laws.jobs_end_well.Goals as goal

pub returns : goal.returns
returns c = jobs_end
