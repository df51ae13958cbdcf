use Rattle.mg_server.proofs.Runs.{apart_after}
use Rattle.mg_jobs.proofs.laws.jobs_stay_apart.Goals as goal

pub returns : goal.returns
returns c = apart_after
