use Rattle.mg_jobs.proofs.Appended.{inserts_append}
use Rattle.mg_jobs.proofs.laws.inserts_append.Goals as goal

pub returns : goal.returns
returns c = inserts_append
