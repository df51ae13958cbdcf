use Rattle.mg_server.proofs.Resuming.{reached_joins, resumes_at}
use Rattle.mg_server.proofs.laws.resumption_loses_nothing.Goals as goal

pub returns-clause-place : goal.returns-clause-place
returns-clause-place c = resumes_at

pub returns-clause-view : goal.returns-clause-view
returns-clause-view c = reached_joins
