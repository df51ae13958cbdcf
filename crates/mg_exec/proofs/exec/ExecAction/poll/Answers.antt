use Rattle.mg_exec.proofs.Execs.{runs_of}
use Rattle.mg_exec.proofs.exec.ExecAction.poll.Goals as goal

pub returns-clause-runs : goal.returns-clause-runs
returns-clause-runs g c = runs_of _ _ _ _ _ c.args.self _ _ c.poll_started-step.ensures.runs
