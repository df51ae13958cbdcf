use Rattle.mg_exec.specs.Attempts.{attempt_of}
use Rattle.mg_exec.proofs.Attempting.{begins_by}
use Rattle.mg_exec.proofs.attempt.begin.Goals as goal

pub returns-in-Ok-clause-begins : goal.returns-in-Ok-clause-begins
returns-in-Ok-clause-begins g c = begins_by _ _ _ _ _ _ c.in-Ok.ticket c.args.command (attempt_of c.go_on.result) c.in-Ok.ensures.starts c.go_on.ensures.goes_on
