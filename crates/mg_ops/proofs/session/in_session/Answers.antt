use Rattle.std.specs.Prelude.{option_copied}
use Rattle.mg_ops.proofs.Sessions.{only_memory}
use Rattle.mg_ops.proofs.session.in_session.Goals as goal

pub returns-in-Err-clause-err : goal.returns-in-Err-clause-err
returns-in-Err-clause-err c = only_memory (option_copied c.args.session) c.in-Err.error c.in-Err.ensures.err
