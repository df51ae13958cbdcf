use Rattle.mg_change.proofs.Calls.{copies_args}
use Rattle.mg_change.proofs.Lasting.{lends_args, seeks_args_from}
use Rattle.mg_change.proofs.laws.calls_keep_arguments.Goals as goal

pub returns-clause-lends : goal.returns-clause-lends
returns-clause-lends c = λ plain steps. lends_args steps plain

pub returns-clause-copies : goal.returns-clause-copies
returns-clause-copies c = λ plain steps. copies_args steps plain

pub returns-clause-seeks : goal.returns-clause-seeks
returns-clause-seeks c = λ plain empties. seeks_args_from empties plain
