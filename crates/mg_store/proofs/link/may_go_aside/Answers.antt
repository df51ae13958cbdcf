use Rattle.mg_store.proofs.Sending.{names_none}
use Rattle.mg_store.proofs.link.may_go_aside.Goals as goal

pub returns-clause-names : goal.returns-clause-names
returns-clause-names c is = names_none c.args.command.now c.is_cursor_command.result c.is_cursor_command.ensures.others is
