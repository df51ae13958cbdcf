use Rattle.std.proofs.Common.{Some, ap}
use Rattle.mg_change.proofs.closing.owned_token.Goals as goal

pub returns-in-Ok-clause-ok : goal.returns-in-Ok-clause-ok
returns-in-Ok-clause-ok c = ap Some c.in-Ok.ensures.ok
