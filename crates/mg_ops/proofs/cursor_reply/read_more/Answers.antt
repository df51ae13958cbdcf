use Rattle.std.proofs.Common.{rules, refl}
use Rattle.mg_bson.specs.Raw.{items}
use Rattle.mg_ops.proofs.cursor_reply.read_more.Goals as goal

pub returns-clause-ok : goal.returns-clause-ok
returns-clause-ok c = record { batch = items c.in-Ok.found.batch; says = search rules; whole = refl; ended = search rules }
