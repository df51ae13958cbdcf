use Rattle.std.proofs.Common.{map}
use Rattle.mg_query.specs.Asking.{held}
use Rattle.mg_query.proofs.Looking.{covers_ids}
use Rattle.mg_query.proofs.lookup.numbers_of.Goals as goal

pub returns-in_ok-numbers-in-Some : goal.returns-in_ok-numbers-in-Some
returns-in_ok-numbers-in-Some c keeps = covers_ids (map held c.args.conditions.now.items) c.args.collection.now c.in-Some.keys.now.items c.in_ok-numbers-in-Some.field-0 c.in-Some.ensures c.in_ok-numbers-in-Some.ensures keeps
