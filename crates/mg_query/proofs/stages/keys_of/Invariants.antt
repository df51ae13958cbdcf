use Rattle.std.proofs.Common.{◌≡◌, ◌++◌, map, option_map}
use Rattle.mg_bson.specs.Tree.{fields_size}
use Rattle.mg_bson.specs.Raw.{fields, fields_left}
use Rattle.mg_server.specs.Commands.{keys_of}
use Rattle.mg_query.specs.Querying.{held_key}
use Rattle.mg_query.proofs.stages.keys_of.Given as goal

abbrev pub invariant-fields : goal.invariant-fields
invariant-fields l = option_map (λ ks. map held_key l.keys.items ++ ks) (keys_of (fields_left l.left)) ≡ keys_of (fields l.names)

abbrev pub decreases-fields : goal.decreases-fields
decreases-fields l = fields_size (fields_left l.left)
