use Rattle.std.proofs.Common.{◌≡◌, ◌++◌, map, option_map}
use Rattle.mg_bson.specs.Tree.{fields_size}
use Rattle.mg_bson.specs.Raw.{fields, fields_left}
use Rattle.mg_server.specs.Filter.{conditions_of}
use Rattle.mg_query.specs.Asking.{held, keyed}
use Rattle.mg_query.proofs.filter.conditions_of.Given as goal

abbrev pub invariant-fields : goal.invariant-fields
invariant-fields l = option_map (λ cs. map held l.conditions.items ++ map keyed cs) (conditions_of (fields_left l.left)) ≡ option_map (map keyed) (conditions_of (fields l.filter))

abbrev pub decreases-fields : goal.decreases-fields
decreases-fields l = fields_size (fields_left l.left)
