use Rattle.std.proofs.Common.{◌≡◌, map}
use Rattle.mg_bson.specs.Tree.{fields_size}
use Rattle.mg_bson.specs.Raw.{fields, fields_left}
use Rattle.mg_server.specs.Commands.{has_only}
use Rattle.mg_query.proofs.reading.has_only.Given as goal

abbrev pub invariant-fields : goal.invariant-fields
invariant-fields l = has_only (map (λ n. n.now) l.names) (fields_left l.left) ≡ has_only (map (λ n. n.now) l.names) (fields l.document)

abbrev pub decreases-fields : goal.decreases-fields
decreases-fields l = fields_size (fields_left l.left)
