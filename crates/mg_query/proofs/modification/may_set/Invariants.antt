use Rattle.std.proofs.Common.{◌≡◌}
use Rattle.mg_bson.specs.Tree.{fields_size}
use Rattle.mg_bson.specs.Raw.{fields, fields_left}
use Rattle.mg_server.specs.Commands.{may_set}
use Rattle.mg_query.proofs.modification.may_set.Given as goal

abbrev pub invariant-fields : goal.invariant-fields
invariant-fields l = may_set (fields_left l.left) ≡ may_set (fields l.document)

abbrev pub decreases-fields : goal.decreases-fields
decreases-fields l = fields_size (fields_left l.left)
