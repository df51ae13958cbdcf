use Rattle.std.proofs.Common.{◌≡◌}
use Rattle.mg_bson.specs.Tree.{fields_size}
use Rattle.mg_bson.specs.Raw.{fields, fields_left}
use Rattle.mg_server.specs.Commands.{begin_without_dollar}
use Rattle.mg_query.proofs.modification.begin_without_dollar.Given as goal

abbrev pub invariant-fields : goal.invariant-fields
invariant-fields l = begin_without_dollar (fields_left l.left) ≡ begin_without_dollar (fields l.document)

abbrev pub decreases-fields : goal.decreases-fields
decreases-fields l = fields_size (fields_left l.left)
