use Rattle.std.proofs.Common.{◌≡◌}
use Rattle.mg_bson.specs.Tree.{fields_size}
use Rattle.mg_bson.specs.Raw.{fields, fields_left}
use Rattle.mg_server.specs.Write.{with_fields}
use Rattle.mg_query.proofs.modification.with_fields.Given as goal

abbrev pub invariant-fields : goal.invariant-fields
invariant-fields l = with_fields (fields_left l.left) l.document ≡ with_fields (fields l.new) l.fn.document

abbrev pub decreases-fields : goal.decreases-fields
decreases-fields l = fields_size (fields_left l.left)
