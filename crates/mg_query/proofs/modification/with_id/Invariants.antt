use Rattle.std.proofs.Common.{◌≡◌, Some}
use Rattle.mg_bson.specs.Find.{joined}
use Rattle.mg_bson.specs.Tree.{fields_size}
use Rattle.mg_bson.specs.Raw.{fields, fields_left}
use Rattle.mg_bson.specs.View.{tree}
use Rattle.mg_server.specs.Write.{with_id}
use Rattle.mg_query.proofs.Modifying.{rest_behind}
use Rattle.mg_query.proofs.modification.with_id.Given as goal

abbrev pub invariant-fields : goal.invariant-fields
invariant-fields l = joined l.document (rest_behind l.passed (fields_left l.left)) ≡ with_id (Some (tree l.fn.id)) (fields l.new)

abbrev pub decreases-fields : goal.decreases-fields
decreases-fields l = fields_size (fields_left l.left)
