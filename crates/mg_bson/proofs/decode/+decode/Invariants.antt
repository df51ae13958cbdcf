use Rattle.std.proofs.Common.{◌≡◌, ◌+◌, ◌*◌, ◌≤◌}
use Rattle.mg_bson.specs.Tree.{tree_size, fields_size, items_size}
use Rattle.mg_bson.specs.Find.{joined, items_joined}
use Rattle.mg_bson.specs.Raw.{fields, items, fields_left, items_left}
use Rattle.mg_bson.specs.RawView.{value}
use Rattle.mg_bson.proofs.decode.+decode.Given as goal

abbrev pub decreases-read_document : goal.decreases-read_document
decreases-read_document l = 2 * fields_size (fields l.raw.now)

abbrev pub decreases-read_array : goal.decreases-read_array
decreases-read_array l = 2 * items_size (items l.raw.now)

abbrev pub decreases-read_value : goal.decreases-read_value
decreases-read_value l = 2 * tree_size (value l.raw.now)

abbrev pub invariant-read_document-loop-name : goal.invariant-read_document-loop-name
invariant-read_document-loop-name l = (joined l.document (fields_left l.left) ≡ fields l.raw) × (fields_size (fields_left l.left) ≤ fields_size (fields l.raw))

abbrev pub decreases-read_document-loop-name : goal.decreases-read_document-loop-name
decreases-read_document-loop-name l = fields_size (fields_left l.left)

abbrev pub invariant-read_array-loop-value : goal.invariant-read_array-loop-value
invariant-read_array-loop-value l = (items_joined l.array (items_left l.left) ≡ items l.raw) × (items_size (items_left l.left) ≤ items_size (items l.raw))

abbrev pub decreases-read_array-loop-value : goal.decreases-read_array-loop-value
decreases-read_array-loop-value l = items_size (items_left l.left)

abbrev pub decreases-read_scoped : goal.decreases-read_scoped
decreases-read_scoped l = 2 * fields_size (fields l.scope.now) + 1
