use Rattle.std.proofs.Common.{◌≡◌, ◌≤◌}
use Rattle.std.specs.Prelude.{◌↔◌}
use Rattle.mg_bson.specs.Tree.{tree_size, fields_size, items_size}
use Rattle.mg_bson.specs.View.{tree}
use Rattle.mg_bson.proofs.equal.+same.Given as goal

abbrev pub decreases-same_document : goal.decreases-same_document
decreases-same_document l = fields_size l.a.now

abbrev pub decreases-same_array : goal.decreases-same_array
decreases-same_array l = items_size l.a.now

abbrev pub decreases-same_value : goal.decreases-same_value
decreases-same_value l = tree_size (tree l.a.now)

abbrev pub invariant-same_document-loop-name : goal.invariant-same_document-loop-name
invariant-same_document-loop-name l = ((l.left ≡ l.right) ↔ (l.a ≡ l.b)) × (fields_size l.left ≤ fields_size l.a)

abbrev pub decreases-same_document-loop-name : goal.decreases-same_document-loop-name
decreases-same_document-loop-name l = fields_size l.left

abbrev pub invariant-same_array-loop-value : goal.invariant-same_array-loop-value
invariant-same_array-loop-value l = ((l.left ≡ l.right) ↔ (l.a ≡ l.b)) × (items_size l.left ≤ items_size l.a)

abbrev pub decreases-same_array-loop-value : goal.decreases-same_array-loop-value
decreases-same_array-loop-value l = items_size l.left
