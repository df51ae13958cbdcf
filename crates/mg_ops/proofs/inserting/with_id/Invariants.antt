use Rattle.std.proofs.Common.{◌≡◌}
use Rattle.mg_bson.specs.Find.{joined}
use Rattle.mg_bson.specs.Tree.{fields_size}
use Rattle.mg_ops.specs.Underway.{with_id}
use Rattle.mg_ops.proofs.inserting.with_id.Given as goal

abbrev pub invariant-loop-name : goal.invariant-loop-name
invariant-loop-name l = joined l.copy l.left ≡ with_id l.fn.id l.document

abbrev pub decreases-loop-name : goal.decreases-loop-name
decreases-loop-name l = fields_size l.left
