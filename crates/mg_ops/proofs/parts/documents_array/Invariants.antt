use Rattle.std.proofs.Common.{◌≡◌, length}
use Rattle.mg_bson.specs.Tree.{document}
use Rattle.mg_bson.specs.Find.{items_joined}
use Rattle.mg_ops.proofs.parts.documents_array.Given as goal
use Rattle.mg_options.specs.Printing.{listed}

abbrev pub invariant-documents : goal.invariant-documents
invariant-documents l = items_joined l.array (listed document l.left.items) ≡ listed document l.fn.documents.items

abbrev pub decreases-documents : goal.decreases-documents
decreases-documents l = length l.left.items
