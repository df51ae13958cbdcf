use Rattle.std.proofs.Common.{◌≡◌, drop}
use Rattle.mg_bson.specs.Tree.{document}
use Rattle.mg_bson.specs.Find.{items_joined}
use Rattle.mg_ops.proofs.parts.put_documents.Given as goal
use Rattle.mg_options.specs.Printing.{listed}

abbrev pub invariant-loop-value : goal.invariant-loop-value
invariant-loop-value l = items_joined l.array (listed document (drop l.value-index l.documents)) ≡ items_joined l.fn.array (listed document l.documents)
