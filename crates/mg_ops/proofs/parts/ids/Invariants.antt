use Rattle.std.proofs.Common.{◌≡◌, drop}
use Rattle.mg_bson.specs.Tree.{int64}
use Rattle.mg_bson.specs.Find.{items_joined}
use Rattle.mg_ops.proofs.parts.ids.Given as goal
use Rattle.mg_options.specs.Printing.{listed}

abbrev pub invariant-loop-id : goal.invariant-loop-id
invariant-loop-id l = items_joined l.array (listed int64 (drop l.id-index l.ids)) ≡ listed int64 l.ids
