use Rattle.std.proofs.Common.{◌≡◌, ◌++◌, map}
use Rattle.std.specs.Prelude.{Ok}
use Rattle.mg_bson.specs.Raw.{items, items_left}
use Rattle.mg_bson.specs.Find.{items_length}
use Rattle.mg_ops.specs.Cursors.{◌>>=◌}
use Rattle.mg_ops.specs.Writes.{failure, write_errors_in}
use Rattle.mg_ops.proofs.insert_reply.write_errors_in.Given as goal

abbrev pub invariant-errors : goal.invariant-errors
invariant-errors l = (write_errors_in (items_left l.left) >>= λ fs. Ok (map failure l.failures.items ++ fs)) ≡ write_errors_in (items l.list)

abbrev pub decreases-errors : goal.decreases-errors
decreases-errors l = items_length (items_left l.left)
