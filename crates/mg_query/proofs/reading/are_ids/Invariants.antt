use Rattle.std.proofs.Common.{◌≡◌, is_some}
use Rattle.mg_bson.specs.Tree.{items_size}
use Rattle.mg_bson.specs.Raw.{items, items_left}
use Rattle.mg_server.specs.Rules.{ids_in}
use Rattle.mg_query.proofs.reading.are_ids.Given as goal

abbrev pub invariant-items : goal.invariant-items
invariant-items l = is_some (ids_in (items_left l.left)) ≡ is_some (ids_in (items l.array))

abbrev pub decreases-items : goal.decreases-items
decreases-items l = items_size (items_left l.left)
