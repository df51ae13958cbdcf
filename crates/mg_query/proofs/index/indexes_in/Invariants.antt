use Rattle.std.proofs.Common.{◌≡◌, map}
use Rattle.mg_bson.specs.Tree.{items_size}
use Rattle.mg_bson.specs.Raw.{items, items_left}
use Rattle.mg_query.specs.Indexing.{index_held, indexes_among}
use Rattle.mg_query.proofs.Indexes.{behind}
use Rattle.mg_query.proofs.index.indexes_in.Given as goal

abbrev pub invariant-items : goal.invariant-items
invariant-items l = behind (map index_held l.indexes.items) (indexes_among (items_left l.left)) ≡ indexes_among (items l.array)

abbrev pub decreases-items : goal.decreases-items
decreases-items l = items_size (items_left l.left)
