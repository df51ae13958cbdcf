use Rattle.std.proofs.Common.{◌≡◌, drop, map}
use Rattle.mg_server.specs.Write.{with_indexes}
use Rattle.mg_query.specs.Indexing.{index_held}
use Rattle.mg_query.specs.Numbering.{indexes_there}
use Rattle.mg_query.proofs.index.with_indexes.Given as goal

abbrev pub invariant-loop-index : goal.invariant-loop-index
invariant-loop-index l = with_indexes (map index_held l.indexes.items) (map index_held (drop l.index-index l.more)) ≡ with_indexes (indexes_there l.collection) (map index_held l.more)
