use Rattle.std.proofs.Common.{◌≡◌, ◌++◌, ◌∷◌, drop, map}
use Rattle.mg_bson.specs.Raw.{fields}
use Rattle.mg_server.specs.Query.{id_index, index_listed}
use Rattle.mg_query.specs.Indexing.{index_held}
use Rattle.mg_query.proofs.index.indexes_listed.Given as goal

abbrev pub invariant-loop-index : goal.invariant-loop-index
invariant-loop-index l = map fields l.documents.items ++ map index_listed (map index_held (drop l.index-index l.indexes)) ≡ map index_listed (id_index ∷ map index_held l.indexes)
