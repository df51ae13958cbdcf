use Rattle.std.proofs.Common.{◌≡◌, ◌++◌, drop, map}
use Rattle.mg_query.specs.Indexing.{index_held}
use Rattle.mg_query.proofs.index.copied.Given as goal

abbrev pub invariant-loop-index : goal.invariant-loop-index
invariant-loop-index l = map index_held l.copies.items ++ map index_held (drop l.index-index l.indexes) ≡ map index_held l.indexes
