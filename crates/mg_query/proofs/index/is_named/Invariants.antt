use Rattle.std.proofs.Common.{◌≡◌, drop, map}
use Rattle.std.specs.List.{list_any}
use Rattle.std.specs.Str.{bytes_eq}
use Rattle.mg_server.specs.State.{Index}
use Rattle.mg_query.specs.Indexing.{index_held}
use Rattle.mg_query.proofs.index.is_named.Given as goal

abbrev pub invariant-loop-index : goal.invariant-loop-index
invariant-loop-index l = list_any (λ (j : Index). bytes_eq j.name l.name) (map index_held (drop l.index-index l.indexes)) ≡ list_any (λ (j : Index). bytes_eq j.name l.name) (map index_held l.indexes)
