use Rattle.std.proofs.Common.{◌≡◌, drop, map}
use Rattle.std.specs.List.{list_all}
use Rattle.mg_server.specs.Query.{index_listed}
use Rattle.mg_server.specs.Rules.{may_stay}
use Rattle.mg_server.specs.State.{Index}
use Rattle.mg_query.specs.Indexing.{index_held}
use Rattle.mg_query.proofs.index.all_may_stay.Given as goal

abbrev pub invariant-loop-index : goal.invariant-loop-index
invariant-loop-index l = list_all (λ (i : Index). may_stay (index_listed i)) (map index_held (drop l.index-index l.indexes)) ≡ list_all (λ (i : Index). may_stay (index_listed i)) (map index_held l.indexes)
