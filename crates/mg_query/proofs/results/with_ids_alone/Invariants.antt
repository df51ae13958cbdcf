use Rattle.std.proofs.Common.{◌≡◌, ◌++◌, map, drop, codes}
use Rattle.mg_bson.specs.Find.{get}
use Rattle.mg_bson.specs.Raw.{fields}
use Rattle.mg_server.specs.Query.{id_alone}
use Rattle.mg_query.proofs.results.with_ids_alone.Given as goal

abbrev pub invariant-loop-document : goal.invariant-loop-document
invariant-loop-document l = map fields l.shown.items ++ map (λ d. id_alone (get (codes "_id") d)) (map fields (drop l.document-index l.documents)) ≡ map (λ d. id_alone (get (codes "_id") d)) (map fields l.documents)
