use Rattle.std.proofs.Common.{◌≡◌, ◌++◌, map, drop, codes}
use Rattle.mg_bson.specs.Find.{without}
use Rattle.mg_bson.specs.Raw.{fields}
use Rattle.mg_query.proofs.results.without_ids.Given as goal

abbrev pub invariant-loop-document : goal.invariant-loop-document
invariant-loop-document l = map fields l.shown.items ++ map (without (codes "_id")) (map fields (drop l.document-index l.documents)) ≡ map (without (codes "_id")) (map fields l.documents)
