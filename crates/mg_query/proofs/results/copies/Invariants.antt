use Rattle.std.proofs.Common.{◌≡◌, ◌++◌, map, drop}
use Rattle.mg_bson.specs.Raw.{fields}
use Rattle.mg_query.specs.Querying.{lent}
use Rattle.mg_query.proofs.results.copies.Given as goal

abbrev pub invariant-loop-document : goal.invariant-loop-document
invariant-loop-document l = map fields l.copies.items ++ lent (drop l.document-index l.documents) ≡ lent l.documents
