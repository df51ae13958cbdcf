use Rattle.std.proofs.Common.{◌≡◌, ◌++◌, map, drop}
use Rattle.std.specs.List.{filter}
use Rattle.mg_bson.specs.Raw.{fields}
use Rattle.mg_query.specs.Asking.{matches_keys}
use Rattle.mg_query.specs.Selecting.{selecting}
use Rattle.mg_query.proofs.results.admitted.Given as goal

abbrev pub invariant-loop-document : goal.invariant-loop-document
invariant-loop-document l = map fields l.admitted.items ++ filter (matches_keys (selecting l.selection)) (map fields (drop l.document-index l.documents)) ≡ filter (matches_keys (selecting l.selection)) (map fields l.documents)
