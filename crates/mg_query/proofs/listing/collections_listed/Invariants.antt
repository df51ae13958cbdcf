use Rattle.std.proofs.Common.{◌≡◌, ◌++◌, map}
use Rattle.std.specs.BTreeMap.{keys}
use Rattle.mg_bson.specs.Raw.{fields}
use Rattle.mg_link.specs.Namespace.{space}
use Rattle.mg_query.specs.Listing.{names_listed}
use Rattle.mg_query.proofs.listing.collections_listed.Given as goal

abbrev pub invariant-loop-ns : goal.invariant-loop-ns
invariant-loop-ns l = map fields l.documents.items ++ names_listed l.db (map space l.ns-iterator) ≡ names_listed l.db (map space (keys l.fn.collections))
