use Rattle.mg_bson.specs.Tree.{items_size}
use Rattle.mg_bson.specs.Raw.{items, items_left}
use Rattle.mg_link.specs.Namespace.{space}
use Rattle.mg_server.specs.Rules.{inserting}
use Rattle.mg_query.specs.Asking.{documents_among}
use Rattle.mg_query.specs.Numbering.{KeepsIdsThere, there}
use Rattle.mg_store.proofs.Appending.{Going}
use Rattle.mg_store.proofs.insert.append_all.Given as goal

abbrev pub invariant-documents : goal.invariant-documents
invariant-documents l = KeepsIdsThere l.collection → Going (space l.ns) l.ordered l.entries l.index (there l.collection) l.appended (documents_among (items_left l.left)) (inserting (space l.ns) l.ordered 0 l.entries (there l.collection) (documents_among (items l.documents)))

abbrev pub decreases-documents : goal.decreases-documents
decreases-documents l = items_size (items_left l.left)
