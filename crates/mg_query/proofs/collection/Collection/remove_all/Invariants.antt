use Rattle.std.proofs.Common.{◌≡◌, drop}
use Rattle.mg_query.specs.Numbering.{KeepsIds, stored}
use Rattle.mg_query.specs.Collecting.{without_documents}
use Rattle.mg_query.proofs.collection.Collection.remove_all.Given as goal

abbrev pub invariant-loop-id : goal.invariant-loop-id
invariant-loop-id l = (KeepsIds l.fn.self → KeepsIds l.self × (without_documents (drop l.id-index l.ids.items) (stored l.self) ≡ without_documents l.ids.items (stored l.fn.self))) × (l.self.indexes ≡ l.fn.self.indexes)
