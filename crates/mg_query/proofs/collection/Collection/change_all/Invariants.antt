use Rattle.std.proofs.Common.{◌≡◌, length}
use Rattle.std.specs.Vec.Iter.{into_iter_items, into_iter_len}
use Rattle.mg_query.specs.Numbering.{KeepsIds, stored}
use Rattle.mg_query.specs.Collecting.{AreKeyed, exchange_documents}
use Rattle.mg_query.proofs.collection.Collection.change_all.Given as goal

abbrev pub invariant-loop-keyed : goal.invariant-loop-keyed
invariant-loop-keyed l = (KeepsIds l.fn.self → AreKeyed l.fn.documents.items
    → KeepsIds l.self × AreKeyed (into_iter_items l.keyed-iterator) × (exchange_documents (into_iter_items l.keyed-iterator) (stored l.self) ≡ exchange_documents l.fn.documents.items (stored l.fn.self)))
    × (l.self.indexes ≡ l.fn.self.indexes) × (into_iter_len l.keyed-iterator ≡ length (into_iter_items l.keyed-iterator))
