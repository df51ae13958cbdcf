use Rattle.std.proofs.Common.{◌≡◌, ◌++◌, length, map}
use Rattle.std.specs.Vec.Iter.{into_iter_items, into_iter_len}
use Rattle.mg_query.specs.Numbering.{HaveNewIds, GrowsBySome, KeepsIds, document_of, stored}
use Rattle.mg_query.proofs.collection.Collection.push_all.Given as goal

abbrev pub invariant-loop-keyed : goal.invariant-loop-keyed
invariant-loop-keyed l = (KeepsIds l.fn.self → HaveNewIds (stored l.fn.self) l.fn.documents.items
    → GrowsBySome l.fn.self l.self × HaveNewIds (stored l.self) (into_iter_items l.keyed-iterator) × (stored l.self ++ map document_of (into_iter_items l.keyed-iterator) ≡ stored l.fn.self ++ map document_of l.fn.documents.items))
    × (l.self.indexes ≡ l.fn.self.indexes) × (into_iter_len l.keyed-iterator ≡ length (into_iter_items l.keyed-iterator))
