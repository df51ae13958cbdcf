use Rattle.std.proofs.Common.{◌≡◌, drop}
use Rattle.mg_bson.specs.View.{fields_of, items_of}
use Rattle.mg_bson.specs.Find.{joined, items_joined}
use Rattle.mg_bson.proofs.clone.+copy.Given as goal

abbrev pub invariant-copy_array-loop-item : goal.invariant-copy_array-loop-item
invariant-copy_array-loop-item l = items_joined (items_of l.items.items) (items_of (drop l.item-index l.item-items)) ≡ items_of l.item-items

abbrev pub invariant-copy_document-loop-field : goal.invariant-copy_document-loop-field
invariant-copy_document-loop-field l = joined (fields_of l.fields.items) (fields_of (drop l.field-index l.field-items)) ≡ fields_of l.field-items
