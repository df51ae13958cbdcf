use Rattle.std.proofs.Common.{drop}
use Rattle.mg_bson.specs.View.{fields_of, items_of}
use Rattle.mg_bson.proofs.Along.{Along, AlongItems}
use Rattle.mg_bson.proofs.write.+write.Given as goal

abbrev pub invariant-write_document-loop-field : goal.invariant-write_document-loop-field
invariant-write_document-loop-field l = Along l.initial.out.items l.out.items (fields_of l.field-items) (fields_of (drop l.field-index l.field-items))

abbrev pub invariant-write_array-loop-i : goal.invariant-write_array-loop-i
invariant-write_array-loop-i l = AlongItems l.i l.initial.out.items l.out.items (items_of l.item-items) (items_of (drop l.i l.item-items))
