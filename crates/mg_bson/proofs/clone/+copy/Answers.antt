use Rattle.std.proofs.Common.{ap, ◌∙◌, arith}
use Rattle.mg_bson.specs.View.{fields_of, items_of}
use Rattle.mg_bson.proofs.Joining.{fields_copied, fields_all_copied, items_copied, items_all_copied}
use Rattle.mg_bson.proofs.clone.+copy.Goals as goal

pub copy_array-loop-item-preserved : goal.copy_array-loop-item-preserved
copy_array-loop-item-preserved t c =
    items_copied c.loop-item.items.items c.push.new.self.items c.deref-item-items.result.now c.loop-item.item-index c.item-item.result c.in_ok-copy_value.field-0 (omega arith) c.item-item.is c.in_ok-copy_value.ensures c.in_ok-push.ensures.items c.loop-item.invariant

pub copy_array-returns : goal.copy_array-returns
copy_array-returns t c =
    items_all_copied c.loop-item.items.items c.deref-item-items.result.now c.loop-item.item-index (omega arith) c.loop-item.invariant ∙ ap items_of c.deref-item-items.ensures.value ∙ c.array.view_is

pub copy_document-loop-field-preserved : goal.copy_document-loop-field-preserved
copy_document-loop-field-preserved t c =
    let copy = c.in_ok-copy_field in
    fields_copied c.loop-field.fields.items c.push.new.self.items c.deref-field-items.result.now c.loop-field.field-index c.field-item.result copy.field-0 (omega arith) c.field-item.is copy.ensures.0 copy.ensures.1 c.in_ok-push.ensures.items c.loop-field.invariant

pub copy_document-returns : goal.copy_document-returns
copy_document-returns t c =
    fields_all_copied c.loop-field.fields.items c.deref-field-items.result.now c.loop-field.field-index (omega arith) c.loop-field.invariant ∙ ap fields_of c.deref-field-items.ensures.value ∙ c.document.view_is
