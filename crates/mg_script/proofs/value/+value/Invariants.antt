use Rattle.std.proofs.Common.{◌≡◌, drop}
use Rattle.serde_json.specs.View.{items_view, members_view}
use Rattle.mg_script.specs.Values.{items_at, fields_at}
use Rattle.mg_script.proofs.Steps.{with_items, with_fields}
use Rattle.mg_script.proofs.value.+value.Given as goal

abbrev pub invariant-items_of-loop-item : goal.invariant-items_of-loop-item
invariant-items_of-loop-item l = with_items l.array (items_at l.place (items_view (drop l.item-index l.item-items))) ≡ items_at l.place (items_view l.item-items)

abbrev pub invariant-fields_of-loop-name : goal.invariant-fields_of-loop-name
invariant-fields_of-loop-name l = with_fields l.document (fields_at l.place (members_view l.name-iterator)) ≡ fields_at l.place (members_view l.fn.members.entries)
