use Rattle.std.proofs.Common.{◌≡◌, ◌≤◌, drop}
use Rattle.serde_json.specs.Data.{no_members}
use Rattle.serde_json.specs.View.{members_view}
use Rattle.mg_bson.specs.Tree.{tree_size, fields_size, items_size}
use Rattle.mg_bson.specs.View.{tree, items_of}
use Rattle.mg_json.specs.Json.{items_json, fields_json}
use Rattle.mg_json.proofs.Printed.{items_then}
use Rattle.mg_json.proofs.json.+json.Given as goal

abbrev pub decreases-json_value : goal.decreases-json_value
decreases-json_value l = tree_size (tree l.value.now)

abbrev pub decreases-json_items : goal.decreases-json_items
decreases-json_items l = items_size (items_of l.items.now)

abbrev pub decreases-json_members : goal.decreases-json_members
decreases-json_members l = fields_size l.document.now

abbrev pub invariant-json_items-loop-item : goal.invariant-json_items-loop-item
invariant-json_items-loop-item l = items_then l.values.items (items_json (items_of (drop l.item-index l.items))) ≡ items_json (items_of l.items)

abbrev pub invariant-json_members-loop-name : goal.invariant-json_members-loop-name
invariant-json_members-loop-name l = (fields_json l.fields (members_view l.members.entries) ≡ fields_json l.document no_members) × (fields_size l.fields ≤ fields_size l.document)

abbrev pub decreases-json_members-loop-name : goal.decreases-json_members-loop-name
decreases-json_members-loop-name l = fields_size l.fields
