use Rattle.std.proofs.Common.{ap, arith}
use Rattle.serde_json.specs.Data.{no_members}
use Rattle.serde_json.specs.View.{view, members_view}
use Rattle.mg_bson.specs.Tree.{fields_size}
use Rattle.mg_bson.specs.View.{tree, items_of}
use Rattle.mg_json.specs.Json.{items_json, fields_json}
use Rattle.mg_json.proofs.Printed.{item_small, items_made, items_all, fields_made}
use Rattle.mg_json.proofs.json.+json.Goals as goal

pub json_items-json_value-requires : goal.json_items-json_value-requires
json_items-json_value-requires t c = (omega (arith, c.decreases, item_small c.args.items.now c.loop-item.item-index c.item-item.result (omega arith) c.item-item.is), tt)

pub json_items-loop-item-preserved : goal.json_items-loop-item-preserved
json_items-loop-item-preserved t c =
    items_made c.loop-item.values.items c.push.new.self.items c.in_ok-json_value.field-0 c.args.items.now c.loop-item.item-index c.item-item.result (items_json (items_of c.args.items.now)) (omega arith) c.item-item.is c.in_ok-json_value.ensures c.in_ok-push.ensures.items c.loop-item.invariant

pub json_items-returns : goal.json_items-returns
json_items-returns t c = items_all c.loop-item.values.items c.args.items.now c.loop-item.item-index (items_json (items_of c.args.items.now)) (omega arith) c.loop-item.invariant

pub json_members-loop-name-preserved : goal.json_members-loop-name-preserved
json_members-loop-name-preserved t c = (
  fields_made (members_view c.loop-name.members.entries) (members_view c.put.new.map.entries) c.in-Some.name.now (view c.in_ok-value.value) (tree c.in-Some.field.now) c.loop-name.fields c.next.new.self (fields_json c.args.document.now no_members) c.in-Some.ensures c.in_ok-value.ensures c.in_ok-put.ensures.ok c.loop-name.invariant.0,
  omega (arith, c.loop-name.invariant.1, ap fields_size c.in-Some.ensures),
)
