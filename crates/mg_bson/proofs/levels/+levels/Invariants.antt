use Rattle.std.proofs.Common.{◌+◌, ◌*◌}
use Rattle.mg_bson.proofs.Depths.{SameFields, SameItems}
use Rattle.mg_bson.proofs.levels.+levels.Given as goal

abbrev pub decreases-are_fields_within : goal.decreases-are_fields_within
decreases-are_fields_within l = 2 * l.levels + 1

abbrev pub decreases-are_items_within : goal.decreases-are_items_within
decreases-are_items_within l = 2 * l.levels + 1

abbrev pub decreases-is_value_within : goal.decreases-is_value_within
decreases-is_value_within l = 2 * l.levels

abbrev pub invariant-are_fields_within-loop-field : goal.invariant-are_fields_within-loop-field
invariant-are_fields_within-loop-field l = SameFields l.levels l.fields l.field-index

abbrev pub invariant-are_items_within-loop-item : goal.invariant-are_items_within-loop-item
invariant-are_items_within-loop-item l = SameItems l.levels l.items l.item-index
