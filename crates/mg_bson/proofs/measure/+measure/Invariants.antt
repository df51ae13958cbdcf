use Rattle.std.proofs.Common.{◌+◌, ◌*◌, drop}
use Rattle.mg_bson.specs.View.{fields_of, items_of}
use Rattle.mg_bson.proofs.Measuring.{MeasuredOn, MeasuredItems}
use Rattle.mg_bson.proofs.measure.+measure.Given as goal

abbrev pub decreases-measure_document : goal.decreases-measure_document
decreases-measure_document l = 4 * l.levels

abbrev pub decreases-measure_array : goal.decreases-measure_array
decreases-measure_array l = 4 * l.levels

abbrev pub decreases-measure_value : goal.decreases-measure_value
decreases-measure_value l = 4 * l.levels + 2

abbrev pub decreases-measure_fields : goal.decreases-measure_fields
decreases-measure_fields l = 4 * l.levels + 3

abbrev pub decreases-measure_items : goal.decreases-measure_items
decreases-measure_items l = 4 * l.levels + 3

abbrev pub decreases-measure_scoped : goal.decreases-measure_scoped
decreases-measure_scoped l = 4 * l.levels + 1

abbrev pub invariant-measure_fields-loop-field : goal.invariant-measure_fields-loop-field
invariant-measure_fields-loop-field l = MeasuredOn l.levels l.len l.end (fields_of l.fields) (fields_of (drop l.field-index l.fields))

abbrev pub invariant-measure_items-loop-i : goal.invariant-measure_items-loop-i
invariant-measure_items-loop-i l = MeasuredItems l.levels l.i l.len l.end (items_of l.items) (items_of (drop l.i l.items))
