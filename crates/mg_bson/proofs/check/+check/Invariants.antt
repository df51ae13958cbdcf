use Rattle.std.proofs.Common.{◌≡◌, ◌+◌, ◌*◌, length, is_some}
use Rattle.mg_bson.specs.Reading.{fields_at, doc_at}
use Rattle.mg_bson.proofs.check.+check.Given as goal

abbrev pub decreases-is_document : goal.decreases-is_document
decreases-is_document l = 3 * l.levels

abbrev pub decreases-is_value : goal.decreases-is_value
decreases-is_value l = 3 * l.levels + 1

abbrev pub decreases-are_fields : goal.decreases-are_fields
decreases-are_fields l = 3 * l.levels + 2

abbrev pub invariant-are_fields-loop-rest : goal.invariant-are_fields-loop-rest
invariant-are_fields-loop-rest l = is_some (fields_at (doc_at l.levels) l.rest) ≡ is_some (fields_at (doc_at l.levels) l.bytes)

abbrev pub decreases-are_fields-loop-rest : goal.decreases-are_fields-loop-rest
decreases-are_fields-loop-rest l = length l.rest
