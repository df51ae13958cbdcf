use Rattle.std.proofs.Common.{◌≡◌, ◌+◌}
use Rattle.mg_bson.specs.Find.{items_length}
use Rattle.mg_bson.specs.Raw.{items, items_left}
use Rattle.mg_bson.proofs.raw.RawArray.len.Given as goal

abbrev pub invariant-loop-count : goal.invariant-loop-count
invariant-loop-count l = l.count + items_length (items_left l.left) ≡ items_length (items l.self)

abbrev pub decreases-loop-count : goal.decreases-loop-count
decreases-loop-count l = items_length (items_left l.left)
