use Rattle.std.proofs.Common.{◌≡◌, ◌++◌, map}
use Rattle.std.specs.Prelude.{Some}
use Rattle.mg_bson.specs.Raw.{items, items_left}
use Rattle.mg_bson.specs.Find.{items_length}
use Rattle.mg_bson.specs.Reading.{◌>>=◌}
use Rattle.mg_records.specs.Readings.{each_by}
use Rattle.mg_records.proofs.value.each_of.Given as goal

abbrev pub invariant-values : goal.invariant-values
invariant-values g l = (each_by g.T.ReadValue.reads (items_left l.left) >>= λ xs. Some (map g.T.ReadValue.seen l.values.items ++ xs)) ≡ each_by g.T.ReadValue.reads (items l.list)

abbrev pub decreases-values : goal.decreases-values
decreases-values g l = items_length (items_left l.left)
