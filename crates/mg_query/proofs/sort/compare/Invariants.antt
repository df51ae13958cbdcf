use Rattle.std.proofs.Common.{◌≡◌, map, drop}
use Rattle.mg_bson.specs.Raw.{fields}
use Rattle.mg_query.specs.Comparing.{compare_by}
use Rattle.mg_query.specs.Querying.{held_key}
use Rattle.mg_query.proofs.sort.compare.Given as goal

abbrev pub invariant-loop-key : goal.invariant-loop-key
invariant-loop-key l = compare_by (map held_key (drop l.key-index l.key-items)) (fields l.first) (fields l.second) ≡ compare_by (map held_key l.keys.items) (fields l.first) (fields l.second)
