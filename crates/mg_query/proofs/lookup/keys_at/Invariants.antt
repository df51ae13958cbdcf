use Rattle.std.proofs.Common.{◌≡◌, drop, map, true}
use Rattle.mg_bson.specs.Tree.{Fields}
use Rattle.mg_query.specs.Asking.{held, matches_keys}
use Rattle.mg_query.proofs.lookup.keys_at.Given as goal

abbrev pub invariant-loop-condition : goal.invariant-loop-condition
invariant-loop-condition l = (d : Fields) → matches_keys (map held l.conditions.items) d ≡ true → matches_keys (map held (drop l.condition-index l.condition-items)) d ≡ true
