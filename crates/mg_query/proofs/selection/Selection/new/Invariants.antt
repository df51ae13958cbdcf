use Rattle.std.proofs.Common.{◌≡◌, drop, map}
use Rattle.std.specs.Prelude.{◌&&◌}
use Rattle.mg_bson.specs.Tree.{Fields}
use Rattle.mg_query.specs.Asking.{held, matches_keys}
use Rattle.mg_query.specs.Selecting.{held_test}
use Rattle.mg_query.proofs.selection.Selection.new.Given as goal

abbrev pub invariant-loop-condition : goal.invariant-loop-condition
invariant-loop-condition l = (d : Fields) → (matches_keys (map held_test l.tests.items) d && matches_keys (map held (drop l.condition-index l.condition-items)) d) ≡ matches_keys (map held l.conditions.items) d
