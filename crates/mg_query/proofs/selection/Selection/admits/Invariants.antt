use Rattle.std.proofs.Common.{◌≡◌, drop, map}
use Rattle.mg_bson.specs.Raw.{fields}
use Rattle.mg_query.specs.Asking.{matches_keys}
use Rattle.mg_query.specs.Selecting.{held_test, selecting}
use Rattle.mg_query.proofs.selection.Selection.admits.Given as goal

abbrev pub invariant-loop-test : goal.invariant-loop-test
invariant-loop-test l = matches_keys (map held_test (drop l.test-index l.test-items)) (fields l.document) ≡ matches_keys (selecting l.self) (fields l.document)
