use Rattle.std.proofs.Common.{◌≡◌, map, drop}
use Rattle.mg_bson.specs.Raw.{fields}
use Rattle.mg_query.specs.Querying.{all_done, held_stage}
use Rattle.mg_query.proofs.results.further.Given as goal

abbrev pub invariant-loop-stage : goal.invariant-loop-stage
invariant-loop-stage l = all_done (map held_stage (drop l.stage-index l.stages)) (map fields l.found.items) ≡ all_done (map held_stage l.stages) (map fields l.fn.found.items)
