use Rattle.std.proofs.Common.{drop, map}
use Rattle.mg_bson.specs.Raw.{fields}
use Rattle.mg_query.proofs.Giving.{Going}
use Rattle.mg_query.proofs.batch.batch_from.Given as goal

abbrev pub invariant-loop-place : goal.invariant-loop-place
invariant-loop-place l = Going (drop l.from (map fields l.documents)) (drop l.place (map fields l.documents)) l.size l.given l.room l.left
