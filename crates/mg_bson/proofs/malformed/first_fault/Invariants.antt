use Rattle.std.proofs.Common.{length}
use Rattle.mg_bson.proofs.Malforming.{Passed}
use Rattle.mg_bson.proofs.malformed.first_fault.Given as goal

abbrev pub invariant-loop-rest : goal.invariant-loop-rest
invariant-loop-rest l = Passed l.body l.rest

abbrev pub decreases-loop-rest : goal.decreases-loop-rest
decreases-loop-rest l = length l.rest
