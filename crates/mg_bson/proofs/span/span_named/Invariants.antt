use Rattle.std.proofs.Common.{length}
use Rattle.mg_bson.proofs.Spans.{Looks}
use Rattle.mg_bson.proofs.span.span_named.Given as goal

abbrev pub invariant-loop-element : goal.invariant-loop-element
invariant-loop-element l = Looks l.bytes l.name l.left

abbrev pub decreases-loop-element : goal.decreases-loop-element
decreases-loop-element l = length l.left
