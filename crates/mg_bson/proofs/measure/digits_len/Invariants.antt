use Rattle.std.proofs.Common.{◌≡◌, ◌+◌, length, decimal}
use Rattle.mg_bson.proofs.measure.digits_len.Given as goal

abbrev pub invariant-loop-front : goal.invariant-loop-front
invariant-loop-front l = l.len + length (decimal l.front) ≡ length (decimal l.n) + 1

abbrev pub decreases-loop-front : goal.decreases-loop-front
decreases-loop-front l = l.front
