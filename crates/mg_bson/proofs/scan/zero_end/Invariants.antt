use Rattle.std.proofs.Common.{◌-◌, ◌≤◌, length}
use Rattle.mg_bson.specs.Scan.{AreNonZero}
use Rattle.mg_bson.proofs.scan.zero_end.Given as goal

abbrev pub invariant-loop-end : goal.invariant-loop-end
invariant-loop-end l = (l.end ≤ length l.bytes) × AreNonZero l.bytes l.end

abbrev pub decreases-loop-end : goal.decreases-loop-end
decreases-loop-end l = length l.bytes - l.end
