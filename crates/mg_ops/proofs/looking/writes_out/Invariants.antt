use Rattle.std.proofs.Common.{◌≡◌, false, length}
use Rattle.mg_ops.specs.Bodies.{writes_by}
use Rattle.mg_ops.proofs.looking.writes_out.Given as goal

abbrev pub invariant-stages : goal.invariant-stages
invariant-stages l = writes_by l.writes l.left ≡ writes_by false l.stages

abbrev pub decreases-stages : goal.decreases-stages
decreases-stages l = length l.left
