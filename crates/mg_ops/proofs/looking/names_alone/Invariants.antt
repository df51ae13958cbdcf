use Rattle.std.proofs.Common.{◌≡◌, length}
use Rattle.mg_ops.specs.Bodies.{all_name}
use Rattle.mg_bson.specs.Find.{names}
use Rattle.mg_ops.proofs.looking.names_alone.Given as goal

abbrev pub invariant-names : goal.invariant-names
invariant-names l = all_name l.left ≡ all_name (names l.filter)

abbrev pub decreases-names : goal.decreases-names
decreases-names l = length l.left
