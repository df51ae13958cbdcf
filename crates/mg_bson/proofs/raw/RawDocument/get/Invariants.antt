use Rattle.std.proofs.Common.{◌≡◌}
use Rattle.mg_bson.specs.Tree.{fields_size}
use Rattle.mg_bson.specs.Find.{get}
use Rattle.mg_bson.specs.Raw.{fields, fields_left}
use Rattle.mg_bson.proofs.raw.RawDocument.get.Given as goal

abbrev pub invariant-loop-element : goal.invariant-loop-element
invariant-loop-element l = get l.name (fields_left l.left) ≡ get l.name (fields l.self)

abbrev pub decreases-loop-element : goal.decreases-loop-element
decreases-loop-element l = fields_size (fields_left l.left)
