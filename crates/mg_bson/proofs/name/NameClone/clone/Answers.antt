use Rattle.std.proofs.Common.{subst}
use Rattle.mg_bson.specs.Name.{IsText}
use Rattle.mg_bson.proofs.name.NameClone.clone.Goals as goal

pub invariant_of-result : goal.invariant_of-result
invariant_of-result c = subst IsText c.in-Short.is c.self.invariant
