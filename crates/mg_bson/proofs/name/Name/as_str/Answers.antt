use Rattle.std.proofs.Common.{subst}
use Rattle.std.proofs.lemmas.Str.{IsUtf8-had}
use Rattle.mg_bson.specs.Name.{IsText}
use Rattle.mg_bson.proofs.name.Name.as_str.Goals as goal

pub known_text-requires-clause-text : goal.known_text-requires-clause-text
known_text-requires-clause-text c = IsUtf8-had _ (subst IsText c.in-Short.is c.self.invariant).1
