use Rattle.std.proofs.Common.{◌≡◌}
use Rattle.mg_bson.specs.Find.{joined}
use Rattle.mg_bson.specs.Tree.{fields_size}
use Rattle.mg_bson.specs.Raw.{fields}
use Rattle.mg_server.specs.Rules.{set_anew}
use Rattle.mg_query.proofs.modification.set_anew.Given as goal

abbrev pub invariant-fields : goal.invariant-fields
invariant-fields l = joined l.anew (set_anew (fields l.document) l.left) ≡ set_anew (fields l.document) l.sets

abbrev pub decreases-fields : goal.decreases-fields
decreases-fields l = fields_size l.left
