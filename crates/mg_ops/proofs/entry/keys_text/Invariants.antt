use Rattle.std.proofs.Common.{◌≡◌, []}
use Rattle.std.specs.Prelude.{string_bytes}
use Rattle.mg_bson.specs.Tree.{fields_size}
use Rattle.mg_ops.specs.Pieces.{keys_onto}
use Rattle.mg_ops.proofs.entry.keys_text.Given as goal

abbrev pub invariant-keys : goal.invariant-keys
invariant-keys l = keys_onto (string_bytes l.name) l.left ≡ keys_onto [] l.keys

abbrev pub decreases-keys : goal.decreases-keys
decreases-keys l = fields_size l.left
