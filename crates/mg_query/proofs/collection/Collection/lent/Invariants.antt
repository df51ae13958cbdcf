use Rattle.std.proofs.Common.{◌≡◌, ◌++◌, map}
use Rattle.mg_query.specs.Numbering.{stored_bytes}
use Rattle.mg_query.proofs.collection.Collection.lent.Given as goal

abbrev pub invariant-loop-document : goal.invariant-loop-document
invariant-loop-document l = map (λ d. d.now) l.lent.items ++ l.document-iterator ≡ stored_bytes l.self
