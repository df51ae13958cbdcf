use Rattle.std.proofs.Common.{length}
use Rattle.mg_ops.specs.Limits.{AreStorable, SomePassLimit}
use Rattle.mg_ops.proofs.insert.check_documents.Given as goal

abbrev pub invariant-documents : goal.invariant-documents
invariant-documents l = (AreStorable l.left → AreStorable l.documents) × (SomePassLimit l.left → SomePassLimit l.documents)

abbrev pub decreases-documents : goal.decreases-documents
decreases-documents l = length l.left
