use Rattle.std.proofs.Common.{◌≡◌, length, is_some}
use Rattle.mg_bson.specs.Raw.{AreFields}
use Rattle.mg_bson.specs.Spans.{documents_left}
use Rattle.mg_bson.proofs.span.are_documents.Given as goal

abbrev pub invariant-loop-element : goal.invariant-loop-element
invariant-loop-element l = record { read : AreFields l.left; same : is_some (documents_left l.left) ≡ is_some (documents_left l.elements) }

abbrev pub decreases-loop-element : goal.decreases-loop-element
decreases-loop-element l = length l.left
