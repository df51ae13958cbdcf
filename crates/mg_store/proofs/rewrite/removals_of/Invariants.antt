use Rattle.std.proofs.Common.{take}
use Rattle.mg_link.specs.Namespace.{space}
use Rattle.mg_query.specs.Querying.{lent}
use Rattle.mg_store.specs.Rewriting.{Removes}
use Rattle.mg_store.proofs.rewrite.removals_of.Given as goal

abbrev pub invariant-loop-document : goal.invariant-loop-document
invariant-loop-document l = Removes l.entries (space l.ns) (lent (take l.document-index l.documents)) l.removals
