use Rattle.std.proofs.Common.{take}
use Rattle.mg_link.specs.Namespace.{space}
use Rattle.mg_query.specs.Modifying.{lent_modification}
use Rattle.mg_query.specs.Querying.{lent}
use Rattle.mg_store.specs.Rewriting.{Makes}
use Rattle.mg_store.proofs.rewrite.changes_of.Given as goal

abbrev pub invariant-loop-document : goal.invariant-loop-document
invariant-loop-document l = Makes l.entries (space l.ns) (lent_modification l.modification) (lent (take l.document-index l.documents)) l.changes
