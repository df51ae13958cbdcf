use Rattle.std.proofs.Common.{map}
use Rattle.mg_bson.specs.Raw.{fields}
use Rattle.mg_query.specs.Numbering.{stored}
use Rattle.mg_query.specs.Querying.{lent}
use Rattle.mg_query.specs.Selecting.{selecting}
use Rattle.mg_query.proofs.Looking.{ChosenBehind}
use Rattle.mg_query.proofs.lookup.chosen_of_all.Given as goal

abbrev pub invariant-loop-document : goal.invariant-loop-document
invariant-loop-document l = ChosenBehind (selecting l.selection) l.many (lent l.chosen.items) (map fields l.document-iterator) (stored l.collection)
