use Rattle.mg_query.specs.Collecting.{looked_up}
use Rattle.mg_query.specs.Querying.{lent}
use Rattle.mg_query.specs.Selecting.{selecting}
use Rattle.mg_query.proofs.Looking.{ChosenBehind}
use Rattle.mg_query.proofs.lookup.chosen_among.Given as goal

abbrev pub invariant-loop-number : goal.invariant-loop-number
invariant-loop-number l = ChosenBehind (selecting l.selection) l.many (lent l.chosen.items) (looked_up l.number-iterator l.collection.documents.entries) (looked_up l.numbers.keys l.collection.documents.entries)
