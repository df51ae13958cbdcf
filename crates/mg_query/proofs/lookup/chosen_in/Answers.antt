use Rattle.std.proofs.Common.{◌≡◌, ℕ, List, Option, map, ◌∙◌, subst}
use Rattle.std.specs.Prelude.{IfOk, IfSome}
use Rattle.std.specs.BTreeSet.{BTreeSet}
use Rattle.mg_bson.specs.Tree.{Fields}
use Rattle.mg_query.specs.Asking.{held}
use Rattle.mg_query.specs.Collecting.{Covers, looked_up}
use Rattle.mg_query.specs.Numbering.{stored}
use Rattle.mg_query.specs.Querying.{lent}
use Rattle.mg_query.specs.Selecting.{selecting}
use Rattle.mg_query.proofs.Looking.{chosen_covered}
use Rattle.mg_query.proofs.Selecting.{same_chosen}
use Rattle.mg_query.proofs.lookup.chosen_in.Goals as goal

pub returns-in-Some : goal.returns-in-Some
returns-in-Some c keeps =
    let tests = selecting c.in_ok-selection.selection in
    let keys = map held c.args.conditions.now.items in
    let kept = c.args.collection.now in
    let numbers = c.in-Some.numbers in
    let covers = subst (λ (o : Option (BTreeSet ℕ)). IfSome o (Covers keys kept)) c.in-Some.is (c.in_ok-numbers.ensures keeps) in
    subst (λ (l : List Fields). IfOk c.chosen_among.result (λ ds. lent ds.items ≡ l)) (same_chosen tests keys c.args.many (looked_up numbers.keys kept.documents.entries) c.in_ok-selection.ensures ∙ chosen_covered keys c.args.many kept numbers keeps covers) c.chosen_among.ensures

pub returns : goal.returns
returns c keeps =
    let tests = selecting c.in_ok-selection.selection in
    let keys = map held c.args.conditions.now.items in
    subst (λ (l : List Fields). IfOk c.chosen_of_all.result (λ ds. lent ds.items ≡ l)) (same_chosen tests keys c.args.many (stored c.args.collection.now) c.in_ok-selection.ensures) c.chosen_of_all.ensures
