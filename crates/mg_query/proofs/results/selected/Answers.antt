use Rattle.std.proofs.Common.{◌≡◌, List, map, subst}
use Rattle.std.specs.Prelude.{IfOk}
use Rattle.mg_bson.specs.Tree.{Fields}
use Rattle.mg_bson.specs.Raw.{fields}
use Rattle.mg_query.specs.Asking.{held}
use Rattle.mg_query.specs.Selecting.{selecting}
use Rattle.mg_query.proofs.Selecting.{same_selected}
use Rattle.mg_query.proofs.results.selected.Goals as goal

pub returns : goal.returns
returns c =
    subst (λ (l : List Fields). IfOk c.admitted.result (λ r. map fields r.items ≡ l)) (same_selected (selecting c.in_ok-selection.selection) (map held c.args.conditions.now.items) (map fields c.args.documents.now) c.in_ok-selection.ensures) c.admitted.ensures
