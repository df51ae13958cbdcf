use Rattle.std.proofs.Common.{map, ap, ◌∙◌}
use Rattle.std.proofs.lemmas.Result.{IfOk-weaker}
use Rattle.mg_bson.specs.Raw.{fields}
use Rattle.mg_query.specs.Querying.{lent}
use Rattle.mg_query.proofs.Numbers.{lent_fields}
use Rattle.mg_query.proofs.results.all.Goals as goal

pub returns : goal.returns
returns c =
    IfOk-weaker c.copies.result _ _
    (λ r e. e
    ∙ ap lent c.as_slice.ensures.value
    ∙ lent_fields c.in_ok-lent.lent.items
    ∙ ap (map fields) c.in_ok-lent.ensures)
    c.copies.ensures
