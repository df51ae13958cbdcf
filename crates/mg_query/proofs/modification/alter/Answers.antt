use Rattle.std.proofs.Common.{ap, ◌∙◌}
use Rattle.std.proofs.lemmas.Result.{err_from_is_err_and}
use Rattle.mg_bson.specs.Raw.{fields}
use Rattle.mg_query.specs.Modifying.{lent_modification}
use Rattle.mg_query.proofs.Modifying.{not_encoded}
use Rattle.mg_query.proofs.modification.alter.Goals as goal

pub returns-in_err-encoded : goal.returns-in_err-encoded
returns-in_err-encoded c =
    let p = err_from_is_err_and c.from_residual-in_err-encoded.result c.from_residual-in_err-encoded.ensures.1 in
    rw (p.1, p.2) (not_encoded (lent_modification c.args.modification.now) (fields c.args.document.now) c.in_ok-tree_of.field-0 c.in_ok-document.document c.in_err-encoded.field-0.0
    (c.in_ok-tree_of.ensures ∙ ap fields c.as_raw.ensures) c.in_ok-document.ensures c.in_ok-before.ensures.short c.in_err-encoded.ensures)
