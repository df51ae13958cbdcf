use Rattle.std.proofs.Common.{Err, take, subst}
use Rattle.std.proofs.lemmas.Result.{err_from_is_err_and}
use Rattle.mg_bson.specs.Raw.{fields}
use Rattle.mg_link.specs.Namespace.{space}
use Rattle.mg_query.specs.Modifying.{lent_modification}
use Rattle.mg_query.specs.Querying.{lent}
use Rattle.mg_store.specs.Rewriting.{MakesOr}
use Rattle.mg_store.proofs.Rewriting.{changes_all_stop}
use Rattle.mg_store.proofs.rewrite.changes_of.Goals as goal

pub returns-in_err-take : goal.returns-in_err-take
returns-in_err-take c =
    let p = err_from_is_err_and c.from_residual.result c.from_residual.ensures.1 in
    rw (p.1, p.2) (changes_all_stop c.args.entries (space c.args.ns.now) (lent_modification c.args.modification.now) c.args.documents.now c.loop-document.document-index c.document-item.result c.loop-document.changes c.take.new.self c.in_err-take.field-0.0 c.loop-document-test.true c.loop-document.invariant
    (subst (λ x. MakesOr c.args.entries (space c.args.ns.now) (lent_modification c.args.modification.now) (lent (take c.loop-document.document-index c.args.documents.now)) (fields x.now) c.loop-document.changes c.take.new.self (Err c.in_err-take.field-0.0)) c.document-item.is
    (c.in_err-take.ensures (lent (take c.loop-document.document-index c.args.documents.now)))))
