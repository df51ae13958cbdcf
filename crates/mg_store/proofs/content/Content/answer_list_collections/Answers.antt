use Rattle.std.proofs.Common.{refl, map, sym, ap, ◌∙◌}
use Rattle.std.proofs.lemmas.Result.{err_from_is_err_and}
use Rattle.mg_store.proofs.Lists.{collections_found, collections_stop}
use Rattle.mg_store.proofs.content.Content.answer_list_collections.Goals as goal

pub returns-in_err-documents : goal.returns-in_err-documents
returns-in_err-documents c s given stages h order same =
    let p = err_from_is_err_and c.from_residual-in_err-documents.result c.from_residual-in_err-documents.ensures.1 in
    rw (p.1, p.2) (collections_stop c.args.self.now s given c.args.db.now stages c.args.plan.now.single c.args.plan.now.batch_size _ _ _ h order c.in_ok-listed.ensures.ordered (ap (map _) c.as_slice.ensures.value ∙ same) c.in_ok-listed.ensures.these c.in_err-documents.ensures)

pub returns : goal.returns
returns c s given stages h order same =
    c.answer_found.ensures s given _ h (sym c.in_ok-ns.ensures)
    (collections_found c.args.self.now s given c.args.db.now stages c.args.plan.now.single c.args.plan.now.batch_size _ _ _ h order c.in_ok-listed.ensures.ordered (ap (map _) c.as_slice.ensures.value ∙ same) c.in_ok-listed.ensures.these c.in_ok-documents.ensures) refl refl
