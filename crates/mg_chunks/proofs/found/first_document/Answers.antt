use Rattle.std.proofs.Common.{option_map, refl, sym, ◌∙◌, subst}
use Rattle.std.proofs.lemmas.Result.{IfErr-weaker, IfOk-weaker}
use Rattle.mg_bson.specs.Raw.{fields, items, items_left}
use Rattle.mg_bson.specs.RawView.{value}
use Rattle.mg_bson.specs.Tree.{Items, item}
use Rattle.mg_link.specs.declared.error.Error.{Error}
use Rattle.mg_chunks.specs.Found.{IsNoDocument, HasFirst, no_item}
use Rattle.mg_chunks.proofs.found.first_document.Goals as goal

pub returns-in-Some-clause-ok : goal.returns-in-Some-clause-ok
returns-in-Some-clause-ok c =
    let these = sym c.iter-left.ensures ∙ c.in-Some.ensures in
    IfOk-weaker c.document_of.result (λ o. (more : Items) → HasFirst (item (value c.in-Some.found) more) (option_map fields o)) (λ o. HasFirst (items c.args.batch.now) (option_map fields o))
    (λ o h. subst (λ (b : Items). HasFirst b (option_map fields o)) (sym these) (h (items_left c.next.new.self))) c.document_of.ensures.ok

pub returns-in-Some-clause-err : goal.returns-in-Some-clause-err
returns-in-Some-clause-err c =
    let these = sym c.iter-left.ensures ∙ c.in-Some.ensures in
    IfErr-weaker c.document_of.result (λ e. (more : Items) → IsNoDocument (item (value c.in-Some.found) more) e) (λ e. IsNoDocument (items c.args.batch.now) e)
    (λ (e : Error) h. subst (λ (b : Items). IsNoDocument b e) (sym these) (h (items_left c.next.new.self))) c.document_of.ensures.err

pub returns-in-None-clause-ok : goal.returns-in-None-clause-ok
returns-in-None-clause-ok c = no_item (sym c.iter-left.ensures ∙ c.in-None.ensures.0) refl
