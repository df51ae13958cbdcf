use Rattle.std.proofs.Common.{◌≡◌, refl, map, ap, ◌∙◌}
use Rattle.std.proofs.lemmas.Result.{err_from_is_err_and}
use Rattle.std.specs.Option.{option_copied}
use Rattle.mg_link.specs.Namespace.{space}
use Rattle.mg_store.specs.Contents.{collection_at}
use Rattle.mg_store.proofs.Finding.{collection_found, find_stops}
use Rattle.mg_store.proofs.Holdings.{keeps_there, there_is}
use Rattle.mg_store.proofs.Maps.{found_at}
use Rattle.mg_store.proofs.content.Content.answer_find.Goals as goal

pub returns-in_err-documents : goal.returns-in_err-documents
returns-in_err-documents c s given stages h same =
    let p = err_from_is_err_and c.from_residual.result c.from_residual.ensures.1 in
    let found : option_copied c.get.result ≡ collection_at c.args.self.now.collections (space c.args.ns) = c.get.ensures.value ∙ found_at c.args.ns c.args.self.now.collections in
    let keeps = keeps_there c.args.self.now s given (space c.args.ns) c.get.result h found in
    rw (p.1, p.2) (find_stops s given (space c.args.ns) stages c.args.plan.now.single c.args.plan.now.batch_size _ _ _ (ap (map _) c.as_slice.ensures.value ∙ same) (there_is c.args.self.now s given (space c.args.ns) c.get.result h found) (c.in_err-documents.ensures keeps))

pub returns : goal.returns
returns c s given stages h same =
    let found : option_copied c.get.result ≡ collection_at c.args.self.now.collections (space c.args.ns) = c.get.ensures.value ∙ found_at c.args.ns c.args.self.now.collections in
    let keeps = keeps_there c.args.self.now s given (space c.args.ns) c.get.result h found in
    c.answer_found.ensures s given _ h refl (collection_found s (space c.args.ns) stages c.args.plan.now.single c.args.plan.now.batch_size _ _ _ (ap (map _) c.as_slice.ensures.value ∙ same) (there_is c.args.self.now s given (space c.args.ns) c.get.result h found) (c.in_ok-documents.ensures keeps)) refl refl
