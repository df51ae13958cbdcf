use Rattle.std.proofs.Common.{◌≡◌, Some, false, is_some, map, ◌∷◌, refl, sym, ap, ◌∙◌}
use Rattle.mg_link.specs.Namespace.{space}
use Rattle.mg_server.specs.Query.{id_index, index_listed}
use Rattle.mg_query.specs.Indexing.{index_held}
use Rattle.mg_store.specs.Contents.{collection_at}
use Rattle.mg_store.proofs.Holdings.{indexes_found, indexes_missing}
use Rattle.mg_store.proofs.Maps.{found_at}
use Rattle.mg_store.proofs.content.Content.answer_list_indexes.Goals as goal

pub returns-in_default : goal.returns-in_default
returns-in_default c s given h =
    let none : is_some (collection_at c.args.self.now.collections (space c.args.ns)) ≡ false = ap is_some (sym (c.in_default.ensures.value ∙ found_at c.args.ns c.args.self.now.collections)) in
    (indexes_missing c.args.self.now s given (space c.args.ns) c.args.batch_size h none, tt)

pub returns : goal.returns
returns c s given h =
    let there : collection_at c.args.self.now.collections (space c.args.ns) ≡ Some c.in-Some.collection.now = sym (c.in-Some.ensures.value ∙ found_at c.args.ns c.args.self.now.collections) in
    c.answer_found.ensures s given _ h refl
    (indexes_found c.args.self.now s given (space c.args.ns) c.args.batch_size c.in-Some.collection.now _ h there (c.in_ok-documents.ensures ∙ ap (λ l. map index_listed (id_index ∷ map index_held l)) c.as_slice.ensures.value)) refl refl
