use Rattle.std.proofs.Common.{◌≡◌, [], Option, Some, None, List, option_map, refl, sym, ap, ◌∙◌, subst}
use Rattle.std.specs.Prelude.{if◌then◌else◌, unwrap_or}
use Rattle.std.proofs.lemmas.Result.{err_from_is_err_and}
use Rattle.mg_bson.specs.Tree.{Fields}
use Rattle.mg_link.specs.Namespace.{space}
use Rattle.mg_server.specs.State.{is_space}
use Rattle.mg_server.specs.Step.{documents_of}
use Rattle.mg_query.specs.Numbering.{KeepsIds, stored}
use Rattle.mg_query.specs.declared.collection.Collection.{Collection}
use Rattle.mg_store.specs.Contents.{collection_at}
use Rattle.mg_store.proofs.Committing.{does_index, nothing_done, some_of}
use Rattle.mg_store.proofs.Maps.{collections_update, found_at}
use Rattle.mg_store.proofs.content.Content.index.Goals as goal

pub returns-in-Some-clause-ok : goal.returns-in-Some-clause-ok
returns-in-Some-clause-ok c s given s' given' h leads =
    let old : Collection = c.in-Some.collection.now in
    let w : Collection = c.put_indexes.new.self in
    let is : w ≡ record old { indexes = c.args.indexes } = c.put_indexes.ensures in
    let found : collection_at c.args.self.now.collections (space c.args.ns) ≡ Some old = sym (found_at c.args.ns c.args.self.now.collections) ∙ sym c.in-Some.ensures.value in
    let there : documents_of s (space c.args.ns) ≡ stored old = ap (λ (x : Option (List Fields)). unwrap_or x []) (h.documents_are (space c.args.ns) ∙ ap (option_map stored) found) in
    let writes = c.get_mut.follows.holds w in
    let updates = writes.3 (some_of _ old c.in-Some.ensures.value) in
    does_index c.args.self.now _ s s' given given' c.args.ns c.args.indexes w h leads
    (collections_update c.args.ns w c.args.self.now.collections (c.get_mut.follows.lender w) updates)
    (ap stored is ∙ sym there) (ap (λ (x : Collection). x.indexes) is)
    (subst KeepsIds (sym is) (h.ids_are (space c.args.ns) old found)) refl refl refl

pub returns-in_err-insert-in-None-clause-err : goal.returns-in_err-insert-in-None-clause-err
returns-in_err-insert-in-None-clause-err c =
    let p = err_from_is_err_and c.from_residual.result c.from_residual.ensures.1 in
    rw p.1 (λ s given s' given' h leads. nothing_done c.args.self.now _ s given h (c.in_err-insert-in-None.ensures.err ∙ ap (λ m. m.entries) c.get_mut.follows.holds-at-none) refl refl refl)

pub returns-in_ok-insert-in-None-clause-ok : goal.returns-in_ok-insert-in-None-clause-ok
returns-in_ok-insert-in-None-clause-ok c s given s' given' h leads =
    let new : Collection = c.new-collection.result in
    let w : Collection = c.put_indexes-in-None.new.self in
    let is : w ≡ record new { indexes = c.args.indexes } = c.put_indexes-in-None.ensures in
    let none : collection_at c.args.self.now.collections (space c.args.ns) ≡ None = sym (found_at c.args.ns c.args.self.now.collections) ∙ sym c.in-None.ensures.value in
    let there : documents_of s (space c.args.ns) ≡ [] = ap (λ (x : Option (List Fields)). unwrap_or x []) (h.documents_are (space c.args.ns) ∙ ap (option_map stored) none) in
    does_index c.args.self.now _ s s' given given' c.args.ns c.args.indexes w h leads
    (λ sp. collections_update c.args.ns w c.get_mut.follows.lender-at-none c.insert.new.self c.in_ok-insert-in-None.ensures.updates sp ∙ ap (λ m. if is_space sp (space c.args.ns) then Some w else collection_at m sp) c.get_mut.follows.holds-at-none)
    (ap stored is ∙ c.new-collection.ensures.none ∙ sym there) (ap (λ (x : Collection). x.indexes) is)
    (subst KeepsIds (sym is) c.new-collection.ensures.ids) refl refl refl
