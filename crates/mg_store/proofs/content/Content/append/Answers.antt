use Rattle.std.proofs.Common.{◌≡◌, List, [], ◌++◌, map, Option, Some, None, option_map, refl, sym, ap, ◌∙◌, subst}
use Rattle.std.specs.declared.alloc.Global.{Global}
use Rattle.std.specs.Prelude.{if◌then◌else◌, unwrap_or, Vec}
use Rattle.std.proofs.lemmas.Result.{err_from_is_err_and}
use Rattle.mg_bson.specs.Tree.{Fields}
use Rattle.mg_link.specs.Namespace.{space}
use Rattle.mg_server.specs.State.{is_space}
use Rattle.mg_server.specs.Step.{documents_of}
use Rattle.mg_query.specs.Numbering.{HaveNewIds, indexed, stored}
use Rattle.mg_query.specs.Indexing.{index_held}
use Rattle.mg_query.specs.declared.collection.Collection.{Collection}
use Rattle.mg_query.specs.declared.collection.KeyedDocument.{KeyedDocument}
use Rattle.mg_store.specs.Contents.{Leads, collection_at}
use Rattle.mg_store.specs.Inserting.{new_documents}
use Rattle.mg_store.specs.declared.change.ChangeEntry.{ChangeEntry}
use Rattle.mg_store.specs.declared.insert.Appended.{Appended}
use Rattle.mg_store.specs.declared.content.Content.{Content}
use Rattle.mg_store.specs.declared.content.Effect.TheVariants.{Insert}
use Rattle.mg_store.proofs.Committing.{does_insert, insert_undone, nothing_done, some_of}
use Rattle.mg_store.proofs.Maps.{collections_update, found_at}
use Rattle.mg_store.proofs.content.Content.append.Goals as goal
use Rattle.mg_store.proofs.content.Content.append.Goals.{in-Some+in_ok-append-in-Some, in-None+in_ok-append-in-None+in_ok-insert-in-None}

-- what is to be appended, of its parts
of_parts : (a : Appended) (documents : Vec KeyedDocument Global) (entries : Vec ChangeEntry Global) → documents ≡ a.documents → entries ≡ a.entries → a ≡ record a { documents = documents; entries = entries }
of_parts a documents entries p q = ap (λ (x : Vec KeyedDocument Global). record a { documents = x }) (sym p) ∙ ap (λ (x : Vec ChangeEntry Global). record a { documents = documents; entries = x }) (sym q)

pub returns-in_err-append-in-Some-clause-err : goal.returns-in_err-append-in-Some-clause-err
returns-in_err-append-in-Some-clause-err c =
    let p = err_from_is_err_and c.from_residual-in_err-append-in-Some.result c.from_residual-in_err-append-in-Some.ensures.1 in
    rw p.1 (λ s given s' given' h does.
    let a : Appended = record c.args.appended { documents = c.into_parts-documents.result.0; entries = c.into_parts-documents.result.1 } in
    let d = subst (λ (x : Appended). Leads (Insert c.args.ns x) s given s' given') (of_parts c.args.appended a.documents a.entries c.into_parts-documents.ensures.documents c.into_parts-documents.ensures.entries) does in
    let old : Collection = c.in-Some.collection.now in
    let found : collection_at c.args.self.now.collections (space c.args.ns) ≡ Some old = sym (found_at c.args.ns c.args.self.now.collections) ∙ sym c.in-Some.ensures.value in
    let there : documents_of s (space c.args.ns) ≡ stored old = ap (λ (x : Option (List Fields)). unwrap_or x []) (h.documents_are (space c.args.ns) ∙ ap (option_map stored) found) in
    let keeps = h.ids_are (space c.args.ns) old found in
    let new = subst (λ (l : List Fields). HaveNewIds l a.documents.items) there d.0.0.new in
    let w : Collection = c.append.new.self in
    let writes = c.get_mut.follows.holds w in
    let updates = writes.3 (some_of _ old c.in-Some.ensures.value) in
    insert_undone c.args.self.now _ s given c.args.ns old w h found (collections_update c.args.ns w c.args.self.now.collections (c.get_mut.follows.lender w) updates) (c.in_err-append-in-Some.ensures.err keeps new) c.append.ensures.indexes
    (c.append.ensures.ids keeps new)
    c.in_ok-reserve.ensures.items refl refl)

pub returns-in_err-append-in-None-clause-err : goal.returns-in_err-append-in-None-clause-err
returns-in_err-append-in-None-clause-err c =
    let p = err_from_is_err_and c.from_residual-in_err-append-in-None.result c.from_residual-in_err-append-in-None.ensures.1 in
    rw p.1 (λ s given s' given' h does. nothing_done c.args.self.now _ s given h (ap (λ m. m.entries) c.get_mut.follows.holds-at-none) c.in_ok-reserve.ensures.items refl refl)

pub returns-in_err-insert-in-None-clause-err : goal.returns-in_err-insert-in-None-clause-err
returns-in_err-insert-in-None-clause-err c =
    let p = err_from_is_err_and c.from_residual-in_err-insert-in-None.result c.from_residual-in_err-insert-in-None.ensures.1 in
    rw p.1 (λ s given s' given' h does. nothing_done c.args.self.now _ s given h (c.in_err-insert-in-None.ensures.err ∙ ap (λ m. m.entries) c.get_mut.follows.holds-at-none) c.in_ok-reserve.ensures.items refl refl)

pub returns-clause-ok : goal.returns-clause-ok
returns-clause-ok c s given s' given' h does =
    let a : Appended = record c.args.appended { documents = c.into_parts-documents.result.0; entries = c.into_parts-documents.result.1 } in
    let d = subst (λ (x : Appended). Leads (Insert c.args.ns x) s given s' given') (of_parts c.args.appended a.documents a.entries c.into_parts-documents.ensures.documents c.into_parts-documents.ensures.entries) does in
    elim c.match-get_mut.branch [
      | in-Some+in_ok-append-in-Some w ↦
          let old : Collection = w.in-Some.collection.now in
          let found : collection_at c.args.self.now.collections (space c.args.ns) ≡ Some old = sym (found_at c.args.ns c.args.self.now.collections) ∙ sym w.in-Some.ensures.value in
          let there : documents_of s (space c.args.ns) ≡ stored old = ap (λ (x : Option (List Fields)). unwrap_or x []) (h.documents_are (space c.args.ns) ∙ ap (option_map stored) found) in
          let keeps = h.ids_are (space c.args.ns) old found in
          let new = subst (λ (l : List Fields). HaveNewIds l a.documents.items) there d.0.0.new in
          let made : Collection = w.append.new.self in
          let writes = c.get_mut.follows.holds made in
          let updates = writes.3 (some_of _ old w.in-Some.ensures.value) in
          does_insert c.args.self.now _ s s' given given' c.args.ns a made h d
          (λ sp. ap (λ (x : Content). collection_at x.collections sp) w.self-is ∙ collections_update c.args.ns made c.args.self.now.collections (c.get_mut.follows.lender made) updates sp)
          (w.in_ok-append-in-Some.ensures.ok keeps new ∙ ap (λ (l : List Fields). l ++ new_documents a) (sym there))
          (ap (λ v. map index_held v.items) w.append.ensures.indexes ∙ ap indexed (sym found))
          (w.append.ensures.ids keeps new)
          (c.append_reserved.ensures ∙ ap (λ (l : List ChangeEntry). l ++ a.entries.items) (ap (λ (x : Content). x.changes.items) w.self-is ∙ c.in_ok-reserve.ensures.items))
          (ap (λ (x : Content). x.cursors) w.self-is) (ap (λ (x : Content). x.given) w.self-is)
      | in-None+in_ok-append-in-None+in_ok-insert-in-None w ↦
          let none : collection_at c.args.self.now.collections (space c.args.ns) ≡ None = sym (found_at c.args.ns c.args.self.now.collections) ∙ sym w.in-None.ensures.value in
          let there : documents_of s (space c.args.ns) ≡ [] = ap (λ (x : Option (List Fields)). unwrap_or x []) (h.documents_are (space c.args.ns) ∙ ap (option_map stored) none) in
          let empty = w.new-collection.ensures in
          let new = subst (λ (l : List Fields). HaveNewIds l a.documents.items) (there ∙ sym empty.none) d.0.0.new in
          let made : Collection = w.append-in-None.new.self in
          does_insert c.args.self.now _ s s' given given' c.args.ns a made h d
          (λ sp. ap (λ (x : Content). collection_at x.collections sp) w.self-is ∙ collections_update c.args.ns made c.get_mut.follows.lender-at-none w.insert.new.self w.in_ok-insert-in-None.ensures.updates sp
          ∙ ap (λ m. if is_space sp (space c.args.ns) then Some made else collection_at m sp) c.get_mut.follows.holds-at-none)
          (w.in_ok-append-in-None.ensures.ok empty.ids new ∙ ap (λ (l : List Fields). l ++ new_documents a) (empty.none ∙ sym there))
          (ap (λ v. map index_held v.items) w.append-in-None.ensures.indexes ∙ ap (map index_held) empty.no_indexes ∙ ap indexed (sym none))
          (w.append-in-None.ensures.ids empty.ids new)
          (c.append_reserved.ensures ∙ ap (λ (l : List ChangeEntry). l ++ a.entries.items) (ap (λ (x : Content). x.changes.items) w.self-is ∙ c.in_ok-reserve.ensures.items))
          (ap (λ (x : Content). x.cursors) w.self-is) (ap (λ (x : Content). x.given) w.self-is)
    ]
