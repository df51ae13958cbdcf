use Rattle.std.proofs.Common.{◌≡◌, List, ◌++◌, None, Some, sym, ap, ◌∙◌}
use Rattle.mg_link.specs.Namespace.{space}
use Rattle.mg_query.specs.Numbering.{stored}
use Rattle.mg_query.specs.Collecting.{without_documents}
use Rattle.mg_query.specs.declared.collection.Collection.{Collection}
use Rattle.mg_store.specs.Contents.{collection_at}
use Rattle.mg_store.specs.declared.change.ChangeEntry.{ChangeEntry}
use Rattle.mg_store.specs.declared.content.Content.{Content}
use Rattle.mg_store.proofs.Committing.{does_nothing_to, does_rewrite, some_of}
use Rattle.mg_store.proofs.Maps.{collections_update, found_at}
use Rattle.mg_store.proofs.content.Content.remove.Goals as goal
use Rattle.mg_store.proofs.content.Content.remove.Goals.{in-Some, in-None}

pub returns-clause-ok : goal.returns-clause-ok
returns-clause-ok c s given s' given' h leads =
    let more : List ChangeEntry = c.args.removals.entries.items in
    elim c.match-get_mut.branch [
      | in-Some w ↦
          let old : Collection = w.in-Some.collection.now in
          let found : collection_at c.args.self.now.collections (space c.args.ns) ≡ Some old = sym (found_at c.args.ns c.args.self.now.collections) ∙ sym w.in-Some.ensures.value in
          let keeps = h.ids_are (space c.args.ns) old found in
          let made : Collection = w.remove_all.new.self in
          let writes = c.get_mut.follows.holds made in
          let updates = writes.3 (some_of _ old w.in-Some.ensures.value) in
          does_rewrite c.args.self.now _ s s' given given' c.args.ns (without_documents c.args.removals.ids.items) more old made h leads.0.0 leads.0.1 leads.1 found
          (λ sp. ap (λ (x : Content). collection_at x.collections sp) w.self-is ∙ collections_update c.args.ns made c.args.self.now.collections (c.get_mut.follows.lender made) updates sp)
          (w.remove_all.ensures.documents keeps ∙ ap (λ v. without_documents v.items (stored old)) c.into_parts-ids.ensures.ids) w.remove_all.ensures.indexes (w.remove_all.ensures.ids keeps)
          (c.append_reserved.ensures ∙ ap (λ (l : List ChangeEntry). l ++ c.into_parts-ids.result.1.items) (ap (λ (x : Content). x.changes.items) w.self-is ∙ c.in_ok-reserve.ensures.items) ∙ ap (λ v. c.args.self.now.changes.items ++ v.items) c.into_parts-ids.ensures.entries)
          (ap (λ (x : Content). x.cursors) w.self-is) (ap (λ (x : Content). x.given) w.self-is)
      | in-None w ↦
          let none : collection_at c.args.self.now.collections (space c.args.ns) ≡ None = sym (found_at c.args.ns c.args.self.now.collections) ∙ sym w.in-None.ensures.value in
          does_nothing_to c.args.self.now _ s s' given given' c.args.ns (without_documents c.args.removals.ids.items) more h leads.0.0 leads.0.1 leads.1 none
          (ap (λ (x : Content). x.collections) w.self-is ∙ c.get_mut.follows.holds-at-none)
          (c.append_reserved.ensures ∙ ap (λ (l : List ChangeEntry). l ++ c.into_parts-ids.result.1.items) (ap (λ (x : Content). x.changes.items) w.self-is ∙ c.in_ok-reserve.ensures.items) ∙ ap (λ v. c.args.self.now.changes.items ++ v.items) c.into_parts-ids.ensures.entries)
          (ap (λ (x : Content). x.cursors) w.self-is) (ap (λ (x : Content). x.given) w.self-is)
    ]
