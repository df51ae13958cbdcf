use Rattle.std.proofs.Common.{◌≡◌, ℕ, ◌++◌, ◌∷◌, [], true, false, Bool, List, Some, map, refl, sym, ap, ◌∙◌, cond, subst}
use Rattle.std.specs.Prelude.{codes, ◌||◌}
use Rattle.std.specs.BTreeSet.{contains}
use Rattle.std.specs.Str.{bytes_eq}
use Rattle.std.proofs.lemmas.Bool.{or_from, or_left, or_right}
use Rattle.std.proofs.lemmas.List.{map-append}
use Rattle.std.proofs.lemmas.List.Folds.{list_any-append}
use Rattle.mg_bson.specs.Tree.{Tree, Fields}
use Rattle.mg_bson.specs.Bytes.{bytes}
use Rattle.mg_bson.specs.Find.{get}
use Rattle.mg_server.specs.Filter.{key}
use Rattle.mg_query.specs.Numbering.{HaveNewIds, IsExact, IsKeyed, KeepsIdsThere, document_of, holds_id, is_of_id, there, vec_cmp}
use Rattle.mg_query.specs.declared.collection.KeyedDocument.{KeyedDocument}
use Rattle.mg_query.proofs.Ids.{accept_new, accept_twice, holds_push, new_push}
use Rattle.mg_store.specs.Holding.{AreExact}
use Rattle.mg_store.specs.Inserting.{Fits, new_documents}
use Rattle.mg_store.specs.declared.change.ChangeEntry.{ChangeEntry}
use Rattle.mg_store.proofs.Entries.{exact-append}
use Rattle.mg_store.proofs.insert.Appended.accept.Goals as goal
use Rattle.mg_store.proofs.insert.Appended.accept.Goals.{After-holds, then-holds-via-then-holds, then-holds-via-else-holds+then-contains}

module _ (c : After-holds) where
  abbrev before : List Fields
  before = there c.args.collection

  abbrev docs : List Fields
  docs = new_documents c.args.self.now

  abbrev id : Tree
  id = c.in_ok-key.ensures.0

  id_is : get (codes "_id") c.args.document ≡ Some id
  id_is = c.in_ok-key.ensures.1

  key_is : c.in_ok-key.key.items ≡ key id
  key_is = c.in_ok-key.ensures.2

  held_before : KeepsIdsThere c.args.collection → c.holds.result ≡ holds_id (key id) before
  held_before keeps = c.holds.ensures keeps ∙ ap (λ (k : List ℕ). holds_id k before) key_is

  held_new : (b : Bool) → b ≡ contains vec_cmp c.args.self.now.ids c.in_ok-key.key → Fits before c.args.self.now → b ≡ holds_id (key id) docs
  held_new b is fits = is ∙ fits.ids_are c.in_ok-key.key ∙ ap (λ (k : List ℕ). holds_id k docs) key_is

  both : holds_id (key id) (before ++ docs) ≡ (holds_id (key id) before || holds_id (key id) docs)
  both = list_any-append (is_of_id (key id)) before docs

pub returns-then-holds : goal.returns-then-holds
returns-then-holds c keeps fits =
    let d = (goal.at.returns-then-holds c).After-holds in
    let found : holds_id (key (id d)) (before d ++ docs d) ≡ true =
    elim c.then-holds.branch [
      | then-holds-via-then-holds w ↦ both d ∙ or_left (holds_id (key (id d)) (before d)) (holds_id (key (id d)) (docs d)) (sym (held_before d keeps) ∙ w.if-holds.true)
      | then-holds-via-else-holds+then-contains w ↦ both d ∙ or_right (holds_id (key (id d)) (before d)) (holds_id (key (id d)) (docs d)) (sym (held_new d w.contains.result w.contains.ensures fits) ∙ w.if-contains.true)
    ] in
    (accept_twice (before d ++ docs d) c.args.document (id d) c.in_ok-bytes.ensures.1 (id_is d) found, refl)

pub returns : goal.returns
returns c keeps fits =
    let d = (goal.at.returns c).After-holds in
    let none_before : holds_id (key (id d)) (before d) ≡ false = sym (held_before d keeps) ∙ c.if-holds.false in
    let none_new : holds_id (key (id d)) (docs d) ≡ false = sym (held_new d c.contains.result c.contains.ensures fits) ∙ c.if-contains.false in
    let fresh : holds_id (key (id d)) (before d ++ docs d) ≡ false = both d ∙ or_from (holds_id (key (id d)) (before d)) (holds_id (key (id d)) (docs d)) none_before none_new in
    let adds = c.in_ok-add.ensures in
    let entry : ChangeEntry = c.in_ok-entry.entry in
    let made = c.in_ok-entry.ensures (id d) (id_is d) in
    let keyed : KeyedDocument = record { key = c.in_ok-key.key; document = c.in_ok-bytes.bytes } in
    let same : document_of keyed ≡ c.args.document = c.in_ok-bytes.ensures.2 in
    let is : IsKeyed keyed.key.items (document_of keyed) = (id d, ap (get (codes "_id")) same ∙ id_is d, key_is d) in
    let exact : IsExact keyed.document = c.in_ok-bytes.ensures.0 ∙ ap bytes (sym same) in
    let all : new_documents c.add.new.self ≡ docs d ++ document_of keyed ∷ [] = ap (map document_of) adds.documents_are ∙ map-append document_of c.args.self.now.documents.items (keyed ∷ []) in
    record {
      id = id d;
      accepted = accept_new (before d ++ docs d) c.args.document (id d) c.in_ok-bytes.ensures.1 (id_is d) fresh;
      entry = entry;
      at = made.at_is;
      event_is = made.event_is;
      entries_are = adds.entries_are;
      documents_are = all ∙ ap (λ (x : Fields). docs d ++ x ∷ []) same;
      errors_same = adds.errors_same;
      fits = record {
        ids_are = λ k. adds.ids_are k ∙ ap (cond (bytes_eq keyed.key.items k.items) true) (fits.ids_are k) ∙ sym (ap (holds_id k.items) all ∙ holds_push keyed.key.items k.items (docs d) (document_of keyed) is);
        new = subst (HaveNewIds (before d)) (sym adds.documents_are) (new_push (before d) c.args.self.now.documents.items keyed fits.new is (ap (λ (k : List ℕ). holds_id k (before d ++ docs d)) (key_is d) ∙ fresh) exact);
        exact = subst AreExact (sym adds.entries_are) (exact-append c.args.self.now.entries.items (entry ∷ []) fits.exact (made.exact, tt));
      };
    }
