-- The documents of an insert, taken one after another.
use Rattle.std.proofs.Common.{◌≡◌, ℕ, suc, ◌+◌, ℤ, Bool, true, false, List, [], ◌∷◌, ◌++◌, length, map, Result, Ok, Err, refl, sym, ap, ap₂, ◌∙◌, subst, arith, append_assoc, append-nil, length-append}
use Rattle.std.specs.Prelude.{if◌then◌else◌}
use Rattle.std.specs.BTreeSet.{contains}
use Rattle.mg_bson.specs.Tree.{Tree, Fields, document, Items, no_items}
use Rattle.mg_bson.specs.Find.{with_item, items_joined}
use Rattle.mg_bson.proofs.Joining.{items_joined_more, items_joined_all}
use Rattle.mg_link.specs.Namespace.{Space}
use Rattle.mg_server.specs.State.{Entry}
use Rattle.mg_server.specs.Rules.{accept, choose, insert_entry, Inserted, inserting, no_more, with_document, with_error, write_error}
use Rattle.mg_query.specs.Numbering.{HaveNewIds, document_of, holds_id, vec_cmp}
use Rattle.mg_store.specs.Holding.{AreExact, entries_from, entry_at, change_told}
use Rattle.mg_store.specs.Inserting.{Accepts, Appends, Fits, Lists, Rejects, Takes, new_documents}
use Rattle.mg_store.specs.declared.change.ChangeEntry.{ChangeEntry}
use Rattle.mg_store.specs.declared.insert.Appended.{Appended}
use Rattle.mg_store.proofs.Entries.{entries-append}

-- what the rules make of the documents that are left
abbrev pub rest_of : Space → Bool → (entries index : ℕ) → List Fields → Appended → List Fields → Inserted
rest_of s ordered entries index before a ds = inserting s ordered index (entries + length a.entries.items) (before ++ new_documents a) ds

-- what was appended, and what is left of the insert
pub record Going (s : Space) (ordered : Bool) (entries index : ℕ) (before : List Fields) (a : Appended) (ds : List Fields) (i : Inserted) : Type 0 where
  pub documents_are : new_documents a ++ (rest_of s ordered entries index before a ds).documents ≡ i.documents
  pub entries_are : entries_from entries a.entries.items ++ (rest_of s ordered entries index before a ds).entries ≡ i.entries
  pub errors_are : items_joined a.errors (rest_of s ordered entries index before a ds).errors ≡ i.errors
  pub fits : Fits before a

pub insert_begins : (s : Space) (ordered : Bool) (entries : ℕ) (before : List Fields) (a : Appended) (ds : List Fields) → new_documents a ≡ [] → a.entries.items ≡ [] → a.errors ≡ no_items → Fits before a
    → Going s ordered entries 0 before a ds (inserting s ordered 0 entries before ds)
insert_begins s ordered entries before a ds none no_entries no_errors fits =
    let place : entries + length a.entries.items ≡ entries = ap (λ (l : List ChangeEntry). entries + length l) no_entries ∙ omega arith in
    let docs : before ++ new_documents a ≡ before = ap (λ (l : List Fields). before ++ l) none ∙ append-nil before in
    let same : rest_of s ordered entries 0 before a ds ≡ inserting s ordered 0 entries before ds = ap₂ (λ (p : ℕ) (l : List Fields). inserting s ordered 0 p l ds) place docs in
    record {
      documents_are = ap₂ (λ (l : List Fields) (i : Inserted). l ++ i.documents) none same;
      entries_are = ap₂ (λ (l : List ChangeEntry) (i : Inserted). entries_from entries l ++ i.entries) no_entries same;
      errors_are = ap₂ (λ (e : Items) (i : Inserted). items_joined e i.errors) no_errors same;
      fits = fits;
    }

inserting_ok : (s : Space) (ordered : Bool) (index place : ℕ) (there : List Fields) (d : Fields) (ds : List Fields) (id : Tree) → accept there d ≡ Ok id
    → inserting s ordered index place there (d ∷ ds) ≡ with_document d (insert_entry (suc place) s id d) (inserting s ordered (suc index) (suc place) (there ++ d ∷ []) ds)
unfolding inserting
inserting_ok s ordered index place there d ds id e =
    ap (λ (r : Result Tree ℤ). choose r (λ i. with_document d (insert_entry (suc place) s i d) (inserting s ordered (suc index) (suc place) (there ++ d ∷ []) ds))
    (λ code. with_error index code (if ordered then no_more else inserting s ordered (suc index) place there ds))) e

inserting_err : (s : Space) (ordered : Bool) (index place : ℕ) (there : List Fields) (d : Fields) (ds : List Fields) (code : ℤ) → accept there d ≡ Err code
    → inserting s ordered index place there (d ∷ ds) ≡ with_error index code (if ordered then no_more else inserting s ordered (suc index) place there ds)
unfolding inserting
inserting_err s ordered index place there d ds code e =
    ap (λ (r : Result Tree ℤ). choose r (λ i. with_document d (insert_entry (suc place) s i d) (inserting s ordered (suc index) (suc place) (there ++ d ∷ []) ds))
    (λ c. with_error index c (if ordered then no_more else inserting s ordered (suc index) place there ds))) e

inserting_none : (s : Space) (ordered : Bool) (index place : ℕ) (there : List Fields) → inserting s ordered index place there [] ≡ no_more
unfolding inserting
inserting_none s ordered index place there = refl

pub insert_accepts : (s : Space) (ordered : Bool) (entries index next : ℕ) (before : List Fields) (a b : Appended) (d : Fields) (ds : List Fields) (i : Inserted) → next ≡ index + 1
    → Accepts before (suc (entries + length a.entries.items)) s d a b → Going s ordered entries index before a (d ∷ ds) i → Going s ordered entries next before b ds i
insert_accepts s ordered entries index next before a b d ds i number got h =
    let place : ℕ = entries + length a.entries.items in
    let e : Entry = insert_entry (suc place) s got.id d in
    let later : suc index ≡ next = omega arith in
    let more : suc place ≡ entries + length b.entries.items = omega (arith, ap (λ (l : List ChangeEntry). length l) got.entries_are, length-append a.entries.items (got.entry ∷ [])) in
    let docs : (before ++ new_documents a) ++ d ∷ [] ≡ before ++ new_documents b = append_assoc before (new_documents a) (d ∷ []) ∙ ap (λ (l : List Fields). before ++ l) (sym got.documents_are) in
    let rest : Inserted = inserting s ordered (suc index) (suc place) ((before ++ new_documents a) ++ d ∷ []) ds in
    let same : rest ≡ rest_of s ordered entries next before b ds =
    ap₂ (λ (n p : ℕ). inserting s ordered n p ((before ++ new_documents a) ++ d ∷ []) ds) later more ∙ ap (λ (l : List Fields). inserting s ordered next (entries + length b.entries.items) l ds) docs in
    let here : rest_of s ordered entries index before a (d ∷ ds) ≡ with_document d e (rest_of s ordered entries next before b ds) = inserting_ok s ordered index place (before ++ new_documents a) d ds got.id got.accepted ∙ ap (with_document d e) same in
    let logged : entry_at place got.entry ≡ e = ap₂ (λ (sp : Space) (ev : Fields). record e { space = sp; change = change_told ev; event = ev }) got.at got.event_is in
    record {
      documents_are = ap (λ (l : List Fields). l ++ (rest_of s ordered entries next before b ds).documents) got.documents_are ∙ append_assoc (new_documents a) (d ∷ []) (rest_of s ordered entries next before b ds).documents
          ∙ sym (ap (λ (x : Inserted). new_documents a ++ x.documents) here) ∙ h.documents_are;
      entries_are = ap (λ (l : List ChangeEntry). entries_from entries l ++ (rest_of s ordered entries next before b ds).entries) got.entries_are
          ∙ ap (λ (l : List Entry). l ++ (rest_of s ordered entries next before b ds).entries) (entries-append entries a.entries.items (got.entry ∷ []))
          ∙ append_assoc (entries_from entries a.entries.items) (entry_at place got.entry ∷ []) (rest_of s ordered entries next before b ds).entries
          ∙ ap (λ (x : Entry). entries_from entries a.entries.items ++ x ∷ (rest_of s ordered entries next before b ds).entries) logged
          ∙ sym (ap (λ (x : Inserted). entries_from entries a.entries.items ++ x.entries) here) ∙ h.entries_are;
      errors_are = ap (λ (x : Items). items_joined x (rest_of s ordered entries next before b ds).errors) got.errors_same ∙ sym (ap (λ (x : Inserted). items_joined a.errors x.errors) here) ∙ h.errors_are;
      fits = got.fits;
    }

fits_same : (before : List Fields) (a b : Appended) (e : Fields) → Lists e a b → Fits before a → Fits before b
fits_same before a b e l h =
    record {
      ids_are = λ k. ap (λ m. contains vec_cmp m k) l.ids_same ∙ h.ids_are k ∙ ap (λ ds. holds_id k.items (map document_of ds.items)) (sym l.documents_same);
      new = subst (λ ds. HaveNewIds before ds.items) (sym l.documents_same) h.new;
      exact = subst (λ es. AreExact es.items) (sym l.entries_same) h.exact;
    }

-- the error was listed, and the others go on
pub insert_refuses : (s : Space) (entries index next : ℕ) (before : List Fields) (a b : Appended) (d : Fields) (ds : List Fields) (i : Inserted) → next ≡ index + 1
    → Rejects before index d a b → Going s false entries index before a (d ∷ ds) i → Going s false entries next before b ds i
insert_refuses s entries index next before a b d ds i number got h =
    let l = got.lists in
    let later : suc index ≡ next = omega arith in
    let docs : new_documents b ≡ new_documents a = ap (λ ds. map document_of ds.items) l.documents_same in
    let es : b.entries.items ≡ a.entries.items = ap (λ es. es.items) l.entries_same in
    let rest : Inserted = inserting s false (suc index) (entries + length a.entries.items) (before ++ new_documents a) ds in
    let same : rest ≡ rest_of s false entries next before b ds =
    ap (λ (n : ℕ). inserting s false n (entries + length a.entries.items) (before ++ new_documents a) ds) later
    ∙ sym (ap₂ (λ (xs : List ChangeEntry) (ys : List Fields). inserting s false next (entries + length xs) (before ++ ys) ds) es docs) in
    let here : rest_of s false entries index before a (d ∷ ds) ≡ with_error index got.code (rest_of s false entries next before b ds) =
    inserting_err s false index (entries + length a.entries.items) (before ++ new_documents a) d ds got.code got.refused ∙ ap (with_error index got.code) same in
    record {
      documents_are = ap (λ (x : List Fields). x ++ (rest_of s false entries next before b ds).documents) docs ∙ sym (ap (λ (x : Inserted). new_documents a ++ x.documents) here) ∙ h.documents_are;
      entries_are = ap (λ (x : List ChangeEntry). entries_from entries x ++ (rest_of s false entries next before b ds).entries) es ∙ sym (ap (λ (x : Inserted). entries_from entries a.entries.items ++ x.entries) here) ∙ h.entries_are;
      errors_are = ap (λ (x : Items). items_joined x (rest_of s false entries next before b ds).errors) l.errors_are ∙ items_joined_more a.errors (document (write_error index got.code)) (rest_of s false entries next before b ds).errors
          ∙ sym (ap (λ (x : Inserted). items_joined a.errors x.errors) here) ∙ h.errors_are;
      fits = fits_same before a b (write_error index got.code) l h.fits;
    }

pub insert_goes : (s : Space) (ordered taken : Bool) (entries index next : ℕ) (before : List Fields) (a b : Appended) (d : Fields) (ds : List Fields) (i : Inserted) → (ordered ≡ true → taken ≡ true) → next ≡ index + 1
    → Takes before (suc (entries + length a.entries.items)) index s d a b taken → Going s ordered entries index before a (d ∷ ds) i → Going s ordered entries next before b ds i
insert_goes s ordered true entries index next before a b d ds i goes_on number got h = insert_accepts s ordered entries index next before a b d ds i number got h
insert_goes s true false entries index next before a b d ds i goes_on number got h = let bad : false ≡ true = goes_on refl in absurd cc
insert_goes s false false entries index next before a b d ds i goes_on number got h = insert_refuses s entries index next before a b d ds i number got h

-- the error of an ordered insert ends it
pub insert_stops : (s : Space) (ordered : Bool) (entries index : ℕ) (before : List Fields) (a b : Appended) (d : Fields) (ds : List Fields) (i : Inserted) → ordered ≡ true → Rejects before index d a b → Going s ordered entries index before a (d ∷ ds) i → Appends before entries i b
insert_stops s ordered entries index before a b d ds i is got h =
    let l = got.lists in
    let rest : Inserted = inserting s ordered (suc index) (entries + length a.entries.items) (before ++ new_documents a) ds in
    let docs : new_documents b ≡ new_documents a = ap (λ ds. map document_of ds.items) l.documents_same in
    let es : b.entries.items ≡ a.entries.items = ap (λ es. es.items) l.entries_same in
    let here : rest_of s ordered entries index before a (d ∷ ds) ≡ with_error index got.code no_more =
    inserting_err s ordered index (entries + length a.entries.items) (before ++ new_documents a) d ds got.code got.refused ∙ ap (λ (x : Bool). with_error index got.code (if x then no_more else rest)) is in
    record {
      documents_are = docs ∙ sym (append-nil (new_documents a)) ∙ sym (ap (λ (x : Inserted). new_documents a ++ x.documents) here) ∙ h.documents_are;
      entries_are = ap (entries_from entries) es ∙ sym (append-nil (entries_from entries a.entries.items)) ∙ sym (ap (λ (x : Inserted). entries_from entries a.entries.items ++ x.entries) here) ∙ h.entries_are;
      errors_are = l.errors_are ∙ sym (items_joined_all (with_item a.errors (document (write_error index got.code)))) ∙ items_joined_more a.errors (document (write_error index got.code)) no_items
          ∙ sym (ap (λ (x : Inserted). items_joined a.errors x.errors) here) ∙ h.errors_are;
      fits = fits_same before a b (write_error index got.code) l h.fits;
    }

-- no document is left
pub insert_ends : (s : Space) (ordered : Bool) (entries index : ℕ) (before : List Fields) (a : Appended) (ds : List Fields) (i : Inserted) → ds ≡ [] → Going s ordered entries index before a ds i → Appends before entries i a
insert_ends s ordered entries index before a ds i none h =
    let here : rest_of s ordered entries index before a ds ≡ no_more = ap (rest_of s ordered entries index before a) none ∙ inserting_none s ordered index (entries + length a.entries.items) (before ++ new_documents a) in
    record {
      documents_are = sym (append-nil (new_documents a)) ∙ sym (ap (λ (x : Inserted). new_documents a ++ x.documents) here) ∙ h.documents_are;
      entries_are = sym (append-nil (entries_from entries a.entries.items)) ∙ sym (ap (λ (x : Inserted). entries_from entries a.entries.items ++ x.entries) here) ∙ h.entries_are;
      errors_are = sym (items_joined_all a.errors) ∙ sym (ap (λ (x : Inserted). items_joined a.errors x.errors) here) ∙ h.errors_are;
      fits = h.fits;
    }
