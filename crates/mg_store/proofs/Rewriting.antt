-- What updates and deletes make of the documents of a collection.
use Rattle.std.proofs.Common.{◌≡◌, ℕ, suc, ◌+◌, ◌<◌, ◌≤◌, Bool, true, false, cond, List, [], ◌∷◌, ◌++◌, length, map, take, drop, get_or, Result, Ok, Err, Option, Some, None, codes, refl, sym, ap, ap₂, ◌∙◌, subst, inl, inr, arith, append-nil, Vec}
use Rattle.std.specs.Prelude.{if◌then◌else◌, nat_le, not, ◌&&◌, ◌||◌}
use Rattle.std.specs.declared.alloc.Global.{Global}
use Rattle.std.specs.List.{AllByRecursion, filter, list_all}
use Rattle.std.specs.Str.{bytes_eq}
use Rattle.std.proofs.lemmas.Bool.{cases_Bool, and_parts, leb-true}
use Rattle.std.proofs.lemmas.List.{map-append, take-append-drop}
use Rattle.std.proofs.lemmas.List.Elements.{filter-append}
use Rattle.std.proofs.lemmas.List.Folds.{list_all-append}
use Rattle.std.proofs.Math.Seq.{take-suc}
use Rattle.std.proofs.lemmas.Slice.Eq.{bytes_eq-Decides}
use denote.Ref.{Bor}
use Rattle.mg_bson.specs.Tree.{Tree, Fields, no_fields, field}
use Rattle.mg_bson.specs.Bytes.{bytes}
use Rattle.mg_bson.specs.Find.{get, put}
use Rattle.mg_bson.specs.Raw.{fields}
use Rattle.mg_bson.specs.Writable.{max_len}
use Rattle.mg_link.specs.Namespace.{Space}
use Rattle.mg_server.specs.Filter.{Condition, matches}
use Rattle.mg_server.specs.State.{Change, Entry, deletes}
use Rattle.mg_server.specs.Commands.{may_set, KeepsId}
use Rattle.mg_server.specs.Rules.{deleted_entries, deleted_event, entry_before, events_may_be_given, may_be_given, may_stay, modified_entries, modified_event, max_document}
use Rattle.mg_server.specs.Write.{Modification, sets, puts, after_delete, after_update, change_of, changing, chosen, differs, modified, with_fields, with_id}
use Rattle.mg_query.specs.Asking.{Keyed, keyed, matches_keys}
use Rattle.mg_query.specs.Collecting.{AreDistinct, exchange_document, without_document, AreKeyed, exchange_documents, without_documents}
use Rattle.mg_query.specs.Numbering.{IsExact, IsKeyed, document_of, holds_id, is_of_id}
use Rattle.mg_query.specs.Querying.{chosen_by, lent}
use Rattle.mg_query.specs.Modifying.{AltersOr}
use Rattle.mg_query.specs.declared.collection.KeyedDocument.{KeyedDocument}
use Rattle.mg_query.specs.declared.refusal.Stop.{Stop}
use Rattle.mg_query.specs.declared.refusal.Stop.TheVariants as stops
use Rattle.mg_query.proofs.Changing.{none_changes, none_goes}
use Rattle.mg_query.proofs.Ids.{of_key, same_bytes}
use Rattle.mg_store.specs.Holding.{AreExact, IsEntryOf, change_told, entries_from, entry_at}
use Rattle.mg_store.specs.Rewriting.{AreIdsOf, AreMade, ChangesBy, ChangesOr, GivesEvent, Makes, MakesAllOr, MakesOr, Removes, RemovesAllOr, RemovesOr, all_fit, all_go, altering, one_fits}
use Rattle.mg_store.specs.declared.change.ChangeEntry.{ChangeEntry}
use Rattle.mg_store.specs.declared.rewrite.Changes.{Changes}
use Rattle.mg_store.specs.declared.rewrite.Removals.{Removals}
use Rattle.mg_store.proofs.Entries.{entries-append, exact-append, length-entries, told_entry}
use Rattle.mg_store.proofs.Seeing.{matches_by_keys}

-- ---- which documents are chosen

filter_same : (cs : List Condition) (ds : List Fields) → filter (matches_keys (map keyed cs)) ds ≡ filter (matches cs) ds
filter_same cs [] = refl
filter_same cs (d ∷ ds) = ap₂ (λ (b : Bool) (l : List Fields). cond b (d ∷ l) l) (matches_by_keys cs d) (filter_same cs ds)

pub chosen_is : (cs : List Condition) (keys : List Keyed) (many : Bool) (ds : List Fields) → keys ≡ map keyed cs → chosen_by keys many ds ≡ chosen cs many ds
chosen_is cs keys many ds e = ap (λ (ks : List Keyed). chosen_by ks many ds) e ∙ ap (λ (l : List Fields). if many then l else take 1 l) (filter_same cs ds)

-- ---- the `_id` of a document that is modified

put_other : (k l : List ℕ) (t : Tree) (fs : Fields) → bytes_eq k l ≡ false → get l (put k t fs) ≡ get l fs
put_other k l t no_fields h = ap (λ (b : Bool). if b then Some t else None) h
put_other k l t (field n u fs) h =
    elim (cases_Bool (bytes_eq n k)) [
      | inl same ↦
          let e : n ≡ k = (bytes_eq-Decides n k).0 same in
          let other : bytes_eq n l ≡ false = ap (λ (x : List ℕ). bytes_eq x l) e ∙ h in
          ap (λ (b : Bool). get l (if b then field n t fs else field n u (put k t fs))) same
          ∙ ap (λ (b : Bool). if b then Some t else get l fs) other ∙ sym (ap (λ (b : Bool). if b then Some u else get l fs) other)
      | inr differs ↦
          ap (λ (b : Bool). get l (if b then field n t fs else field n u (put k t fs))) differs
          ∙ ap (λ (o : Option Tree). if bytes_eq n l then Some u else o) (put_other k l t fs h)
    ]

not_id : (b c d : Bool) → ((if b then false else c) && d) ≡ true → (b ≡ false) × (d ≡ true)
not_id true c d h = absurd cc
not_id false c d h = (refl, (and_parts c d h).1)

set_keeps : (new fs : Fields) → may_set new ≡ true → get (codes "_id") (with_fields new fs) ≡ get (codes "_id") fs
set_keeps no_fields fs h = refl
set_keeps (field k t new) fs h =
    let parts = not_id (bytes_eq k (codes "_id")) _ (may_set new) h in
    set_keeps new (put k t fs) parts.1 ∙ put_other k (codes "_id") t fs parts.0

-- a modified document has its `_id`
pub modified_keeps : (m : Modification) (d : Fields) (id : Tree) → KeepsId m → get (codes "_id") d ≡ Some id → get (codes "_id") (modified m d) ≡ Some id
modified_keeps (sets new) d id h e = set_keeps new d h ∙ e
modified_keeps (puts new) d id h e = ap (λ (o : Option Tree). get (codes "_id") (with_id o new)) e

keyed_modified : (m : Modification) (d e : Fields) (k : List ℕ) → KeepsId m → IsKeyed k d → e ≡ modified m d → IsKeyed k e
keyed_modified m d e k keeps (id, here, is) same = (id, ap (get (codes "_id")) same ∙ modified_keeps m d id keeps here, is)

of_its_id : (k : List ℕ) (d : Fields) → IsKeyed k d → is_of_id k d ≡ true
of_its_id k d keyed = of_key k k d keyed ∙ same_bytes k

-- ---- documents of other ids

-- none of the encodings is that of the document's id
abbrev NoneIsOf : List KeyedDocument → Fields → Type 0
NoneIsOf ks d = AllByRecursion (λ (k : KeyedDocument). is_of_id k.key.items d ≡ false) ks

-- each id of these documents is among those
abbrev AreAmong : List Fields → List Fields → Type 0
AreAmong olds ds = AllByRecursion (λ (o : Fields). (k : Vec ℕ Global) → is_of_id k.items o ≡ true → holds_id k.items ds ≡ true) olds

-- no id of the document is among those
abbrev IsApart : Fields → List Fields → Type 0
IsApart d ds = (k : Vec ℕ Global) → is_of_id k.items d ≡ true → holds_id k.items ds ≡ false

not_of : (b : Bool) (k : Vec ℕ Global) (d : Fields) (ds : List Fields) → is_of_id k.items d ≡ b → IsApart d ds → holds_id k.items ds ≡ true → b ≡ false
not_of true k d ds is apart among = let bad : true ≡ false = sym among ∙ apart k is in cc
not_of false k d ds is apart among = refl

none_is_of : (m : Modification) (d : Fields) (ds olds : List Fields) (ks : List KeyedDocument) → IsApart d ds → AreAmong olds ds → AreMade m olds ks → NoneIsOf ks d
none_is_of m d ds [] [] apart among made = tt
none_is_of m d ds [] (k ∷ ks) apart among made = absurd made
none_is_of m d ds (o ∷ olds) [] apart among made = absurd made
none_is_of m d ds (o ∷ olds) (k ∷ ks) apart among made =
    let b : Bool = is_of_id k.key.items d in
    (not_of b k.key d ds refl apart (among.0 k.key (of_its_id k.key.items o made.0)), none_is_of m d ds olds ks apart among.1 made.3)

-- a document with the same id is none of them either
none_is_same : (k : List ℕ) (d e : Fields) (ks : List KeyedDocument) → IsKeyed k d → IsKeyed k e → NoneIsOf ks d → NoneIsOf ks e
none_is_same k d e [] a b h = tt
none_is_same k d e (x ∷ ks) a b h = (of_key k x.key.items e b ∙ sym (of_key k x.key.items d a) ∙ h.0, none_is_same k d e ks a b h.1)

or_true : (a b : Bool) → b ≡ true → (a || b) ≡ true
or_true true b h = refl
or_true false b h = h

or_first : (a b : Bool) → a ≡ true → (a || b) ≡ true
or_first true b h = refl
or_first false b h = absurd (let e : false ≡ true = h in cc)

among_more : (x : Fields) (olds ds : List Fields) → AreAmong olds ds → AreAmong olds (x ∷ ds)
among_more x [] ds h = tt
among_more x (o ∷ olds) ds h = (λ k is. or_true (is_of_id k.items x) (holds_id k.items ds) (h.0 k is), among_more x olds ds h.1)

among_if : (b : Bool) (d : Fields) (olds ds : List Fields) → AreAmong olds ds → AreAmong (cond b (d ∷ olds) olds) (d ∷ ds)
among_if true d olds ds h = (λ k is. or_first (is_of_id k.items d) (holds_id k.items ds) is, among_more d olds ds h)
among_if false d olds ds h = among_more d olds ds h

among_filter : (p : Fields → Bool) (ds : List Fields) → AreAmong (filter p ds) ds
among_filter p [] = tt
among_filter p (d ∷ ds) = among_if (p d) d (filter p ds) ds (among_filter p ds)

kept_if : (b : Bool) (d : Fields) (olds rest ds : List Fields) → AreAmong (d ∷ olds) ds → AreAmong rest ds → AreAmong (cond b (d ∷ rest) rest) ds
kept_if true d olds rest ds h g = (h.0, g)
kept_if false d olds rest ds h g = g

among_further : (p : Fields → Bool) (olds ds : List Fields) → AreAmong olds ds → AreAmong (filter p olds) ds
among_further p [] ds h = tt
among_further p (d ∷ olds) ds h = kept_if (p d) d olds (filter p olds) ds h (among_further p olds ds h.1)

among_first : (olds ds : List Fields) → AreAmong olds ds → AreAmong (take 1 olds) ds
among_first [] ds h = tt
among_first (o ∷ olds) ds h = (h.0, tt)

-- ---- what an update leaves

-- a document once the new ones stand in the places of those with their ids
abbrev one_with : List KeyedDocument → Fields → Fields
one_with [] d = d
one_with (k ∷ ks) d = one_with ks (if is_of_id k.key.items d then document_of k else d)

with_cons : (ks : List KeyedDocument) (d : Fields) (ds : List Fields) → exchange_documents ks (d ∷ ds) ≡ one_with ks d ∷ exchange_documents ks ds
with_cons [] d ds = refl
with_cons (k ∷ ks) d ds = with_cons ks (if is_of_id k.key.items d then document_of k else d) (exchange_document k.key.items (document_of k) ds)

one_kept : (ks : List KeyedDocument) (d : Fields) → NoneIsOf ks d → one_with ks d ≡ d
one_kept [] d h = refl
one_kept (k ∷ ks) d h = ap (λ (b : Bool). one_with ks (if b then document_of k else d)) h.0 ∙ one_kept ks d h.1

passed_over : (ks : List KeyedDocument) (d : Fields) (ds after : List Fields) → NoneIsOf ks d → exchange_documents ks ds ≡ after → exchange_documents ks (d ∷ ds) ≡ d ∷ after
passed_over ks d ds after none rest = with_cons ks d ds ∙ ap₂ (λ (x : Fields) (l : List Fields). x ∷ l) (one_kept ks d none) rest

-- the first document is changed, and the others of the list stand behind it
changed_first : (m : Modification) (k : KeyedDocument) (ks : List KeyedDocument) (d : Fields) (ds after : List Fields) → KeepsId m → IsKeyed k.key.items d → document_of k ≡ modified m d → IsApart d ds → NoneIsOf ks d → exchange_documents ks ds ≡ after
    → exchange_documents (k ∷ ks) (d ∷ ds) ≡ modified m d ∷ after
changed_first m k ks d ds after keeps keyed made apart none rest =
    let is = of_its_id k.key.items d keyed in
    let new = keyed_modified m d (document_of k) k.key.items keeps keyed made in
    ap₂ (λ (b : Bool) (l : List Fields). exchange_documents ks ((if b then document_of k else d) ∷ l)) is (none_changes k.key.items (document_of k) ds (apart k.key is))
    ∙ passed_over ks (document_of k) ds after (none_is_same k.key.items d (document_of k) ks keyed new none) rest
    ∙ ap (λ (x : Fields). x ∷ after) made

-- where the modification leaves a document's encoding, it leaves the document
abbrev LeavesEqual : Modification → List Fields → Type 0
LeavesEqual m ds = AllByRecursion (λ (d : Fields). differs d (modified m d) ≡ false → modified m d ≡ d) ds

by_difference : (e : Bool) (m : Modification) (d : Fields) (ds after gs : List Fields) (ks : List KeyedDocument) → KeepsId m → IsApart d ds → AreAmong gs ds → (e ≡ false → modified m d ≡ d)
    → ((more : List KeyedDocument) → AreMade m gs more → exchange_documents more ds ≡ after) → AreMade m (cond e (d ∷ gs) gs) ks → exchange_documents ks (d ∷ ds) ≡ modified m d ∷ after
by_difference false m d ds after gs ks keeps apart among same rest made = passed_over ks d ds after (none_is_of m d ds gs ks apart among made) (rest ks made) ∙ ap (λ (x : Fields). x ∷ after) (sym (same refl))
by_difference true m d ds after gs [] keeps apart among same rest made = absurd made
by_difference true m d ds after gs (k ∷ ks) keeps apart among same rest made =
    changed_first m k ks d ds after keeps made.0 made.1 apart (none_is_of m d ds gs ks apart among made.3) (rest ks made.3)

by_match : (b : Bool) (m : Modification) (d : Fields) (ds after fs : List Fields) (ks : List KeyedDocument) → KeepsId m → IsApart d ds → AreAmong fs ds
    → ((more : List KeyedDocument) → LeavesEqual m fs → AreMade m (altering m fs) more → exchange_documents more ds ≡ after)
    → LeavesEqual m (cond b (d ∷ fs) fs) → AreMade m (altering m (cond b (d ∷ fs) fs)) ks → exchange_documents ks (d ∷ ds) ≡ (if b then modified m d ∷ after else d ∷ after)
by_match true m d ds after fs ks keeps apart among rest same made =
    by_difference (differs d (modified m d)) m d ds after (altering m fs) ks keeps apart (among_further (λ x. differs x (modified m x)) fs ds among) same.0 (λ more these. rest more same.1 these) made
by_match false m d ds after fs ks keeps apart among rest same made =
    passed_over ks d ds after (none_is_of m d ds (altering m fs) ks apart (among_further (λ x. differs x (modified m x)) fs ds among) made) (rest ks same made)

update_all : (cs : List Condition) (m : Modification) (ds : List Fields) (ks : List KeyedDocument) → KeepsId m → AreDistinct ds → LeavesEqual m (filter (matches cs) ds) → AreMade m (altering m (filter (matches cs) ds)) ks
    → exchange_documents ks ds ≡ after_update cs true m ds
update_all cs m [] [] keeps distinct same made = refl
update_all cs m [] (k ∷ ks) keeps distinct same made = absurd made
update_all cs m (d ∷ ds) ks keeps distinct same made =
    by_match (matches cs d) m d ds (after_update cs true m ds) (filter (matches cs) ds) ks keeps distinct.0 (among_filter (matches cs) ds) (λ more equal these. update_all cs m ds more keeps distinct.1 equal these) same made

-- only the first is changed
none_made : (m : Modification) (ks : List KeyedDocument) (ds : List Fields) → AreMade m [] ks → exchange_documents ks ds ≡ ds
none_made m [] ds made = refl
none_made m (k ∷ ks) ds made = absurd made

by_first : (b : Bool) (m : Modification) (d : Fields) (ds after fs : List Fields) (ks : List KeyedDocument) → KeepsId m → IsApart d ds → AreAmong fs ds
    → ((more : List KeyedDocument) → LeavesEqual m (take 1 fs) → AreMade m (altering m (take 1 fs)) more → exchange_documents more ds ≡ after)
    → LeavesEqual m (take 1 (cond b (d ∷ fs) fs)) → AreMade m (altering m (take 1 (cond b (d ∷ fs) fs))) ks → exchange_documents ks (d ∷ ds) ≡ (if b then modified m d ∷ ds else d ∷ after)
by_first true m d ds after fs ks keeps apart among rest same made =
    by_difference (differs d (modified m d)) m d ds ds [] ks keeps apart tt same.0 (λ more these. none_made m more ds these) made
by_first false m d ds after fs ks keeps apart among rest same made =
    passed_over ks d ds after (none_is_of m d ds (altering m (take 1 fs)) ks apart (among_further (λ x. differs x (modified m x)) (take 1 fs) ds (among_first fs ds among)) made) (rest ks same made)

update_one : (cs : List Condition) (m : Modification) (ds : List Fields) (ks : List KeyedDocument) → KeepsId m → AreDistinct ds → LeavesEqual m (take 1 (filter (matches cs) ds)) → AreMade m (altering m (take 1 (filter (matches cs) ds))) ks
    → exchange_documents ks ds ≡ after_update cs false m ds
update_one cs m [] [] keeps distinct same made = refl
update_one cs m [] (k ∷ ks) keeps distinct same made = absurd made
update_one cs m (d ∷ ds) ks keeps distinct same made =
    by_first (matches cs d) m d ds (after_update cs false m ds) (filter (matches cs) ds) ks keeps distinct.0 (among_filter (matches cs) ds) (λ more equal these. update_one cs m ds more keeps distinct.1 equal these) same made

-- the new documents in their places are what stands behind the update
pub update_is : (cs : List Condition) (many : Bool) (m : Modification) (ds : List Fields) (ks : List KeyedDocument) → KeepsId m → AreDistinct ds
    → AllByRecursion (λ (d : Fields). differs d (modified m d) ≡ false → modified m d ≡ d) (chosen cs many ds) → AreMade m (changing cs many m ds) ks → exchange_documents ks ds ≡ after_update cs many m ds
update_is cs true m ds ks keeps distinct same made = update_all cs m ds ks keeps distinct same made
update_is cs false m ds ks keeps distinct same made = update_one cs m ds ks keeps distinct same made

pub made_keyed : (m : Modification) (ds : List Fields) (ks : List KeyedDocument) → KeepsId m → AreMade m ds ks → AreKeyed ks
made_keyed m [] [] keeps made = tt
made_keyed m [] (k ∷ ks) keeps made = absurd made
made_keyed m (d ∷ ds) [] keeps made = absurd made
made_keyed m (d ∷ ds) (k ∷ ks) keeps made = (keyed_modified m d (document_of k) k.key.items keeps made.0 made.1, made.2, made_keyed m ds ks keeps made.3)

pub made_length : (m : Modification) (ds : List Fields) (ks : List KeyedDocument) → AreMade m ds ks → length ks ≡ length ds
made_length m [] [] made = refl
made_length m [] (k ∷ ks) made = absurd made
made_length m (d ∷ ds) [] made = absurd made
made_length m (d ∷ ds) (k ∷ ks) made = ap suc (made_length m ds ks made.3)

-- ---- what a delete leaves

abbrev NoneIsIdOf : List (Vec ℕ Global) → Fields → Type 0
NoneIsIdOf ks d = AllByRecursion (λ (k : Vec ℕ Global). is_of_id k.items d ≡ false) ks

none_is_id : (d : Fields) (ds olds : List Fields) (ks : List (Vec ℕ Global)) → IsApart d ds → AreAmong olds ds → AreIdsOf olds ks → NoneIsIdOf ks d
none_is_id d ds [] [] apart among ids = tt
none_is_id d ds [] (k ∷ ks) apart among ids = absurd ids
none_is_id d ds (o ∷ olds) [] apart among ids = absurd ids
none_is_id d ds (o ∷ olds) (k ∷ ks) apart among ids = (not_of (is_of_id k.items d) k d ds refl apart (among.0 k (of_its_id k.items o ids.0)), none_is_id d ds olds ks apart among.1 ids.1)

stays_there : (ks : List (Vec ℕ Global)) (d : Fields) (ds after : List Fields) → NoneIsIdOf ks d → without_documents ks ds ≡ after → without_documents ks (d ∷ ds) ≡ d ∷ after
stays_there [] d ds after none rest = ap (λ (l : List Fields). d ∷ l) rest
stays_there (k ∷ ks) d ds after none rest =
    ap (λ (b : Bool). without_documents ks (cond (not b) (d ∷ without_document k.items ds) (without_document k.items ds))) none.0 ∙ stays_there ks d (without_document k.items ds) after none.1 rest

goes_first : (k : Vec ℕ Global) (ks : List (Vec ℕ Global)) (d : Fields) (ds after : List Fields) → IsKeyed k.items d → IsApart d ds → without_documents ks ds ≡ after → without_documents (k ∷ ks) (d ∷ ds) ≡ after
goes_first k ks d ds after keyed apart rest =
    let is = of_its_id k.items d keyed in
    ap (λ (b : Bool). without_documents ks (cond (not b) (d ∷ without_document k.items ds) (without_document k.items ds))) is
    ∙ ap (without_documents ks) (none_goes k.items ds (apart k is)) ∙ rest

goes_by : (b : Bool) (d : Fields) (ds after fs : List Fields) (ks : List (Vec ℕ Global)) → IsApart d ds → AreAmong fs ds → ((more : List (Vec ℕ Global)) → AreIdsOf fs more → without_documents more ds ≡ after)
    → AreIdsOf (cond b (d ∷ fs) fs) ks → without_documents ks (d ∷ ds) ≡ (if b then after else d ∷ after)
goes_by true d ds after fs [] apart among rest ids = absurd ids
goes_by true d ds after fs (k ∷ ks) apart among rest ids = goes_first k ks d ds after ids.0 apart (rest ks ids.1)
goes_by false d ds after fs ks apart among rest ids = stays_there ks d ds after (none_is_id d ds fs ks apart among ids) (rest ks ids)

delete_all : (cs : List Condition) (ds : List Fields) (ks : List (Vec ℕ Global)) → AreDistinct ds → AreIdsOf (filter (matches cs) ds) ks → without_documents ks ds ≡ after_delete cs true ds
delete_all cs [] [] distinct ids = refl
delete_all cs [] (k ∷ ks) distinct ids = absurd ids
delete_all cs (d ∷ ds) ks distinct ids = goes_by (matches cs d) d ds (after_delete cs true ds) (filter (matches cs) ds) ks distinct.0 (among_filter (matches cs) ds) (λ more these. delete_all cs ds more distinct.1 these) ids

none_of_ids : (ks : List (Vec ℕ Global)) (ds : List Fields) → AreIdsOf [] ks → without_documents ks ds ≡ ds
none_of_ids [] ds ids = refl
none_of_ids (k ∷ ks) ds ids = absurd ids

first_goes : (b : Bool) (d : Fields) (ds after fs : List Fields) (ks : List (Vec ℕ Global)) → IsApart d ds → AreAmong fs ds → ((more : List (Vec ℕ Global)) → AreIdsOf (take 1 fs) more → without_documents more ds ≡ after)
    → AreIdsOf (take 1 (cond b (d ∷ fs) fs)) ks → without_documents ks (d ∷ ds) ≡ (if b then ds else d ∷ after)
first_goes true d ds after fs [] apart among rest ids = absurd ids
first_goes true d ds after fs (k ∷ ks) apart among rest ids = goes_first k ks d ds ds ids.0 apart (none_of_ids ks ds ids.1)
first_goes false d ds after fs ks apart among rest ids = stays_there ks d ds after (none_is_id d ds (take 1 fs) ks apart (among_first fs ds among) ids) (rest ks ids)

delete_one : (cs : List Condition) (ds : List Fields) (ks : List (Vec ℕ Global)) → AreDistinct ds → AreIdsOf (take 1 (filter (matches cs) ds)) ks → without_documents ks ds ≡ after_delete cs false ds
delete_one cs [] [] distinct ids = refl
delete_one cs [] (k ∷ ks) distinct ids = absurd ids
delete_one cs (d ∷ ds) ks distinct ids = first_goes (matches cs d) d ds (after_delete cs false ds) (filter (matches cs) ds) ks distinct.0 (among_filter (matches cs) ds) (λ more these. delete_one cs ds more distinct.1 these) ids

pub delete_is : (cs : List Condition) (many : Bool) (ds : List Fields) (ks : List (Vec ℕ Global)) → AreDistinct ds → AreIdsOf (chosen cs many ds) ks → without_documents ks ds ≡ after_delete cs many ds
delete_is cs true ds ks distinct ids = delete_all cs ds ks distinct ids
delete_is cs false ds ks distinct ids = delete_one cs ds ks distinct ids

-- ---- entries

abbrev entry_with : ℕ → Space → Change → Fields → Entry
entry_with place sp change event = entry_before (suc place) sp change event

told_modified : (place : ℕ) (sp : Space) (m : Modification) (d : Fields) → change_told (modified_event place sp m d) ≡ change_of m
told_modified place sp (sets new) d = refl
told_modified place sp (puts new) d = refl

length-modified : (place : ℕ) (sp : Space) (m : Modification) (ds : List Fields) → length (modified_entries place sp m ds) ≡ length ds
length-modified place sp m [] = refl
length-modified place sp m (d ∷ ds) = ap suc (length-modified (suc place) sp m ds)

modified_append : (place : ℕ) (sp : Space) (m : Modification) (xs ys : List Fields) → modified_entries place sp m (xs ++ ys) ≡ modified_entries place sp m xs ++ modified_entries (place + length xs) sp m ys
modified_append place sp m [] ys = let e : place ≡ place + 0 = omega arith in ap (λ (n : ℕ). modified_entries n sp m ys) e
modified_append place sp m (x ∷ xs) ys =
    let e : suc place + length xs ≡ place + suc (length xs) = omega arith in
    ap (λ (l : List Entry). entry_with place sp (change_of m) (modified_event (suc place) sp m x) ∷ l) (modified_append (suc place) sp m xs ys ∙ ap (λ (n : ℕ). modified_entries (suc place) sp m xs ++ modified_entries n sp m ys) e)

length-deleted : (place : ℕ) (sp : Space) (ds : List Fields) → length (deleted_entries place sp ds) ≡ length ds
length-deleted place sp [] = refl
length-deleted place sp (d ∷ ds) = ap suc (length-deleted (suc place) sp ds)

deleted_append : (place : ℕ) (sp : Space) (xs ys : List Fields) → deleted_entries place sp (xs ++ ys) ≡ deleted_entries place sp xs ++ deleted_entries (place + length xs) sp ys
deleted_append place sp [] ys = let e : place ≡ place + 0 = omega arith in ap (λ (n : ℕ). deleted_entries n sp ys) e
deleted_append place sp (x ∷ xs) ys =
    let e : suc place + length xs ≡ place + suc (length xs) = omega arith in
    ap (λ (l : List Entry). entry_with place sp deletes (deleted_event (suc place) sp x) ∷ l) (deleted_append (suc place) sp xs ys ∙ ap (λ (n : ℕ). deleted_entries (suc place) sp xs ++ deleted_entries n sp ys) e)

-- ---- limits

and_four : (a x b y : Bool) → ((a && (x && true)) && (b && (y && true))) ≡ ((a && b) && (x && y))
and_four false x b y = refl
and_four true false false y = refl
and_four true false true y = refl
and_four true true false y = refl
and_four true true true false = refl
and_four true true true true = refl

and_no : (a b : Bool) → b ≡ false → (a && b) ≡ false
and_no true b h = h
and_no false b h = refl

and_gone : (a b x y : Bool) → (a && b) ≡ false → ((a && x) && (b && y)) ≡ false
and_gone false b x y h = refl
and_gone true false x y h = and_no x (false && y) refl
and_gone true true x y h = absurd (let e : true ≡ false = h in cc)

both : (a b : Bool) → a ≡ true → b ≡ true → (a && b) ≡ true
both true b g h = h
both false b g h = g

fit_append : (entries : ℕ) (sp : Space) (m : Modification) (xs ys : List Fields)
    → all_fit entries sp m (xs ++ ys) ≡ ((list_all may_stay (map (modified m) xs) && list_all may_stay (map (modified m) ys)) && (events_may_be_given (modified_entries entries sp m xs) && events_may_be_given (modified_entries (entries + length xs) sp m ys)))
fit_append entries sp m xs ys =
    ap₂ (λ (a b : Bool). a && b)
    (ap (list_all may_stay) (map-append (modified m) xs ys) ∙ list_all-append may_stay (map (modified m) xs) (map (modified m) ys))
    (ap events_may_be_given (modified_append entries sp m xs ys) ∙ list_all-append (λ (e : Entry). may_be_given e.event) (modified_entries entries sp m xs) (modified_entries (entries + length xs) sp m ys))

fit_push : (entries : ℕ) (sp : Space) (m : Modification) (ds : List Fields) (d : Fields) → all_fit entries sp m (ds ++ d ∷ []) ≡ (all_fit entries sp m ds && one_fits (suc (entries + length ds)) sp m d)
fit_push entries sp m ds d =
    fit_append entries sp m ds (d ∷ [])
    ∙ and_four (list_all may_stay (map (modified m) ds)) (may_stay (modified m d)) (events_may_be_given (modified_entries entries sp m ds)) (may_be_given (modified_event (suc (entries + length ds)) sp m d))

fit_no : (entries : ℕ) (sp : Space) (m : Modification) (xs ys : List Fields) → all_fit entries sp m xs ≡ false → all_fit entries sp m (xs ++ ys) ≡ false
fit_no entries sp m xs ys h = fit_append entries sp m xs ys ∙ and_gone (list_all may_stay (map (modified m) xs)) (events_may_be_given (modified_entries entries sp m xs)) _ _ h

-- where some of the documents do not fit, all of them do not
pub none_fit : (entries : ℕ) (sp : Space) (m : Modification) (front back all : List Fields) → front ++ back ≡ all → all_fit entries sp m (altering m front) ≡ false → all_fit entries sp m (altering m all) ≡ false
none_fit entries sp m front back all e h =
    ap (λ (l : List Fields). all_fit entries sp m (altering m l)) (sym e) ∙ ap (all_fit entries sp m) (filter-append (λ d. differs d (modified m d)) front back) ∙ fit_no entries sp m (altering m front) (altering m back) h

go_append : (entries : ℕ) (sp : Space) (xs ys : List Fields) → all_go entries sp (xs ++ ys) ≡ (all_go entries sp xs && all_go (entries + length xs) sp ys)
go_append entries sp xs ys = ap events_may_be_given (deleted_append entries sp xs ys) ∙ list_all-append (λ (e : Entry). may_be_given e.event) (deleted_entries entries sp xs) (deleted_entries (entries + length xs) sp ys)

pub none_go : (entries : ℕ) (sp : Space) (front back all : List Fields) → front ++ back ≡ all → all_go entries sp front ≡ false → all_go entries sp all ≡ false
none_go entries sp front back all e h = ap (all_go entries sp) (sym e) ∙ go_append entries sp front back ∙ ap (λ (b : Bool). b && all_go (entries + length front) sp back) h

-- ---- one document more

all_push : (P : Fields → Type 0) (ds : List Fields) (d : Fields) → AllByRecursion P ds → P d → AllByRecursion P (ds ++ d ∷ [])
all_push P [] d h p = (p, tt)
all_push P (x ∷ ds) d h p = (h.0, all_push P ds d h.1 p)

made_push : (m : Modification) (ds : List Fields) (ks : List KeyedDocument) (d : Fields) (k : KeyedDocument) → AreMade m ds ks → IsKeyed k.key.items d → document_of k ≡ modified m d → IsExact k.document → AreMade m (ds ++ d ∷ []) (ks ++ k ∷ [])
made_push m [] [] d k made keyed is exact = (keyed, is, exact, tt)
made_push m [] (x ∷ ks) d k made keyed is exact = absurd made
made_push m (x ∷ ds) [] d k made keyed is exact = absurd made
made_push m (x ∷ ds) (y ∷ ks) d k made keyed is exact = (made.0, made.1, made.2, made_push m ds ks d k made.3 keyed is exact)

ids_push : (ds : List Fields) (ks : List (Vec ℕ Global)) (d : Fields) (k : Vec ℕ Global) → AreIdsOf ds ks → IsKeyed k.items d → AreIdsOf (ds ++ d ∷ []) (ks ++ k ∷ [])
ids_push [] [] d k ids keyed = (keyed, tt)
ids_push [] (x ∷ ks) d k ids keyed = absurd ids
ids_push (x ∷ ds) [] d k ids keyed = absurd ids
ids_push (x ∷ ds) (y ∷ ks) d k ids keyed = (ids.0, ids_push ds ks d k ids.1 keyed)

altering_push : (m : Modification) (ds : List Fields) (d : Fields) (b : Bool) → differs d (modified m d) ≡ b → altering m (ds ++ d ∷ []) ≡ altering m ds ++ cond b (d ∷ []) []
altering_push m ds d b e = filter-append (λ x. differs x (modified m x)) ds (d ∷ []) ∙ ap (λ (x : Bool). altering m ds ++ cond x (d ∷ []) []) e

no_difference : (m : Modification) (d : Fields) → modified m d ≡ d → differs d (modified m d) ≡ false
no_difference m d e = ap (differs d) e ∙ ap (λ (b : Bool). if b then false else true) (same_bytes (bytes d))

-- a document that is left equal
pub makes_same : (entries : ℕ) (sp : Space) (m : Modification) (ds : List Fields) (d : Fields) (c : Changes) → modified m d ≡ d → Makes entries sp m ds c → Makes entries sp m (ds ++ d ∷ []) c
makes_same entries sp m ds d c e h =
    let still : altering m ds ≡ altering m (ds ++ d ∷ []) = sym (altering_push m ds d false (no_difference m d e) ∙ append-nil (altering m ds)) in
    record {
      made = subst (λ (l : List Fields). AreMade m l c.documents.items) still h.made;
      entries_are = h.entries_are ∙ ap (modified_entries entries sp m) still;
      exact = h.exact;
      fit = ap (all_fit entries sp m) (sym still) ∙ h.fit;
      same = all_push (λ (x : Fields). differs x (modified m x) ≡ false → modified m x ≡ x) ds d h.same (λ none. e);
    }

count_made : (entries : ℕ) (sp : Space) (m : Modification) (ds : List Fields) (c : Changes) → Makes entries sp m ds c → length c.entries.items ≡ length (altering m ds)
count_made entries sp m ds c h = sym (length-entries entries c.entries.items) ∙ ap length h.entries_are ∙ length-modified entries sp m (altering m ds)

-- a document that is altered, and its entry
pub makes_more : (entries place : ℕ) (sp : Space) (m : Modification) (ds : List Fields) (d : Fields) (old new : Changes) → place ≡ suc (entries + length old.entries.items) → differs d (modified m d) ≡ true → ChangesBy place sp m d old new → Makes entries sp m ds old
    → Makes entries sp m (ds ++ d ∷ []) new
makes_more entries place sp m ds d old new at differ more h =
    let more_are : altering m ds ++ d ∷ [] ≡ altering m (ds ++ d ∷ []) = sym (altering_push m ds d true differ) in
    let count = count_made entries sp m ds old h in
    let n : place ≡ suc (entries + length (altering m ds)) = at ∙ ap (λ (k : ℕ). suc (entries + k)) count in
    record {
      made = subst (λ (l : List Fields). AreMade m l new.documents.items) more_are
          (subst (AreMade m (altering m ds ++ d ∷ [])) (sym more.documents_are) (made_push m (altering m ds) old.documents.items d more.document h.made more.keyed more.made more.exact));
      entries_are = ap (entries_from entries) more.entries_are ∙ entries-append entries old.entries.items (more.entry ∷ [])
          ∙ ap₂ (λ (l : List Entry) (k : ℕ). l ++ entry_at (entries + k) more.entry ∷ []) h.entries_are count
          ∙ ap (λ (e : Entry). modified_entries entries sp m (altering m ds) ++ e ∷ [])
          (told_entry (entries + length (altering m ds)) sp (change_of m) (modified_event (suc (entries + length (altering m ds))) sp m d) more.entry (subst (λ (k : ℕ). IsEntryOf sp (modified_event k sp m d) more.entry) n more.entry_is)
          (told_modified (suc (entries + length (altering m ds))) sp m d))
          ∙ sym (modified_append entries sp m (altering m ds) (d ∷ [])) ∙ ap (modified_entries entries sp m) more_are;
      exact = subst AreExact (sym more.entries_are) (exact-append old.entries.items (more.entry ∷ []) h.exact (more.entry_is.exact, tt));
      fit = ap (all_fit entries sp m) (sym more_are) ∙ fit_push entries sp m (altering m ds) d ∙ both _ _ h.fit (ap (λ (k : ℕ). one_fits k sp m d) (sym n) ∙ more.fits);
      same = all_push (λ (x : Fields). differs x (modified m x) ≡ false → modified m x ≡ x) ds d h.same (λ none. let bad : true ≡ false = sym differ ∙ none in absurd cc);
    }

pub makes_no_more : (entries place : ℕ) (sp : Space) (m : Modification) (ds : List Fields) (d : Fields) (old : Changes) → place ≡ suc (entries + length old.entries.items) → differs d (modified m d) ≡ true → one_fits place sp m d ≡ false → Makes entries sp m ds old
    → all_fit entries sp m (altering m (ds ++ d ∷ [])) ≡ false
makes_no_more entries place sp m ds d old at differ never h =
    let n : place ≡ suc (entries + length (altering m ds)) = at ∙ ap (λ (k : ℕ). suc (entries + k)) (count_made entries sp m ds old h) in
    ap (all_fit entries sp m) (altering_push m ds d true differ) ∙ fit_push entries sp m (altering m ds) d ∙ and_no (all_fit entries sp m (altering m ds)) _ (ap (λ (k : ℕ). one_fits k sp m d) (sym n) ∙ never)

and_one : (b : Bool) → (b && true) ≡ b
and_one true = refl
and_one false = refl

count_gone : (entries : ℕ) (sp : Space) (ds : List Fields) (r : Removals) → Removes entries sp ds r → length r.entries.items ≡ length ds
count_gone entries sp ds r h = sym (length-entries entries r.entries.items) ∙ ap length h.entries_are ∙ length-deleted entries sp ds

pub removes_more : (entries place : ℕ) (sp : Space) (ds : List Fields) (d : Fields) (k : Vec ℕ Global) (entry : ChangeEntry) (old new : Removals) → place ≡ suc (entries + length old.entries.items) → IsKeyed k.items d → GivesEvent sp (deleted_event place sp d) (Ok entry)
    → new.ids.items ≡ old.ids.items ++ k ∷ [] → new.entries.items ≡ old.entries.items ++ entry ∷ [] → Removes entries sp ds old → Removes entries sp (ds ++ d ∷ []) new
removes_more entries place sp ds d k entry old new at keyed is ids es h =
    let count = count_gone entries sp ds old h in
    let n : place ≡ suc (entries + length ds) = at ∙ ap (λ (k : ℕ). suc (entries + k)) count in
    let here = subst (λ (k : ℕ). GivesEvent sp (deleted_event k sp d) (Ok entry)) n is in
    record {
      ids = subst (AreIdsOf (ds ++ d ∷ [])) (sym ids) (ids_push ds old.ids.items d k h.ids keyed);
      entries_are = ap (entries_from entries) es ∙ entries-append entries old.entries.items (entry ∷ [])
          ∙ ap₂ (λ (l : List Entry) (k : ℕ). l ++ entry_at (entries + k) entry ∷ []) h.entries_are count
          ∙ ap (λ (e : Entry). deleted_entries entries sp ds ++ e ∷ []) (told_entry (entries + length ds) sp deletes (deleted_event (suc (entries + length ds)) sp d) entry here.0 refl)
          ∙ sym (deleted_append entries sp ds (d ∷ []));
      exact = subst AreExact (sym es) (exact-append old.entries.items (entry ∷ []) h.exact (is.0.exact, tt));
      fit = go_append entries sp ds (d ∷ []) ∙ both _ _ h.fit (and_one (may_be_given (deleted_event (suc (entries + length ds)) sp d)) ∙ here.1);
    }

pub removes_no_more : (entries place : ℕ) (sp : Space) (ds : List Fields) (d : Fields) (old : Removals) → place ≡ suc (entries + length old.entries.items) → may_be_given (deleted_event place sp d) ≡ false → Removes entries sp ds old → all_go entries sp (ds ++ d ∷ []) ≡ false
removes_no_more entries place sp ds d old at never h =
    let n : place ≡ suc (entries + length ds) = at ∙ ap (λ (k : ℕ). suc (entries + k)) (count_gone entries sp ds old h) in
    go_append entries sp ds (d ∷ []) ∙ and_no (all_go entries sp ds) _ (and_one (may_be_given (deleted_event (suc (entries + length ds)) sp d)) ∙ ap (λ (k : ℕ). may_be_given (deleted_event k sp d)) (sym n) ∙ never)

pub ids_length : (ds : List Fields) (ks : List (Vec ℕ Global)) → AreIdsOf ds ks → length ks ≡ length ds
ids_length [] [] ids = refl
ids_length [] (k ∷ ks) ids = absurd ids
ids_length (d ∷ ds) [] ids = absurd ids
ids_length (d ∷ ds) (k ∷ ks) ids = ap suc (ids_length ds ks ids.1)

-- ---- the documents that are lent

pub lent_push : (ds : List (Bor (List ℕ))) (i : ℕ) (d : Bor (List ℕ)) → i < length ds → lent (take (i + 1) ds) ≡ lent (take i ds) ++ fields (get_or ds i d).now ∷ []
lent_push ds i d lt =
    let e : i + 1 ≡ suc i = omega arith in
    ap (λ (n : ℕ). lent (take n ds)) e ∙ ap lent (take-suc ds i d lt) ∙ map-append (λ (x : Bor (List ℕ)). fields x.now) (take i ds) (get_or ds i d ∷ [])

-- ---- what stops

pub removes_stop : (entries place : ℕ) (sp : Space) (ds : List Fields) (d : Fields) (old new : Removals) (stop : Stop) → place ≡ suc (entries + length old.entries.items) → GivesEvent sp (deleted_event place sp d) (Err stop) → RemovesOr entries sp ds d old new (Err stop)
removes_stop entries place sp ds d old new stops.Memory at got = tt
removes_stop entries place sp ds d old new (stops.Refused refusal) at got = λ h. (got.0, removes_no_more entries place sp ds d old at got.1 h)

pub removes_all_stop : (entries : ℕ) (sp : Space) (ds : List (Bor (List ℕ))) (i : ℕ) (d : Bor (List ℕ)) (old new : Removals) (stop : Stop) → i < length ds → Removes entries sp (lent (take i ds)) old → RemovesOr entries sp (lent (take i ds)) (fields (get_or ds i d).now) old new (Err stop)
    → RemovesAllOr entries sp (lent ds) (Err stop)
removes_all_stop entries sp ds i d old new stops.Memory lt h got = tt
removes_all_stop entries sp ds i d old new (stops.Refused refusal) lt h got =
    let g = got h in
    let all : lent (take (i + 1) ds) ++ lent (drop (i + 1) ds) ≡ lent ds = sym (map-append (λ (x : Bor (List ℕ)). fields x.now) (take (i + 1) ds) (drop (i + 1) ds)) ∙ ap lent (take-append-drop (i + 1) ds) in
    (g.0, none_go entries sp (lent (take (i + 1) ds)) (lent (drop (i + 1) ds)) (lent ds) all (ap (all_go entries sp) (lent_push ds i d lt) ∙ g.1))

pub changes_all_stop : (entries : ℕ) (sp : Space) (m : Modification) (ds : List (Bor (List ℕ))) (i : ℕ) (d : Bor (List ℕ)) (old new : Changes) (stop : Stop) → i < length ds → Makes entries sp m (lent (take i ds)) old
    → MakesOr entries sp m (lent (take i ds)) (fields (get_or ds i d).now) old new (Err stop) → MakesAllOr entries sp m (lent ds) (Err stop)
changes_all_stop entries sp m ds i d old new stops.Memory lt h got = tt
changes_all_stop entries sp m ds i d old new (stops.Refused refusal) lt h got =
    let g = got h in
    let all : lent (take (i + 1) ds) ++ lent (drop (i + 1) ds) ≡ lent ds = sym (map-append (λ (x : Bor (List ℕ)). fields x.now) (take (i + 1) ds) (drop (i + 1) ds)) ∙ ap lent (take-append-drop (i + 1) ds) in
    (g.0, none_fit entries sp m (lent (take (i + 1) ds)) (lent (drop (i + 1) ds)) (lent ds) all (ap (λ (l : List Fields). all_fit entries sp m (altering m l)) (lent_push ds i d lt) ∙ g.1))

pub makes_by : (entries place : ℕ) (sp : Space) (m : Modification) (ds : List Fields) (d : Fields) (old new : Changes) (result : Result (Unit {0}) Stop) → place ≡ suc (entries + length old.entries.items) → differs d (modified m d) ≡ true → ChangesOr place sp m d old new result → MakesOr entries sp m ds d old new result
makes_by entries place sp m ds d old new (Ok done) at differ got = λ h. makes_more entries place sp m ds d old new at differ got h
makes_by entries place sp m ds d old new (Err stops.Memory) at differ got = tt
makes_by entries place sp m ds d old new (Err (stops.Refused refusal)) at differ got = λ h. (got.0, makes_no_more entries place sp m ds d old at differ got.1 h)

-- of two documents one is shorter
differs_by_length : (d e : Fields) (b : Bool) → bytes_eq (bytes d) (bytes e) ≡ b → length (bytes d) < length (bytes e) → (if b then false else true) ≡ true
differs_by_length d e true same less = let l : length (bytes d) ≡ length (bytes e) = ap length ((bytes_eq-Decides (bytes d) (bytes e)).0 same) in let never : ⊥ = omega (arith, l, less) in absurd never
differs_by_length d e false same less = refl

-- what is too large to be encoded may not stay
too_large : (d : Fields) (b : Bool) → nat_le (length (bytes d)) max_document ≡ b → max_len < length (bytes d) → (b && may_be_given d) ≡ false
too_large d true small large = let s : length (bytes d) ≤ max_document = leb-true (length (bytes d)) max_document small in let never : ⊥ = omega (arith, s, large) in absurd never
too_large d false small large = refl

pub not_altered : (entries : ℕ) (sp : Space) (m : Modification) (ds : List Fields) (d : Fields) (old new : Changes) (stop : Stop) → AltersOr m d (Err stop) → MakesOr entries sp m ds d old new (Err stop)
not_altered entries sp m ds d old new stops.Memory got = tt
not_altered entries sp m ds d old new (stops.Refused refusal) got =
    let larger : length (bytes d) < length (bytes (modified m d)) = omega (arith, got.1, got.2) in
    let differ : differs d (modified m d) ≡ true = differs_by_length d (modified m d) (bytes_eq (bytes d) (bytes (modified m d))) refl larger in
    let place : ℕ = suc (entries + length old.entries.items) in
    let stays : may_stay (modified m d) ≡ false = too_large (modified m d) (nat_le (length (bytes (modified m d))) max_document) refl got.1 in
    λ h. (got.0, makes_no_more entries place sp m ds d old refl differ (ap (λ (b : Bool). b && may_be_given (modified_event place sp m d)) stays) h)
