-- What a command does to the content, and to the state that it is.
use Rattle.std.proofs.Common.{◌≡◌, ℕ, ℤ, pos, ◌+◌, Bool, true, false, cond, List, [], ◌∷◌, ◌++◌, length, map, drop, get_or, ◌<◌, Option, Some, None, option_map, refl, sym, ap, ap₂, ◌∙◌, subst, arith, ◌-◌, ◌^◌, ◌≤◌, ◌⊎◌, inl, inr, zero, suc}
use Rattle.std.specs.Prelude.{IsSome, if◌then◌else◌, ◌||◌, Vec, min}
use Rattle.std.specs.Map.{lookup}
use Rattle.std.specs.declared.alloc.Global.{Global}
use Rattle.std.specs.BTreeMap.{get}
use Rattle.std.specs.Ordering.{int_cmp, int_eq, is_eq}
use Rattle.std.proofs.Math.Nat.{min-eq_left, min-eq_right}
use Rattle.std.proofs.lemmas.List.{drop-drop, drop_all, drop_more, length-map}
use Rattle.mg_bson.specs.Raw.{fields}
use Rattle.mg_bson.specs.Tree.{Fields}
use Rattle.mg_link.specs.declared.namespace.Namespace.{Namespace}
use Rattle.mg_link.specs.Namespace.{Space, space}
use Rattle.mg_server.specs.State.{Entry, Cursor, Index, State, documents_at, indexes_of, is_space, put_cursor, without_cursors, query, changed_documents}
use Rattle.mg_server.specs.Step.{documents_of}
use Rattle.mg_server.specs.Rules.{is_id_among}
use Rattle.mg_query.specs.Numbering.{KeepsIds, indexed, stored}
use Rattle.mg_query.specs.Indexing.{index_held}
use Rattle.mg_query.specs.declared.index.Index as code_index
use Rattle.mg_query.specs.declared.collection.Collection.{Collection}
use Rattle.mg_store.specs.Contents.{GoesOn, IsCursor, IsCursorAt, Leads, Represents, collection_at, Becomes}
use Rattle.mg_store.specs.Holding.{AreExact, entries_from}
use Rattle.mg_store.specs.Inserting.{new_documents}
use Rattle.mg_store.specs.declared.change.ChangeEntry.{ChangeEntry}
use Rattle.mg_store.specs.declared.cursor.Cursor as code
use Rattle.mg_store.specs.declared.cursor.Source.{Source}
use Rattle.mg_store.specs.declared.cursor.Source.TheVariants as sources
use Rattle.mg_store.specs.declared.insert.Appended.{Appended}
use Rattle.mg_store.specs.declared.content.Content.{Content}
use Rattle.mg_store.specs.declared.content.Effect.TheVariants as effects
use Rattle.mg_store.proofs.Entries.{entries-append, exact-append}
use Rattle.mg_store.proofs.Holdings.{changes-length}
use Rattle.mg_store.proofs.Maps.{int_test, same_space}

-- ---- cursors

-- other parts stay
represents_with : (c c' : Content) (s s' : State) (given given' : ℕ) → Represents c s given → c'.collections ≡ c.collections → c'.changes ≡ c.changes → ((sp : Space) → documents_at s' sp ≡ documents_at s sp) → ((sp : Space) → indexes_of s' sp ≡ indexes_of s sp) → s'.changes ≡ s.changes
    → ((id : ℤ) → IsCursorAt (get int_cmp c'.cursors id) (s'.cursors id)) → c'.given ≡ pos given' → Represents c' s' given'
represents_with c c' s s' given given' h cs es docs indexes changes cursors number = record {
  documents_are = λ sp. docs sp ∙ h.documents_are sp ∙ ap (λ m. option_map stored (collection_at m sp)) (sym cs);
  indexes_are = λ sp. indexes sp ∙ h.indexes_are sp ∙ ap (λ m. indexed (collection_at m sp)) (sym cs);
  ids_are = λ sp col e. h.ids_are sp col (ap (λ m. collection_at m sp) (sym cs) ∙ e);
  changes_are = changes ∙ h.changes_are ∙ ap (λ l. entries_from 0 l.items) (sym es);
  exact = subst (λ l. AreExact l.items) (sym es) h.exact;
  cursors_are = cursors;
  given_are = number;
}

without_if : (a b : Bool) (o : Option Cursor) → (if b then None else (if a then None else o)) ≡ (if (a || b) then None else o)
without_if true true o = refl
without_if true false o = refl
without_if false b o = refl

without_is : (ids : List ℤ) (cursors : ℤ → Option Cursor) (q : ℤ) → without_cursors ids cursors q ≡ (if is_id_among q ids then None else cursors q)
without_is [] cursors q = refl
without_is (id ∷ ids) cursors q = without_is ids (put_cursor id None cursors) q ∙ without_if (int_eq q id) (is_id_among q ids) (cursors q)

cursor_if : (b : Bool) (o : Option code.Cursor) (p : Option Cursor) → IsCursorAt o p → IsCursorAt (if b then None else o) (if b then None else p)
cursor_if true o p h = tt
cursor_if false o p h = h

pub does_kill : (c c' : Content) (s s' : State) (given given' : ℕ) (ids : List ℤ) → Represents c s given → ((sp : Space) → documents_at s' sp ≡ documents_at s sp) → ((sp : Space) → indexes_of s' sp ≡ indexes_of s sp) → s'.changes ≡ s.changes → ((q : ℤ) → s'.cursors q ≡ without_cursors ids s.cursors q) → given' ≡ given
    → c'.collections ≡ c.collections → c'.changes ≡ c.changes → c'.given ≡ c.given → ((q : ℤ) → get int_cmp c'.cursors q ≡ (if is_id_among q ids then None else get int_cmp c.cursors q)) → Represents c' s' given'
does_kill c c' s s' given given' ids h docs indexes changes cursors number cs es same code_is =
    represents_with c c' s s' given given' h cs es docs indexes changes
    (λ q. subst (λ (x : Option Cursor). IsCursorAt (get int_cmp c'.cursors q) x) (sym (cursors q ∙ without_is ids s.cursors q))
    (subst (λ (x : Option code.Cursor). IsCursorAt x (if is_id_among q ids then None else s.cursors q)) (sym (code_is q)) (cursor_if (is_id_among q ids) (get int_cmp c.cursors q) (s.cursors q) (h.cursors_are q))))
    (same ∙ h.given_are ∙ ap pos (sym number))

removed_if : (a b : Bool) (o : Option code.Cursor) → (if b then None else cond a None o) ≡ (if (a || b) then None else o)
removed_if true true o = refl
removed_if true false o = refl
removed_if false b o = refl

-- one id of a list is removed
pub removed_one : (ids : List ℤ) (i : ℕ) (other : ℤ) (old new : Option code.Cursor) → i < length ids → new ≡ cond (is_eq (int_cmp (get_or ids i (pos 0)) other)) None old
    → (if is_id_among other (drop (i + 1) ids) then None else new) ≡ (if is_id_among other (drop i ids) then None else old)
removed_one ids i other old new lt is =
    let id : ℤ = get_or ids i (pos 0) in
    ap (λ (o : Option code.Cursor). if is_id_among other (drop (i + 1) ids) then None else o) (is ∙ ap (λ (b : Bool). cond b None old) (int_test id other))
    ∙ removed_if (int_eq other id) (is_id_among other (drop (i + 1) ids)) old ∙ sym (ap (λ (l : List ℤ). if is_id_among other l then None else old) (drop_more ids i (pos 0) lt))

-- ---- queries

at_if : (b : Bool) (new : code.Cursor) (d : Cursor) (o : Option code.Cursor) (p : Option Cursor) → IsCursor new d → IsCursorAt o p → IsCursorAt (cond b (Some new) o) (if b then Some d else p)
at_if true new d o p h g = h
at_if false new d o p h g = g

le_cases : (a b : ℕ) → (a ≤ b) ⊎ (b ≤ a)
le_cases zero b = inl (omega arith)
le_cases (suc a) zero = inr (omega arith)
le_cases (suc a) (suc b) = elim (le_cases a b) [ inl h ↦ inl (omega (arith, h)) | inr h ↦ inr (omega (arith, h)) ]

-- behind a count that stays at the greatest number nothing is left
taken : (xs : List Fields) (place count behind most : ℕ) → behind ≡ min (place + count) most → length xs ≤ most → drop count (drop place xs) ≡ drop behind xs
taken xs place count behind most e le =
    drop-drop count place xs
    ∙ elim (le_cases (place + count) most) [
      | inl within ↦ ap (λ (n : ℕ). drop n xs) (sym (e ∙ min-eq_left within))
      | inr beyond ↦
          let all : behind ≡ most = e ∙ min-eq_right beyond in
          drop_all (place + count) xs (omega (arith, le, beyond)) ∙ sym (drop_all behind xs (omega (arith, le, all)))
    ]

take_left : (s : Source) (place count behind : ℕ) (sp : Space) (left : List Fields) → behind ≡ min (place + count) (2 ^ 64 - 1) → GoesOn s place (query sp left) → GoesOn s behind (query sp (drop count left))
take_left (sources.Watch w) place count behind sp left e h = absurd h
take_left (sources.Found f) place count behind sp left e h =
    let le : length (map fields f.documents.items) ≤ 2 ^ 64 - 1 = omega (arith, length-map f.documents.items fields, f.documents.small, f.documents.ok.0) in
    (h.0, ap (drop count) h.1 ∙ taken (map fields f.documents.items) place count behind (2 ^ 64 - 1) e le)

was_held : (s : State) (k : ℤ) (o : Option code.Cursor) (old : code.Cursor) (d : Cursor) → IsCursorAt o (s.cursors k) → Some old ≡ o → s.cursors k ≡ Some d → IsCursor old d
was_held s k o old d h e f = subst (λ (x : Option Cursor). IsCursorAt (Some old) x) f (subst (λ (x : Option code.Cursor). IsCursorAt x (s.cursors k)) (sym e) h)

-- documents of a query are given
pub does_take : (c c' : Content) (s s' : State) (given given' : ℕ) (id k : ℤ) (count behind : ℕ) (old : code.Cursor) → Represents c s given → Leads (effects.Take id count) s given s' given' → k ≡ id → Some old ≡ get int_cmp c.cursors k
    → behind ≡ min (old.place + count) (2 ^ 64 - 1) → c'.collections ≡ c.collections → c'.changes ≡ c.changes → c'.given ≡ c.given
    → ((q : ℤ) → get int_cmp c'.cursors q ≡ cond (is_eq (int_cmp k q)) (Some (record old { place = behind })) (get int_cmp c.cursors q)) → Represents c' s' given'
does_take c c' s s' given given' id k count behind old h leads same there e cs es number at =
    let does = leads.0 in
    let sp : Space = does.0 in
    let left : List Fields = does.1 in
    let b = does.3 in
    let new : code.Cursor = record old { place = behind } in
    let held = was_held s k (get int_cmp c.cursors k) old (query sp left) (h.cursors_are k) there (ap s.cursors same ∙ does.2) in
    let is : IsCursor new (query sp (drop count left)) = take_left old.source old.place count behind sp left e held in
    represents_with c c' s s' given given' h cs es b.documents_are leads.1 b.changes_are
    (λ q. subst (λ (x : Option Cursor). IsCursorAt (get int_cmp c'.cursors q) x) (sym (b.cursors_are q))
    (subst (λ (x : Option code.Cursor). IsCursorAt x (if int_eq q id then Some (query sp (drop count left)) else s.cursors q)) (sym (at q ∙ ap (λ (y : Bool). cond y (Some new) (get int_cmp c.cursors q)) (int_test k q ∙ ap (int_eq q) same)))
    (at_if (int_eq q id) new (query sp (drop count left)) (get int_cmp c.cursors q) (s.cursors q) is (h.cursors_are q))))
    (number ∙ h.given_are ∙ ap pos (sym b.given_are))

-- ---- inserts

documents_if : (b : Bool) (w : Collection) (ds : List Fields) (o : Option Collection) (p : Option (List Fields)) → stored w ≡ ds → p ≡ option_map stored o → (if b then Some ds else p) ≡ option_map stored (if b then Some w else o)
documents_if true w ds o p e f = ap Some (sym e)
documents_if false w ds o p e f = f

indexes_if : (b : Bool) (w : Collection) (o p : Option Collection) → (b ≡ true → p ≡ o) → indexed (Some w) ≡ indexed o → indexed p ≡ indexed (if b then Some w else p)
indexes_if true w o p at same = ap indexed (at refl) ∙ sym same
indexes_if false w o p at same = refl

keeps_if : (b : Bool) (w col : Collection) (o : Option Collection) → KeepsIds w → (o ≡ Some col → KeepsIds col) → (if b then Some w else o) ≡ Some col → KeepsIds col
keeps_if true w col o h f e = let same : w ≡ col = cc in subst KeepsIds same h
keeps_if false w col o h f e = f e

pub does_insert : (c c' : Content) (s s' : State) (given given' : ℕ) (ns : Namespace) (a : Appended) (w : Collection) → Represents c s given → Leads (effects.Insert ns a) s given s' given'
    → ((sp : Space) → collection_at c'.collections sp ≡ (if is_space sp (space ns) then Some w else collection_at c.collections sp)) → stored w ≡ documents_of s (space ns) ++ new_documents a → indexed (Some w) ≡ indexed (collection_at c.collections (space ns)) → KeepsIds w
    → c'.changes.items ≡ c.changes.items ++ a.entries.items → c'.cursors ≡ c.cursors → c'.given ≡ c.given → Represents c' s' given'
does_insert c c' s s' given given' ns a w h leads cs docs indexes ids es cursors number =
    let does = leads.0 in
    let b = does.1 in
    let place : 0 + length c.changes.items ≡ length s.changes = omega (arith, changes-length c s given h) in
    record {
      documents_are = λ sp. b.documents_are sp ∙ documents_if (is_space sp (space ns)) w (documents_of s (space ns) ++ new_documents a) (collection_at c.collections sp) (documents_at s sp) docs (h.documents_are sp) ∙ ap (option_map stored) (sym (cs sp));
      indexes_are = λ sp. leads.1 sp ∙ h.indexes_are sp ∙ indexes_if (is_space sp (space ns)) w (collection_at c.collections (space ns)) (collection_at c.collections sp) (λ at. ap (collection_at c.collections) (same_space sp (space ns) at)) indexes ∙ ap indexed (sym (cs sp));
      ids_are = λ sp col e. keeps_if (is_space sp (space ns)) w col (collection_at c.collections sp) ids (h.ids_are sp col) (sym (cs sp) ∙ e);
      changes_are = b.changes_are ∙ ap₂ (λ (xs : List Entry) (n : ℕ). xs ++ entries_from n a.entries.items) h.changes_are (sym place) ∙ sym (entries-append 0 c.changes.items a.entries.items) ∙ ap (entries_from 0) (sym es);
      exact = subst AreExact (sym es) (exact-append c.changes.items a.entries.items h.exact does.0.exact);
      cursors_are = λ id. subst (λ (x : Option Cursor). IsCursorAt (get int_cmp c'.cursors id) x) (sym (b.cursors_are id)) (subst (λ m. IsCursorAt (get int_cmp m id) (s.cursors id)) (sym cursors) (h.cursors_are id));
      given_are = number ∙ h.given_are ∙ ap pos (sym b.given_are);
    }

kept_if : (b : Bool) (l : List Index) (m : List Index) (w : Collection) (o : Option Collection) → map index_held w.indexes.items ≡ l → m ≡ indexed o → (if b then l else m) ≡ indexed (if b then Some w else o)
kept_if true l m w o e f = sym e
kept_if false l m w o e f = f

pub does_index : (c c' : Content) (s s' : State) (given given' : ℕ) (ns : Namespace) (indexes : Vec code_index.Index Global) (w : Collection) → Represents c s given → Leads (effects.Indexes ns indexes) s given s' given'
    → ((sp : Space) → collection_at c'.collections sp ≡ (if is_space sp (space ns) then Some w else collection_at c.collections sp)) → stored w ≡ documents_of s (space ns) → w.indexes ≡ indexes → KeepsIds w
    → c'.changes ≡ c.changes → c'.cursors ≡ c.cursors → c'.given ≡ c.given → Represents c' s' given'
does_index c c' s s' given given' ns indexes w h leads cs docs held ids es cursors number =
    let b = leads.0 in
    record {
      documents_are = λ sp. b.documents_are sp ∙ documents_if (is_space sp (space ns)) w (documents_of s (space ns)) (collection_at c.collections sp) (documents_at s sp) docs (h.documents_are sp) ∙ ap (option_map stored) (sym (cs sp));
      indexes_are = λ sp. leads.1 sp ∙ kept_if (is_space sp (space ns)) (map index_held indexes.items) (indexes_of s sp) w (collection_at c.collections sp) (ap (λ v. map index_held v.items) held) (h.indexes_are sp) ∙ ap indexed (sym (cs sp));
      ids_are = λ sp col e. keeps_if (is_space sp (space ns)) w col (collection_at c.collections sp) ids (h.ids_are sp col) (sym (cs sp) ∙ e);
      changes_are = b.changes_are ∙ h.changes_are ∙ ap (λ l. entries_from 0 l.items) (sym es);
      exact = subst (λ l. AreExact l.items) (sym es) h.exact;
      cursors_are = λ id. subst (λ (x : Option Cursor). IsCursorAt (get int_cmp c'.cursors id) x) (sym (b.cursors_are id)) (subst (λ m. IsCursorAt (get int_cmp m id) (s.cursors id)) (sym cursors) (h.cursors_are id));
      given_are = number ∙ h.given_are ∙ ap pos (sym b.given_are);
    }

gone_if : (b : Bool) (o : Option Collection) (p : Option (List Fields)) → p ≡ option_map stored o → (if b then None else p) ≡ option_map stored (if b then None else o)
gone_if true o p e = refl
gone_if false o p e = e

unindexed_if : (b : Bool) (l : List Index) (o : Option Collection) → l ≡ indexed o → (if b then [] else l) ≡ indexed (if b then None else o)
unindexed_if true l o e = refl
unindexed_if false l o e = e

left_if : (b : Bool) (col : Collection) (o : Option Collection) → (o ≡ Some col → KeepsIds col) → (if b then None else o) ≡ Some col → KeepsIds col
left_if true col o f e = absurd cc
left_if false col o f e = f e

pub does_drop : (c c' : Content) (s s' : State) (given given' : ℕ) (ns : Namespace) (entries : Vec ChangeEntry Global) → Represents c s given → Leads (effects.Drop ns entries) s given s' given'
    → ((sp : Space) → collection_at c'.collections sp ≡ (if is_space sp (space ns) then None else collection_at c.collections sp)) → c'.changes.items ≡ c.changes.items ++ entries.items → c'.cursors ≡ c.cursors → c'.given ≡ c.given → Represents c' s' given'
does_drop c c' s s' given given' ns entries h leads cs es cursors number =
    let does = leads.0 in
    let b = does.1 in
    let place : 0 + length c.changes.items ≡ length s.changes = omega (arith, changes-length c s given h) in
    record {
      documents_are = λ sp. b.documents_are sp ∙ gone_if (is_space sp (space ns)) (collection_at c.collections sp) (documents_at s sp) (h.documents_are sp) ∙ ap (option_map stored) (sym (cs sp));
      indexes_are = λ sp. leads.1 sp ∙ unindexed_if (is_space sp (space ns)) (indexes_of s sp) (collection_at c.collections sp) (h.indexes_are sp) ∙ ap indexed (sym (cs sp));
      ids_are = λ sp col e. left_if (is_space sp (space ns)) col (collection_at c.collections sp) (h.ids_are sp col) (sym (cs sp) ∙ e);
      changes_are = b.changes_are ∙ ap₂ (λ (xs : List Entry) (n : ℕ). xs ++ entries_from n entries.items) h.changes_are (sym place) ∙ sym (entries-append 0 c.changes.items entries.items) ∙ ap (entries_from 0) (sym es);
      exact = subst AreExact (sym es) (exact-append c.changes.items entries.items h.exact does.0);
      cursors_are = λ id. subst (λ (x : Option Cursor). IsCursorAt (get int_cmp c'.cursors id) x) (sym (b.cursors_are id)) (subst (λ m. IsCursorAt (get int_cmp m id) (s.cursors id)) (sym cursors) (h.cursors_are id));
      given_are = number ∙ h.given_are ∙ ap pos (sym b.given_are);
    }

undone : (b : Bool) (old w : Collection) (o : Option Collection) → stored w ≡ stored old → (b ≡ true → o ≡ Some old) → option_map stored o ≡ option_map stored (if b then Some w else o)
undone true old w o same found = ap (option_map stored) (found refl) ∙ ap Some (sym same)
undone false old w o same found = refl

-- an insert that came to nothing
pub insert_undone : (c c' : Content) (s : State) (given : ℕ) (ns : Namespace) (old w : Collection) → Represents c s given → collection_at c.collections (space ns) ≡ Some old
    → ((sp : Space) → collection_at c'.collections sp ≡ (if is_space sp (space ns) then Some w else collection_at c.collections sp)) → stored w ≡ stored old → w.indexes ≡ old.indexes → KeepsIds w
    → c'.changes.items ≡ c.changes.items → c'.cursors ≡ c.cursors → c'.given ≡ c.given → Represents c' s given
insert_undone c c' s given ns old w h found cs same indexes ids es cursors number =
    record {
      documents_are = λ sp. h.documents_are sp ∙ undone (is_space sp (space ns)) old w (collection_at c.collections sp) same (λ at. ap (collection_at c.collections) (same_space sp (space ns) at) ∙ found) ∙ ap (option_map stored) (sym (cs sp));
      indexes_are = λ sp. h.indexes_are sp ∙ indexes_if (is_space sp (space ns)) w (Some old) (collection_at c.collections sp) (λ at. ap (collection_at c.collections) (same_space sp (space ns) at) ∙ found) (ap (λ v. map index_held v.items) indexes) ∙ ap indexed (sym (cs sp));
      ids_are = λ sp col e. keeps_if (is_space sp (space ns)) w col (collection_at c.collections sp) ids (h.ids_are sp col) (sym (cs sp) ∙ e);
      changes_are = h.changes_are ∙ ap (entries_from 0) (sym es);
      exact = subst AreExact (sym es) h.exact;
      cursors_are = λ id. subst (λ m. IsCursorAt (get int_cmp m id) (s.cursors id)) (sym cursors) (h.cursors_are id);
      given_are = number ∙ h.given_are;
    }

-- nothing came of a command
pub nothing_done : (c c' : Content) (s : State) (given : ℕ) → Represents c s given → c'.collections.entries ≡ c.collections.entries → c'.changes.items ≡ c.changes.items → c'.cursors ≡ c.cursors → c'.given ≡ c.given → Represents c' s given
nothing_done c c' s given h cs es cursors number =
    record {
      documents_are = λ sp. h.documents_are sp ∙ sym (ap (λ m. option_map stored (lookup (λ ns. is_space sp (space ns)) m)) cs);
      indexes_are = λ sp. h.indexes_are sp ∙ sym (ap (λ m. indexed (lookup (λ ns. is_space sp (space ns)) m)) cs);
      ids_are = λ sp col e. h.ids_are sp col (sym (ap (lookup (λ ns. is_space sp (space ns))) cs) ∙ e);
      changes_are = h.changes_are ∙ ap (entries_from 0) (sym es);
      exact = subst AreExact (sym es) h.exact;
      cursors_are = λ id. subst (λ m. IsCursorAt (get int_cmp m id) (s.cursors id)) (sym cursors) (h.cursors_are id);
      given_are = number ∙ h.given_are;
    }

pub some_of : {K : Type 0} (o : Option K) (x : K) → Some x ≡ o → IsSome o
some_of None x e = absurd cc
some_of (Some y) x e = refl

-- ---- updates and deletes

found_if : (b : Bool) (g : List Fields → List Fields) (old w : Collection) (o : Option Collection) (p : Option (List Fields)) → (b ≡ true → o ≡ Some old) → stored w ≡ g (stored old) → p ≡ option_map stored o → (if b then option_map g p else p) ≡ option_map stored (if b then Some w else o)
found_if true g old w o p found is e = ap (option_map g) (e ∙ ap (option_map stored) (found refl)) ∙ ap Some (sym is)
found_if false g old w o p found is e = e

missing_if : (b : Bool) (g : List Fields → List Fields) (o : Option Collection) (p : Option (List Fields)) → (b ≡ true → o ≡ None) → p ≡ option_map stored o → (if b then option_map g p else p) ≡ option_map stored o
missing_if true g o p missing e = ap (option_map g) (e ∙ ap (option_map stored) (missing refl)) ∙ sym (ap (option_map stored) (missing refl))
missing_if false g o p missing e = e

-- what is appended to the changes of the state
entries_more : (c c' : Content) (s s' : State) (given : ℕ) (more : List ChangeEntry) → Represents c s given → s'.changes ≡ s.changes ++ entries_from (length s.changes) more → c'.changes.items ≡ c.changes.items ++ more → s'.changes ≡ entries_from 0 c'.changes.items
entries_more c c' s s' given more h changes es =
    let place : 0 + length c.changes.items ≡ length s.changes = omega (arith, changes-length c s given h) in
    changes ∙ ap₂ (λ (xs : List Entry) (n : ℕ). xs ++ entries_from n more) h.changes_are (sym place) ∙ sym (entries-append 0 c.changes.items more) ∙ ap (entries_from 0) (sym es)

-- the documents of a collection that is there have become others
pub does_rewrite : (c c' : Content) (s s' : State) (given given' : ℕ) (ns : Namespace) (g : List Fields → List Fields) (more : List ChangeEntry) (old w : Collection) → Represents c s given → AreExact more
    → Becomes s' given' (changed_documents (space ns) g (documents_at s)) (s.changes ++ entries_from (length s.changes) more) s.cursors given → ((sp : Space) → indexes_of s' sp ≡ indexes_of s sp) → collection_at c.collections (space ns) ≡ Some old
    → ((sp : Space) → collection_at c'.collections sp ≡ (if is_space sp (space ns) then Some w else collection_at c.collections sp)) → stored w ≡ g (stored old) → w.indexes ≡ old.indexes → KeepsIds w
    → c'.changes.items ≡ c.changes.items ++ more → c'.cursors ≡ c.cursors → c'.given ≡ c.given → Represents c' s' given'
does_rewrite c c' s s' given given' ns g more old w h exact b leaves found cs docs indexes ids es cursors number =
    record {
      documents_are = λ sp. b.documents_are sp ∙ found_if (is_space sp (space ns)) g old w (collection_at c.collections sp) (documents_at s sp) (λ at. ap (collection_at c.collections) (same_space sp (space ns) at) ∙ found) docs (h.documents_are sp) ∙ ap (option_map stored) (sym (cs sp));
      indexes_are = λ sp. leaves sp ∙ h.indexes_are sp ∙ indexes_if (is_space sp (space ns)) w (Some old) (collection_at c.collections sp) (λ at. ap (collection_at c.collections) (same_space sp (space ns) at) ∙ found) (ap (λ v. map index_held v.items) indexes) ∙ ap indexed (sym (cs sp));
      ids_are = λ sp col e. keeps_if (is_space sp (space ns)) w col (collection_at c.collections sp) ids (h.ids_are sp col) (sym (cs sp) ∙ e);
      changes_are = entries_more c c' s s' given more h b.changes_are es;
      exact = subst AreExact (sym es) (exact-append c.changes.items more h.exact exact);
      cursors_are = λ id. subst (λ (x : Option Cursor). IsCursorAt (get int_cmp c'.cursors id) x) (sym (b.cursors_are id)) (subst (λ m. IsCursorAt (get int_cmp m id) (s.cursors id)) (sym cursors) (h.cursors_are id));
      given_are = number ∙ h.given_are ∙ ap pos (sym b.given_are);
    }

-- those of a collection that is not there have not
pub does_nothing_to : (c c' : Content) (s s' : State) (given given' : ℕ) (ns : Namespace) (g : List Fields → List Fields) (more : List ChangeEntry) → Represents c s given → AreExact more
    → Becomes s' given' (changed_documents (space ns) g (documents_at s)) (s.changes ++ entries_from (length s.changes) more) s.cursors given → ((sp : Space) → indexes_of s' sp ≡ indexes_of s sp) → collection_at c.collections (space ns) ≡ None
    → c'.collections ≡ c.collections → c'.changes.items ≡ c.changes.items ++ more → c'.cursors ≡ c.cursors → c'.given ≡ c.given → Represents c' s' given'
does_nothing_to c c' s s' given given' ns g more h exact b leaves missing cs es cursors number =
    record {
      documents_are = λ sp. b.documents_are sp ∙ missing_if (is_space sp (space ns)) g (collection_at c.collections sp) (documents_at s sp) (λ at. ap (collection_at c.collections) (same_space sp (space ns) at) ∙ missing) (h.documents_are sp) ∙ ap (λ m. option_map stored (collection_at m sp)) (sym cs);
      indexes_are = λ sp. leaves sp ∙ h.indexes_are sp ∙ ap (λ m. indexed (collection_at m sp)) (sym cs);
      ids_are = λ sp col e. h.ids_are sp col (ap (λ m. collection_at m sp) (sym cs) ∙ e);
      changes_are = entries_more c c' s s' given more h b.changes_are es;
      exact = subst AreExact (sym es) (exact-append c.changes.items more h.exact exact);
      cursors_are = λ id. subst (λ (x : Option Cursor). IsCursorAt (get int_cmp c'.cursors id) x) (sym (b.cursors_are id)) (subst (λ m. IsCursorAt (get int_cmp m id) (s.cursors id)) (sym cursors) (h.cursors_are id));
      given_are = number ∙ h.given_are ∙ ap pos (sym b.given_are);
    }
