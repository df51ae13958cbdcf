-- What replies do to the cursors of a store in memory.
use Rattle.std.proofs.Common.{◌≡◌, ◌⊎◌, ℕ, ℤ, pos, negsuc, zero, suc, ◌≤◌, Bool, true, false, List, [], ◌∷◌, length, Option, Some, None, refl, sym, ap, ◌∙◌, subst, inl, inr, le_refl, arith}
use Rattle.std.specs.Prelude.{if◌then◌else◌, drop, nat_lt, unwrap_or}
use Rattle.std.specs.Ordering.{int_eq}
use Rattle.std.proofs.lemmas.Bool.{cases_Bool, cases_eq, false_from_ne_true, lt-ltb, le-ltb}
use Rattle.std.proofs.lemmas.Bool.Decides.{Decides-int_eq, nat_tests}
use Rattle.mg_bson.specs.Tree.{Tree, Fields}
use Rattle.mg_link.specs.Namespace.{Space}
use Rattle.mg_server.specs.State.{Watch, Cursor, query, watching, Collection, State, put_cursor, without_cursors, give}
use Rattle.mg_server.specs.Commands.{Asked, asks_more, refuses}
use Rattle.mg_server.specs.Step.{effect, watching_at, opened_cursor, moved, moved_cursor, ends_cursor}
use Rattle.mg_server.specs.Rules.{id_unless}
use Rattle.mg_server.specs.Kept.{IsStoreCursor, IsStoreState, is_given}

pub same_int : (x y : ℤ) → int_eq x y ≡ true → x ≡ y
same_int x y h = (Decides-int_eq x y).0 h

pub other_int : (x y : ℤ) → (x ≡ y → ⊥) → int_eq x y ≡ false
other_int x y ne = false_from_ne_true (int_eq x y) (λ h. ne (same_int x y h))

-- ---- other parts

pub collections_put : (s : State) (given : ℕ) (started : Bool) (collections : List Collection) → IsStoreState s given started → IsStoreState (record s { collections = collections }) given started
collections_put s given started collections h = record { entries_are = h.entries_are; tokens_are = h.tokens_are; ids_are = h.ids_are; cursors_are = h.cursors_are; time_is = h.time_is; empty_before = h.empty_before }

cursors_by : (s : State) (given : ℕ) (started : Bool) (cursors : ℤ → Option Cursor) → IsStoreState s given started → ((id : ℤ) (c : Cursor) → cursors id ≡ Some c → IsStoreCursor (length s.changes) c × (is_given given id ≡ true)) → IsStoreState (record s { cursors = cursors }) given started
cursors_by s given started cursors h are = record { entries_are = h.entries_are; tokens_are = h.tokens_are; ids_are = h.ids_are; cursors_are = are; time_is = h.time_is; empty_before = h.empty_before }

-- a cursor that is put stands where it was put, and the others stay
pub put_is : (id : ℤ) (o : Option Cursor) (cursors : ℤ → Option Cursor) (other : ℤ) (c : Cursor) → put_cursor id o cursors other ≡ Some c → ((other ≡ id) × (o ≡ Some c)) ⊎ (cursors other ≡ Some c)
put_is id o cursors other c h =
    elim (cases_Bool (int_eq other id)) [
      | inl same ↦ inl (same_int other id same, sym (ap (λ (b : Bool). if b then o else cursors other) same) ∙ h)
      | inr differs ↦ inr (sym (ap (λ (b : Bool). if b then o else cursors other) differs) ∙ h)
    ]

pub cursor_put : (s : State) (given : ℕ) (started : Bool) (id : ℤ) (o : Option Cursor) → IsStoreState s given started → ((c : Cursor) → o ≡ Some c → IsStoreCursor (length s.changes) c × (is_given given id ≡ true)) → IsStoreState (record s { cursors = put_cursor id o s.cursors }) given started
cursor_put s given started id o h fits =
    cursors_by s given started (put_cursor id o s.cursors) h (λ other c there.
    elim (put_is id o s.cursors other c there) [
      | inl here ↦ let f = fits c here.1 in (f.0, subst (λ (x : ℤ). is_given given x ≡ true) (sym here.0) f.1)
      | inr before ↦ h.cursors_are other c before
    ])

pub cursor_gone : (s : State) (given : ℕ) (started : Bool) (id : ℤ) → IsStoreState s given started → IsStoreState (record s { cursors = put_cursor id None s.cursors }) given started
cursor_gone s given started id h = cursor_put s given started id None h (λ c e. absurd cc)

-- ---- a cursor is opened

given_more : (given : ℕ) (other : ℤ) → (if int_eq other (pos (suc given)) then true else is_given given other) ≡ is_given (suc given) other
given_more given (pos zero) =
    let differs : int_eq (pos 0) (pos (suc given)) ≡ false = other_int (pos 0) (pos (suc given)) (λ e. let f : 0 ≡ suc given = cc in omega arith) in
    ap (λ (b : Bool). if b then true else false) differs
given_more given (pos (suc n)) =
    elim (cases_eq n given) [
      | inl e ↦
          let same : int_eq (pos (suc n)) (pos (suc given)) ≡ true = (Decides-int_eq (pos (suc n)) (pos (suc given))).1 (ap (λ (k : ℕ). pos (suc k)) e) in
          ap (λ (b : Bool). if b then true else nat_lt n given) same ∙ sym (lt-ltb n (suc given) (omega arith))
      | inr ne ↦
          let differs : int_eq (pos (suc n)) (pos (suc given)) ≡ false = other_int (pos (suc n)) (pos (suc given)) (λ e. let f : suc n ≡ suc given = cc in ne (omega arith)) in
          ap (λ (b : Bool). if b then true else nat_lt n given) differs ∙ grind (arith, nat_tests)
    ]
given_more given (negsuc n) =
    let differs : int_eq (negsuc n) (pos (suc given)) ≡ false = other_int (negsuc n) (pos (suc given)) (λ e. cc) in
    ap (λ (b : Bool). if b then true else false) differs

either_true : (b : Bool) → (if b then true else true) ≡ true
either_true true = refl
either_true false = refl

still_given : (given : ℕ) (id : ℤ) → is_given given id ≡ true → is_given (suc given) id ≡ true
still_given given id h = sym (given_more given id) ∙ ap (λ (b : Bool). if int_eq id (pos (suc given)) then true else b) h ∙ either_true (int_eq id (pos (suc given)))

pub next_unnamed : (given : ℕ) → is_given given (pos (suc given)) ≡ false
next_unnamed given = le-ltb given given (le_refl given)

pub next_given : (given : ℕ) → is_given (suc given) (pos (suc given)) ≡ true
next_given given = lt-ltb given (suc given) (omega arith)

pub not_zero : (given : ℕ) → int_eq (pos (suc given)) (pos 0) ≡ false
not_zero given = other_int (pos (suc given)) (pos 0) (λ e. let f : suc given ≡ 0 = cc in omega arith)

-- an id that was given is not 0
pub is_zero_no : (given : ℕ) (id : ℤ) → is_given given id ≡ true → int_eq id (pos 0) ≡ false
is_zero_no given (pos zero) h = absurd cc
is_zero_no given (pos (suc n)) h = not_zero n
is_zero_no given (negsuc n) h = absurd cc

opened_state : (s : State) (given : ℕ) (d : Cursor) → IsStoreState s given true → IsStoreCursor (length s.changes) d
    → IsStoreState (record s { cursors = put_cursor (pos (suc given)) (Some d) s.cursors; given = give (pos (suc given)) s.given }) (suc given) true
opened_state s given d h fits = record {
  entries_are = h.entries_are;
  tokens_are = h.tokens_are;
  ids_are = λ id. ap (λ (b : Bool). if int_eq id (pos (suc given)) then true else b) (h.ids_are id) ∙ given_more given id;
  cursors_are = λ id c there.
      elim (put_is (pos (suc given)) (Some d) s.cursors id c there) [
        | inl here ↦
            let e : d ≡ c = cc in
            (subst (IsStoreCursor (length s.changes)) e fits, subst (λ (x : ℤ). is_given (suc given) x ≡ true) (sym here.0) (next_given given))
        | inr before ↦ let old = h.cursors_are id c before in (old.0, still_given given id old.1)
      ];
  time_is = h.time_is;
  empty_before = h.empty_before;
}

-- the next id is given to a cursor
cursor_opened : (s : State) (given : ℕ) (d : Cursor) → IsStoreState s given true → IsStoreCursor (length s.changes) d → IsStoreState (opened_cursor s (pos (suc given)) d) (suc given) true
cursor_opened s given d h fits =
    subst (λ (b : Bool). IsStoreState (if b then s else record s { cursors = put_cursor (pos (suc given)) (Some d) s.cursors; given = give (pos (suc given)) s.given }) (suc given) true) (sym (not_zero given)) (opened_state s given d h fits)

-- the next id is given to a cursor at a place that the token names
opened_is : (s : State) (given : ℕ) (w : Watch) (token : Tree) (place : ℕ) → IsStoreState s given true → s.tokens token ≡ Some place → place ≤ length s.changes
    → IsStoreState (opened_cursor s (pos (suc given)) (watching_at s w (Some token))) (suc given) true
opened_is s given w token place h named le =
    let e : watching w place ≡ watching_at s w (Some token) = ap (λ (o : Option ℕ). watching w (unwrap_or o 0)) (sym named) in
    cursor_opened s given (watching_at s w (Some token)) h (subst (IsStoreCursor (length s.changes)) e le)

-- a query gives the next id to its cursor, or none where its reply has id 0
pub query_opened : (s : State) (given : ℕ) (id : ℤ) (sp : Space) (left : List Fields) → IsStoreState s given true → (id ≡ pos 0) ⊎ (id ≡ pos (suc given)) → IsStoreState (opened_cursor s id (query sp left)) (if int_eq id (pos 0) then given else suc given) true
query_opened s given id sp left h (inl none) = subst (λ (x : ℤ). IsStoreState (opened_cursor s x (query sp left)) (if int_eq x (pos 0) then given else suc given) true) (sym none) h
query_opened s given id sp left h (inr next) =
    subst (λ (x : ℤ). IsStoreState (opened_cursor s x (query sp left)) (if int_eq x (pos 0) then given else suc given) true) (sym next)
    (subst (λ (b : Bool). IsStoreState (opened_cursor s (pos (suc given)) (query sp left)) (if b then given else suc given) true) (sym (not_zero given)) (cursor_opened s given (query sp left) h tt))

-- where the batch ends with an invalidate entry, no cursor is opened and no id is given
pub opened_unless : (ended : Bool) (s : State) (given : ℕ) (w : Watch) (token : Tree) (place : ℕ) → IsStoreState s given true → s.tokens token ≡ Some place → place ≤ length s.changes
    → IsStoreState (opened_cursor s (id_unless ended (pos (suc given))) (watching_at s w (Some token))) (if int_eq (id_unless ended (pos (suc given))) (pos 0) then given else suc given) true
opened_unless true s given w token place h named le = h
opened_unless false s given w token place h named le =
    subst (λ (b : Bool). IsStoreState (opened_cursor s (pos (suc given)) (watching_at s w (Some token))) (if b then given else suc given) true) (sym (not_zero given)) (opened_is s given w token place h named le)

-- ---- a cursor moves

-- the cursor moves to a place that the token names
pub moved_is : (s : State) (given : ℕ) (id left : ℤ) (w : Watch) (at : ℕ) (events : List Fields) (token : Tree) (place : ℕ) → IsStoreState s given true → s.cursors id ≡ Some (watching w at) → s.tokens token ≡ Some place → place ≤ length s.changes
    → IsStoreState (moved_cursor s id left events (Some token)) given true
moved_is s given id left w at events token place h there named le =
    let old = h.cursors_are id (watching w at) there in
    let now_at : moved s events (Some token) (s.cursors id) ≡ Some (watching w place) = ap (moved s events (Some token)) there ∙ ap (λ (o : Option ℕ). Some (watching w (unwrap_or o 0))) named in
    cursor_put s given true id (if int_eq left (pos 0) then None else moved s events (Some token) (s.cursors id)) h (λ c e.
    elim (cases_Bool (int_eq left (pos 0))) [
      | inl ends ↦ let f : None ≡ Some c = sym (ap (λ (b : Bool). if b then None else moved s events (Some token) (s.cursors id)) ends) ∙ e in absurd cc
      | inr stays ↦
          let f : moved s events (Some token) (s.cursors id) ≡ Some c = sym (ap (λ (b : Bool). if b then None else moved s events (Some token) (s.cursors id)) stays) ∙ e in
          let g : watching w place ≡ c = cc in
          (subst (IsStoreCursor (length s.changes)) g le, old.1)
    ])

-- a query goes on behind these documents, or ends
pub queried_is : (s : State) (given : ℕ) (id next : ℤ) (sp : Space) (left ds : List Fields) (token : Option Tree) → IsStoreState s given true → s.cursors id ≡ Some (query sp left) → IsStoreState (moved_cursor s id next ds token) given true
queried_is s given id next sp left ds token h there =
    let old = h.cursors_are id (query sp left) there in
    let now_at : moved s ds token (s.cursors id) ≡ Some (query sp (drop (length ds) left)) = ap (moved s ds token) there in
    cursor_put s given true id (if int_eq next (pos 0) then None else moved s ds token (s.cursors id)) h (λ c e.
    elim (cases_Bool (int_eq next (pos 0))) [
      | inl ends ↦ let f : None ≡ Some c = sym (ap (λ (b : Bool). if b then None else moved s ds token (s.cursors id)) ends) ∙ e in absurd cc
      | inr stays ↦
          let f : moved s ds token (s.cursors id) ≡ Some c = sym (ap (λ (b : Bool). if b then None else moved s ds token (s.cursors id)) stays) ∙ e in
          let g : query sp (drop (length ds) left) ≡ c = cc in
          (subst (IsStoreCursor (length s.changes)) g tt, old.1)
    ])

-- ---- cursors are killed

pub kept_from : (ids : List ℤ) (cursors : ℤ → Option Cursor) (id : ℤ) (c : Cursor) → without_cursors ids cursors id ≡ Some c → cursors id ≡ Some c
kept_from [] cursors id c h = h
kept_from (x ∷ ids) cursors id c h =
    elim (put_is x None cursors id c (kept_from ids (put_cursor x None cursors) id c h)) [ inl here ↦ absurd (let e : None ≡ Some c = here.1 in cc) | inr before ↦ before ]

pub killed_are : (s : State) (given : ℕ) (started : Bool) (ids : List ℤ) → IsStoreState s given started → IsStoreState (record s { cursors = without_cursors ids s.cursors }) given started
killed_are s given started ids h = cursors_by s given started (without_cursors ids s.cursors) h (λ id c there. h.cursors_are id c (kept_from ids s.cursors id c there))

-- ---- a command is refused

refused_more : (b : Bool) (s : State) (given : ℕ) (id : ℤ) → IsStoreState s given true → IsStoreState (if b then record s { cursors = put_cursor id None s.cursors } else s) given true
refused_more true s given id h = cursor_gone s given true id h
refused_more false s given id h = h

pub refused_is : (s : State) (given : ℕ) (command : Asked) (code : ℤ) (labels : List (List ℕ)) → IsStoreState s given true → IsStoreState (effect s command (refuses code labels)) given true
unfolding effect
refused_is s given (asks_more id space) code labels h = refused_more (ends_cursor code) s given id h
refused_is s given command code labels h = h
