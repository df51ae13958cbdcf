-- What stands behind a step of the store in memory, part by part.
use Rattle.std.proofs.Common.{◌≡◌, ℕ, ℤ, pos, suc, ◌<◌, ◌≤◌, ◌^◌, Bool, true, false, List, [], ◌∷◌, ◌++◌, length, take, drop, Option, Some, None, Ok, refl, sym, ap, ap₂, ◌∙◌, subst, arith, append-nil}
use Rattle.std.specs.Prelude.{if◌then◌else◌, option_map, unwrap_or, zero}
use Rattle.std.specs.Ordering.{int_eq}
use Rattle.mg_bson.specs.Tree.{Fields}
use Rattle.mg_bson.specs.Raw.{fields}
use Rattle.mg_link.specs.Namespace.{Space}
use Rattle.mg_server.specs.State.{Entry, Watch, Cursor, watching, Collection, State, Start, collection_in, documents_at, events_between, put_cursor, without_cursors, Index, indexes_of, query, put_documents, changed_documents}
use Rattle.mg_server.specs.Commands.{Asked, asks_insert, asks_watch, asks_more, asks_kill, Failure, Told, refuses, inserted, opened, gave, killed, asked, told, asks_create, asks_indexes, done, asks_query, asks_update, asks_delete, updated, deleted, asks_drop}
use Rattle.mg_server.specs.Step.{grown, effect, next, documents_of, written, ends_cursor, watching_at, moved, queried_at, cursors_refused}
use Rattle.mg_server.specs.Rules.{insert, watch, more, kill, request_of, token_of, now_of, Inserted, inserting, inserted_reply, batch_place, Answer, answer_with, answer_insert, place_at, watch_space, ends_watch, id_unless, batch_id, watch_reply, more_reply, killed_reply, refusal, answer_of, create_collection, create_indexes, done_reply, find, batch_of_query, first_held, id_while, query_id, query_space, query_reply, query_more_reply, update, delete, updated_reply, drop_collection, dropped_entries, deleted_reply}
use Rattle.mg_server.specs.Write.{with_indexes, Modification, after_update, after_delete}
use Rattle.mg_server.specs.Query.{Query, result}
use Rattle.mg_server.specs.Kept.{made_by, made_none, made_these, given_by, IsStoreState, Kept, made_of, given_after, rule_entries, state_behind}
use Rattle.mg_server.proofs.Requests.{request_reads, asked_is}
use Rattle.mg_server.proofs.Growing.{state_these}
use Rattle.mg_server.proofs.Inserting.{failing, inserting_is}
use Rattle.mg_server.proofs.Telling.{told_reads, refusal_tells, insert_tells, opened_tells, gave_tells, killed_tells, created_tells, indexed_tells, found_tells, more_found_tells, updated_tells, deleted_tells, dropped_tells}
use Rattle.mg_server.proofs.Batching.{batch_within}
use Rattle.mg_server.proofs.Cursoring.{not_zero, is_zero_no}
use Rattle.mg_server.proofs.Collections.{documents_put, documents_of_put, documents_changed, documents_without}
use Rattle.mg_server.proofs.Allowed.{named_by, place_fits, grown_changes, result_grown}
use Rattle.mg_server.specs.Filter.{Condition}

-- ---- the parts of a state

-- the parts of a state behind a step, and how many ids were given
pub record Parts (s' : State) (given' : ℕ) (documents : Space → Option (List Fields)) (changes : List Entry) (cursors : ℤ → Option Cursor) (given : ℕ) : Type 0 where
  pub documents_are : (space : Space) → documents_at s' space ≡ documents space
  pub changes_are : s'.changes ≡ changes
  pub cursors_are : s'.cursors ≡ cursors
  pub given_are : given' ≡ given

-- the parts behind a step that was told so
abbrev PartsBy : State → ℕ → Bool → Asked → Told → List Entry → (Space → Option (List Fields)) → List Entry → (ℤ → Option Cursor) → ℕ → Type 0
PartsBy s given started command reply entries documents changes cursors given' = Parts (next s command reply (made_by s started entries reply)) (given_by given reply) documents changes cursors given'

-- the parts behind a kept step
abbrev pub PartsBehind : State → ℕ → Bool → Kept → (Space → Option (List Fields)) → List Entry → (ℤ → Option Cursor) → ℕ → Type 0
PartsBehind s given started kept documents changes cursors given' = Parts (state_behind s given started kept) (given_after given kept) documents changes cursors given'

parts_by : (s : State) (given : ℕ) (started : Bool) (kept : Kept) (command : Asked) (t : Told) (entries : List Entry) (documents : Space → Option (List Fields)) (changes : List Entry) (cursors : ℤ → Option Cursor) (given' : ℕ)
    → asked kept.command ≡ command → told command kept.reply ≡ t → rule_entries s given kept ≡ entries → PartsBy s given started command t entries documents changes cursors given' → PartsBehind s given started kept documents changes cursors given'
unfolding made_of given_after
parts_by s given started kept command t entries documents changes cursors given' asks tells adds parts =
    let a = subst (λ (es : List Entry). PartsBy s given started command t es documents changes cursors given') (sym adds) parts in
    let b = subst (λ (u : Told). PartsBy s given started command u (rule_entries s given kept) documents changes cursors given') (sym tells) a in
    subst (λ (c : Asked). PartsBy s given started c (told c kept.reply) (rule_entries s given kept) documents changes cursors given') (sym asks) b

-- ---- refusals

more_refused : (b : Bool) (s : State) (given : ℕ) (id : ℤ) (documents : Space → Option (List Fields)) (changes : List Entry) → Parts s given documents changes s.cursors given
    → Parts (if b then record s { cursors = put_cursor id None s.cursors } else s) given documents changes (if b then put_cursor id None s.cursors else s.cursors) given
more_refused true s given id documents changes p = record { documents_are = p.documents_are; changes_are = p.changes_are; cursors_are = refl; given_are = refl }
more_refused false s given id documents changes p = p

none_grown : (s : State) (given : ℕ) (started : Bool) → Parts (grown s (made_none s started)) given (documents_at s) s.changes s.cursors given
unfolding grown
none_grown s given started = record { documents_are = λ sp. refl; changes_are = append-nil s.changes; cursors_are = refl; given_are = refl }

refused_parts : (s : State) (given : ℕ) (started : Bool) (command : Asked) (code : ℤ) (labels : List (List ℕ)) (entries : List Entry) → PartsBy s given started command (refuses code labels) entries (documents_at s) s.changes (cursors_refused command code s.cursors) given
unfolding effect grown
refused_parts s given started (asks_more id space) code labels entries = more_refused (ends_cursor code) (grown s (made_none s started)) given id (documents_at s) s.changes (none_grown s given started)
refused_parts s given started command code labels entries = none_grown s given started

-- behind a refusal, of the rules or of somebody's choice
pub behind_refusal : (s : State) (given : ℕ) (started : Bool) (kept : Kept) (code : ℤ) (labels : List (List ℕ)) → fields kept.reply ≡ refusal code labels
    → PartsBehind s given started kept (documents_at s) s.changes (cursors_refused (asked kept.command) code s.cursors) given
behind_refusal s given started kept code labels e =
    parts_by s given started kept (asked kept.command) (refuses code labels) (rule_entries s given kept) (documents_at s) s.changes (cursors_refused (asked kept.command) code s.cursors) given refl
    (told_reads (asked kept.command) kept.reply (refusal code labels) e ∙ refusal_tells (asked kept.command) code labels) refl (refused_parts s given started (asked kept.command) code labels (rule_entries s given kept))

-- ---- inserts

-- the rules' insert into the state
abbrev pub inserted_into : State → Space → List Fields → Bool → Inserted
inserted_into s space ds ordered = inserting space ordered 0 (length s.changes) (documents_of s space) ds

insert_parts : (s : State) (given : ℕ) (started : Bool) (space : Space) (ds : List Fields) (ordered : Bool) (n : ℤ) (failures : List Failure) (i : Inserted) → written ordered failures 0 ds ≡ i.documents
    → PartsBy s given started (asks_insert space ds ordered) (inserted n failures) i.entries (put_documents space (Some (documents_of s space ++ i.documents)) (documents_at s)) (s.changes ++ i.entries) s.cursors given
unfolding effect grown
insert_parts s given started space ds ordered n failures i same = record {
  documents_are = λ sp. documents_put s space (documents_of s space ++ written ordered failures 0 ds) sp ∙ ap (λ (l : List Fields). put_documents space (Some (documents_of s space ++ l)) (documents_at s) sp) same;
  changes_are = refl;
  cursors_are = refl;
  given_are = refl;
}

pub behind_insert : (s : State) (given : ℕ) (started : Bool) (kept : Kept) (space : Space) (ds : List Fields) (ordered : Bool) → request_of (fields kept.command) ≡ Ok (insert space ds ordered)
    → answer_of s (pos (suc given)) (fields kept.command) ≡ answer_insert s space ds ordered → fields kept.reply ≡ inserted_reply (inserted_into s space ds ordered)
    → PartsBehind s given started kept (put_documents space (Some (documents_of s space ++ (inserted_into s space ds ordered).documents)) (documents_at s)) (s.changes ++ (inserted_into s space ds ordered).entries) s.cursors given
behind_insert s given started kept space ds ordered asks answers e =
    let i : Inserted = inserted_into s space ds ordered in
    let is = inserting_is space ordered 0 (length s.changes) (documents_of s space) ds in
    let failures : List Failure = failing ordered 0 (documents_of s space) ds in
    parts_by s given started kept (asks_insert space ds ordered) (inserted (pos (length i.documents)) failures) i.entries (put_documents space (Some (documents_of s space ++ i.documents)) (documents_at s)) (s.changes ++ i.entries) s.cursors given
    (asked_is kept.command (insert space ds ordered) asks)
    (told_reads (asks_insert space ds ordered) kept.reply (inserted_reply i) e ∙ insert_tells space ds ordered i failures is.failures_are is.errors_keep)
    (ap (λ (a : Answer). a.entries) answers)
    (insert_parts s given started space ds ordered (pos (length i.documents)) failures i (is.written_are failures (λ m le. refl)))

-- ---- watches

grown_same : (s : State) (started : Bool) → (grown s (made_these s started [])).collections ≡ s.collections
unfolding grown
grown_same s started = refl

grown_cursors_same : (s : State) (started : Bool) → (grown s (made_these s started [])).cursors ≡ s.cursors
unfolding grown
grown_cursors_same s started = refl

opened_parts : (b : Bool) (s s' : State) (given : ℕ) (id : ℤ) (c d : Cursor) (ids : ℤ → Bool) → b ≡ false → c ≡ d → s'.collections ≡ s.collections → s'.changes ≡ s.changes → s'.cursors ≡ s.cursors
    → Parts (if b then s' else record s' { cursors = put_cursor id (Some c) s'.cursors; given = ids }) (if b then given else suc given) (documents_at s) s.changes (put_cursor id (Some d) s.cursors) (suc given)
opened_parts true s s' given id c d ids no_zero e ds es cs = absurd cc
opened_parts false s s' given id c d ids no_zero e ds es cs = record { documents_are = λ sp. ap (λ (l : List Collection). option_map (λ (c : Collection). c.documents) (collection_in l sp)) ds; changes_are = es; cursors_are = ap₂ (λ (x : Cursor) (f : ℤ → Option Cursor). put_cursor id (Some x) f) e cs; given_are = refl }

-- the state behind a reading step has the place by its token
place_known : (s : State) (given : ℕ) (started : Bool) (place : ℕ) → IsStoreState s given started → length s.changes < 2 ^ 64 → place ≤ length s.changes → (grown s (made_these s started [])).tokens (token_of place) ≡ Some place
place_known s given started place h lt le =
    let s' : State = grown s (made_these s started []) in
    let len : length s'.changes ≡ length s.changes = ap length (grown_changes s started) in
    named_by s' given place (state_these s given started [] h tt (omega arith)) (omega arith) (omega arith)

watching_known : (s : State) (given : ℕ) (started : Bool) (w : Watch) (place : ℕ) → IsStoreState s given started → length s.changes < 2 ^ 64 → place ≤ length s.changes → watching_at (grown s (made_these s started [])) w (Some (token_of place)) ≡ watching w place
watching_known s given started w place h lt le = ap (λ (o : Option ℕ). watching w (unwrap_or o 0)) (place_known s given started place h lt le)

-- the cursors, and how many ids were given, behind the opening of a watch
abbrev pub cursors_opened : Bool → ℕ → Cursor → (ℤ → Option Cursor) → ℤ → Option Cursor
cursors_opened ended given c cursors = if ended then cursors else put_cursor (pos (suc given)) (Some c) cursors

abbrev pub given_opened : Bool → ℕ → ℕ
given_opened ended given = if ended then given else suc given

none_opened : (s : State) (given : ℕ) (started : Bool) → Parts (grown s (made_these s started [])) given (documents_at s) s.changes s.cursors given
unfolding grown
none_opened s given started = record { documents_are = λ sp. refl; changes_are = append-nil s.changes; cursors_are = refl; given_are = refl }

watch_parts : (ended : Bool) (s : State) (given : ℕ) (started : Bool) (w : Watch) (start : Start) (space : Space) (events : List Fields) (place : ℕ) (time : Option ℕ) → IsStoreState s given started → length s.changes < 2 ^ 64 → place ≤ length s.changes
    → PartsBy s given started (asks_watch w start) (opened (id_unless ended (pos (suc given))) space events (Some (token_of place)) time) [] (documents_at s) s.changes (cursors_opened ended given (watching w place) s.cursors) (given_opened ended given)
unfolding effect
watch_parts true s given started w start space events place time h lt le = none_opened s given started
watch_parts false s given started w start space events place time h lt le =
    opened_parts (int_eq (pos (suc given)) (pos 0)) s (grown s (made_these s started [])) given (pos (suc given)) (watching_at (grown s (made_these s started [])) w (Some (token_of place))) (watching w place) _ (not_zero given)
    (watching_known s given started w place h lt le) (grown_same s started) (grown_changes s started) (grown_cursors_same s started)

pub behind_watch : (s : State) (given : ℕ) (started : Bool) (kept : Kept) (w : Watch) (start : Start) (resumes : Bool) (size : Option ℕ) (from n : ℕ) → IsStoreState s given started → length s.changes < 2 ^ 64
    → request_of (fields kept.command) ≡ Ok (watch w start resumes size) → place_at s w start resumes ≡ Ok from
    → answer_of s (pos (suc given)) (fields kept.command) ≡ answer_with [] (watch_reply s (pos (suc given)) w from n) → fields kept.reply ≡ watch_reply s (pos (suc given)) w from n
    → PartsBehind s given started kept (documents_at s) s.changes (cursors_opened (ends_watch w s.changes from (batch_place w s.changes from n)) given (watching w (batch_place w s.changes from n)) s.cursors) (given_opened (ends_watch w s.changes from (batch_place w s.changes from n)) given)
behind_watch s given started kept w start resumes size from n h lt asks at answers e =
    let place : ℕ = batch_place w s.changes from n in
    let ended : Bool = ends_watch w s.changes from place in
    let id : ℤ = batch_id (pos (suc given)) w s.changes from place in
    let le = place_fits s w start resumes from at in
    let within = batch_within w s.changes from n le in
    let named = (request_reads (fields kept.command) (watch w start resumes size) asks).named in
    parts_by s given started kept (asks_watch w start) (opened id (watch_space w.target) (events_between w s.changes from place) (Some (token_of place)) (Some (now_of (length s.changes)))) [] (documents_at s) s.changes
    (cursors_opened ended given (watching w place) s.cursors) (given_opened ended given)
    (asked_is kept.command (watch w start resumes size) asks)
    (told_reads (asks_watch w start) kept.reply (watch_reply s (pos (suc given)) w from n) e ∙ opened_tells w start id (watch_space w.target) (events_between w s.changes from place) place (length s.changes) named)
    (ap (λ (a : Answer). a.entries) answers)
    (watch_parts ended s given started w start (watch_space w.target) (events_between w s.changes from place) place (Some (now_of (length s.changes))) h lt within.1)

-- ---- batches

-- the cursor behind a batch
abbrev pub cursor_moved : Bool → Cursor → Option Cursor
cursor_moved ended c = if ended then None else Some c

moved_parts : (b : Bool) (s s' : State) (given : ℕ) (id : ℤ) (o : Option Cursor) (d : Cursor) → o ≡ Some d → s'.collections ≡ s.collections → s'.changes ≡ s.changes → s'.cursors ≡ s.cursors
    → Parts (record s' { cursors = put_cursor id (if b then None else o) s'.cursors }) given (documents_at s) s.changes (put_cursor id (cursor_moved b d) s.cursors) given
moved_parts b s s' given id o d e ds es cs = record {
  documents_are = λ sp. ap (λ (l : List Collection). option_map (λ (c : Collection). c.documents) (collection_in l sp)) ds;
  changes_are = es;
  cursors_are = ap₂ (λ (x : Option Cursor) (f : ℤ → Option Cursor). put_cursor id (if b then None else x) f) e cs;
  given_are = refl;
}

left_zero : (ended : Bool) (id : ℤ) → int_eq id (pos 0) ≡ false → int_eq (id_unless ended id) (pos 0) ≡ ended
left_zero true id no_zero = refl
left_zero false id no_zero = no_zero

more_parts : (ended : Bool) (s : State) (given : ℕ) (started : Bool) (id : ℤ) (space at : Space) (w : Watch) (from place : ℕ) (events : List Fields) → IsStoreState s given started → length s.changes < 2 ^ 64 → place ≤ length s.changes → s.cursors id ≡ Some (watching w from)
    → PartsBy s given started (asks_more id space) (gave (id_unless ended id) at events (Some (token_of place))) [] (documents_at s) s.changes (put_cursor id (cursor_moved ended (watching w place)) s.cursors) given
unfolding effect
more_parts ended s given started id space at w from place events h lt le stood =
    let s' : State = grown s (made_these s started []) in
    let there : s'.cursors id ≡ Some (watching w from) = ap (λ (f : ℤ → Option Cursor). f id) (grown_cursors_same s started) ∙ stood in
    let moves : moved s' events (Some (token_of place)) (s'.cursors id) ≡ Some (watching w place) = ap (moved s' events (Some (token_of place))) there ∙ ap Some (watching_known s given started w place h lt le) in
    subst (λ (b : Bool). Parts (record s' { cursors = put_cursor id (if b then None else moved s' events (Some (token_of place)) (s'.cursors id)) s'.cursors }) given (documents_at s) s.changes (put_cursor id (cursor_moved ended (watching w place)) s.cursors) given)
    (sym (left_zero ended id (is_zero_no given id (h.cursors_are id (watching w from) stood).1)))
    (moved_parts ended s s' given id (moved s' events (Some (token_of place)) (s'.cursors id)) (watching w place) moves (grown_same s started) (grown_changes s started) (grown_cursors_same s started))

pub behind_more : (s : State) (given : ℕ) (started : Bool) (kept : Kept) (id : ℤ) (space : Space) (size : Option ℕ) (w : Watch) (from n : ℕ) → IsStoreState s given started → length s.changes < 2 ^ 64
    → request_of (fields kept.command) ≡ Ok (more id space size) → s.cursors id ≡ Some (watching w from)
    → answer_of s (pos (suc given)) (fields kept.command) ≡ answer_with [] (more_reply s id space w from n) → fields kept.reply ≡ more_reply s id space w from n
    → PartsBehind s given started kept (documents_at s) s.changes (put_cursor id (cursor_moved (ends_watch w s.changes from (batch_place w s.changes from n)) (watching w (batch_place w s.changes from n))) s.cursors) given
behind_more s given started kept id space size w from n h lt asks stood answers e =
    let place : ℕ = batch_place w s.changes from n in
    let ended : Bool = ends_watch w s.changes from place in
    let left : ℤ = batch_id id w s.changes from place in
    let within = batch_within w s.changes from n (h.cursors_are id (watching w from) stood).0 in
    let named = (request_reads (fields kept.command) (more id space size) asks).named.0 in
    parts_by s given started kept (asks_more id space) (gave left space (events_between w s.changes from place) (Some (token_of place))) [] (documents_at s) s.changes (put_cursor id (cursor_moved ended (watching w place)) s.cursors) given
    (asked_is kept.command (more id space size) asks)
    (told_reads (asks_more id space) kept.reply (more_reply s id space w from n) e ∙ gave_tells id space left space (events_between w s.changes from place) place named)
    (ap (λ (a : Answer). a.entries) answers)
    (more_parts ended s given started id space space w from place (events_between w s.changes from place) h lt within.1 stood)

-- ---- queries

-- the documents behind a batch are those that are left
behind_taken : (n : ℕ) (ds : List Fields) → drop (length (take n ds)) ds ≡ drop n ds
behind_taken zero ds = refl
behind_taken (suc n) [] = refl
behind_taken (suc n) (d ∷ ds) = behind_taken n ds

-- the cursors behind a query whose reply has this id: with this one more, unless the id is 0
abbrev pub cursors_found : ℤ → Cursor → (ℤ → Option Cursor) → ℤ → Option Cursor
cursors_found id c cursors = if int_eq id (pos 0) then cursors else put_cursor id (Some c) cursors

abbrev pub given_found : ℤ → ℕ → ℕ
given_found id given = if int_eq id (pos 0) then given else suc given

found_parts : (b : Bool) (s s' : State) (given : ℕ) (id : ℤ) (c d : Cursor) (ids : ℤ → Bool) → c ≡ d → s'.collections ≡ s.collections → s'.changes ≡ s.changes → s'.cursors ≡ s.cursors
    → Parts (if b then s' else record s' { cursors = put_cursor id (Some c) s'.cursors; given = ids }) (if b then given else suc given) (documents_at s) s.changes (if b then s.cursors else put_cursor id (Some d) s.cursors) (if b then given else suc given)
found_parts true s s' given id c d ids e ds es cs = record { documents_are = λ sp. ap (λ (l : List Collection). option_map (λ (c : Collection). c.documents) (collection_in l sp)) ds; changes_are = es; cursors_are = cs; given_are = refl }
found_parts false s s' given id c d ids e ds es cs = opened_parts false s s' given id c d ids refl e ds es cs

find_parts : (s : State) (given : ℕ) (started : Bool) (q : Query) (id : ℤ) (space : Space) (n : ℕ) (ds : List Fields) → result s q ≡ Some ds
    → PartsBy s given started (asks_query q) (opened id space (take n ds) None None) [] (documents_at s) s.changes (cursors_found id (query space (drop n ds)) s.cursors) (given_found id given)
unfolding effect
find_parts s given started q id space n ds is =
    let s' : State = grown s (made_these s started []) in
    let known : queried_at s' q space (take n ds) ≡ query space (drop n ds) =
    ap (λ (o : Option (List Fields)). query space (drop (length (take n ds)) (unwrap_or o []))) (result_grown s (made_these s started []) q ds is) ∙ ap (query space) (behind_taken n ds) in
    found_parts (int_eq id (pos 0)) s s' given id (queried_at s' q space (take n ds)) (query space (drop n ds)) _ known (grown_same s started) (grown_changes s started) (grown_cursors_same s started)

pub behind_find : (s : State) (given : ℕ) (started : Bool) (kept : Kept) (q : Query) (ds : List Fields) → request_of (fields kept.command) ≡ Ok (find q) → result s q ≡ Some ds
    → answer_of s (pos (suc given)) (fields kept.command) ≡ answer_with [] (query_reply (pos (suc given)) q ds) → fields kept.reply ≡ query_reply (pos (suc given)) q ds
    → PartsBehind s given started kept (documents_at s) s.changes (cursors_found (query_id (pos (suc given)) q ds) (query (query_space q.source) (drop (first_held q ds) ds)) s.cursors) (given_found (query_id (pos (suc given)) q ds) given)
behind_find s given started kept q ds asks is answers e =
    let id : ℤ = query_id (pos (suc given)) q ds in
    let n : ℕ = first_held q ds in
    let named = (request_reads (fields kept.command) (find q) asks).named in
    parts_by s given started kept (asks_query q) (opened id (query_space q.source) (take n ds) None None) [] (documents_at s) s.changes (cursors_found id (query (query_space q.source) (drop n ds)) s.cursors) (given_found id given)
    (asked_is kept.command (find q) asks)
    (told_reads (asks_query q) kept.reply (query_reply (pos (suc given)) q ds) e ∙ found_tells q id (query_space q.source) (take n ds) named)
    (ap (λ (a : Answer). a.entries) answers)
    (find_parts s given started q id (query_space q.source) n ds is)

-- the cursor of a query that has these documents left, where any is
abbrev pub rest_of : Space → List Fields → Option Cursor
rest_of space [] = None
rest_of space (d ∷ ds) = Some (query space (d ∷ ds))

rest_if : (id : ℤ) (space : Space) (ds : List Fields) → int_eq id (pos 0) ≡ false → (if int_eq (id_while id ds) (pos 0) then None else Some (query space ds)) ≡ rest_of space ds
rest_if id space [] e = refl
rest_if id space (d ∷ ds) e = ap (λ (b : Bool). if b then None else Some (query space (d ∷ ds))) e

gone_on_parts : (s s' : State) (given : ℕ) (id : ℤ) (o p : Option Cursor) → o ≡ p → s'.collections ≡ s.collections → s'.changes ≡ s.changes → s'.cursors ≡ s.cursors
    → Parts (record s' { cursors = put_cursor id o s'.cursors }) given (documents_at s) s.changes (put_cursor id p s.cursors) given
gone_on_parts s s' given id o p e ds es cs = record { documents_are = λ sp. ap (λ (l : List Collection). option_map (λ (c : Collection). c.documents) (collection_in l sp)) ds; changes_are = es; cursors_are = ap₂ (put_cursor id) e cs; given_are = refl }

query_more_parts : (s : State) (given : ℕ) (started : Bool) (id : ℤ) (at space other : Space) (n : ℕ) (left : List Fields) → IsStoreState s given started → s.cursors id ≡ Some (query other left)
    → PartsBy s given started (asks_more id at) (gave (id_while id (drop n left)) space (take n left) None) [] (documents_at s) s.changes (put_cursor id (rest_of other (drop n left)) s.cursors) given
unfolding effect
query_more_parts s given started id at space other n left h stood =
    let s' : State = grown s (made_these s started []) in
    let next : ℤ = id_while id (drop n left) in
    let there : moved s' (take n left) None (s'.cursors id) ≡ Some (query other (drop n left)) =
    ap (λ (f : ℤ → Option Cursor). moved s' (take n left) None (f id)) (grown_cursors_same s started) ∙ ap (moved s' (take n left) None) stood ∙ ap (λ (l : List Fields). Some (query other l)) (behind_taken n left) in
    let no_zero = is_zero_no given id (h.cursors_are id (query other left) stood).1 in
    gone_on_parts s s' given id (if int_eq next (pos 0) then None else moved s' (take n left) None (s'.cursors id)) (rest_of other (drop n left))
    (ap (λ (o : Option Cursor). if int_eq next (pos 0) then None else o) there ∙ rest_if id other (drop n left) no_zero) (grown_same s started) (grown_changes s started) (grown_cursors_same s started)

pub behind_query_more : (s : State) (given : ℕ) (started : Bool) (kept : Kept) (id : ℤ) (space other : Space) (size : Option ℕ) (left : List Fields) (n : ℕ) → IsStoreState s given started → request_of (fields kept.command) ≡ Ok (more id space size) → s.cursors id ≡ Some (query other left)
    → answer_of s (pos (suc given)) (fields kept.command) ≡ answer_with [] (query_more_reply id space left n) → fields kept.reply ≡ query_more_reply id space left n
    → PartsBehind s given started kept (documents_at s) s.changes (put_cursor id (rest_of other (drop (batch_of_query n left) left)) s.cursors) given
behind_query_more s given started kept id space other size left n h asks stood answers e =
    let held : ℕ = batch_of_query n left in
    let named = (request_reads (fields kept.command) (more id space size) asks).named.0 in
    parts_by s given started kept (asks_more id space) (gave (id_while id (drop held left)) space (take held left) None) [] (documents_at s) s.changes (put_cursor id (rest_of other (drop held left)) s.cursors) given
    (asked_is kept.command (more id space size) asks)
    (told_reads (asks_more id space) kept.reply (query_more_reply id space left n) e ∙ more_found_tells id space (id_while id (drop held left)) space (take held left) named)
    (ap (λ (a : Answer). a.entries) answers)
    (query_more_parts s given started id space space other held left h stood)

-- ---- kills

kill_parts : (s : State) (given : ℕ) (started : Bool) (ids : List ℤ) → PartsBy s given started (asks_kill ids) killed [] (documents_at s) s.changes (without_cursors ids s.cursors) given
unfolding effect grown
kill_parts s given started ids = record { documents_are = λ sp. refl; changes_are = append-nil s.changes; cursors_are = refl; given_are = refl }

pub behind_kill : (s : State) (given : ℕ) (started : Bool) (kept : Kept) (ids : List ℤ) → request_of (fields kept.command) ≡ Ok (kill ids)
    → answer_of s (pos (suc given)) (fields kept.command) ≡ answer_with [] (killed_reply s ids) → fields kept.reply ≡ killed_reply s ids
    → PartsBehind s given started kept (documents_at s) s.changes (without_cursors ids s.cursors) given
behind_kill s given started kept ids asks answers e =
    parts_by s given started kept (asks_kill ids) killed [] (documents_at s) s.changes (without_cursors ids s.cursors) given
    (asked_is kept.command (kill ids) asks) (told_reads (asks_kill ids) kept.reply (killed_reply s ids) e ∙ killed_tells s ids) (ap (λ (a : Answer). a.entries) answers) (kill_parts s given started ids)

-- ---- collections and indexes

create_parts : (s : State) (given : ℕ) (started : Bool) (space : Space) → PartsBy s given started (asks_create space) done [] (put_documents space (Some []) (documents_at s)) s.changes s.cursors given
unfolding effect grown
create_parts s given started space = record { documents_are = λ sp. documents_put s space [] sp; changes_are = append-nil s.changes; cursors_are = refl; given_are = refl }

pub behind_create : (s : State) (given : ℕ) (started : Bool) (kept : Kept) (space : Space) → request_of (fields kept.command) ≡ Ok (create_collection space)
    → answer_of s (pos (suc given)) (fields kept.command) ≡ answer_with [] done_reply → fields kept.reply ≡ done_reply
    → PartsBehind s given started kept (put_documents space (Some []) (documents_at s)) s.changes s.cursors given
behind_create s given started kept space asks answers e =
    parts_by s given started kept (asks_create space) done [] (put_documents space (Some []) (documents_at s)) s.changes s.cursors given
    (asked_is kept.command (create_collection space) asks) (told_reads (asks_create space) kept.reply done_reply e ∙ created_tells space) (ap (λ (a : Answer). a.entries) answers) (create_parts s given started space)

indexes_parts : (s : State) (given : ℕ) (started : Bool) (space : Space) (indexes : List Index) → PartsBy s given started (asks_indexes space indexes) done [] (put_documents space (Some (documents_of s space)) (documents_at s)) s.changes s.cursors given
unfolding effect grown
indexes_parts s given started space indexes = record { documents_are = λ sp. documents_of_put s (record { space = space; documents = documents_of s space; indexes = with_indexes (indexes_of s space) indexes }) sp; changes_are = append-nil s.changes; cursors_are = refl; given_are = refl }

pub behind_indexes : (s : State) (given : ℕ) (started : Bool) (kept : Kept) (space : Space) (indexes : List Index) → request_of (fields kept.command) ≡ Ok (create_indexes space indexes)
    → answer_of s (pos (suc given)) (fields kept.command) ≡ answer_with [] done_reply → fields kept.reply ≡ done_reply
    → PartsBehind s given started kept (put_documents space (Some (documents_of s space)) (documents_at s)) s.changes s.cursors given
behind_indexes s given started kept space indexes asks answers e =
    parts_by s given started kept (asks_indexes space indexes) done [] (put_documents space (Some (documents_of s space)) (documents_at s)) s.changes s.cursors given
    (asked_is kept.command (create_indexes space indexes) asks) (told_reads (asks_indexes space indexes) kept.reply done_reply e ∙ indexed_tells space indexes) (ap (λ (a : Answer). a.entries) answers) (indexes_parts s given started space indexes)

-- ---- updates and deletes

update_parts : (s : State) (given : ℕ) (started : Bool) (space : Space) (conditions : List Condition) (m : Modification) (many : Bool) (n changed : ℤ) (entries : List Entry)
    → PartsBy s given started (asks_update space conditions m many) (updated n changed []) entries (changed_documents space (after_update conditions many m) (documents_at s)) (s.changes ++ entries) s.cursors given
unfolding effect grown
update_parts s given started space conditions m many n changed entries = record { documents_are = λ sp. documents_changed space (after_update conditions many m) s.collections sp; changes_are = refl; cursors_are = refl; given_are = refl }

pub behind_update : (s : State) (given : ℕ) (started : Bool) (kept : Kept) (space : Space) (conditions : List Condition) (m : Modification) (many : Bool) (n changed : ℕ) (entries : List Entry) → request_of (fields kept.command) ≡ Ok (update space conditions m many)
    → answer_of s (pos (suc given)) (fields kept.command) ≡ answer_with entries (updated_reply n changed) → fields kept.reply ≡ updated_reply n changed
    → PartsBehind s given started kept (changed_documents space (after_update conditions many m) (documents_at s)) (s.changes ++ entries) s.cursors given
behind_update s given started kept space conditions m many n changed entries asks answers e =
    parts_by s given started kept (asks_update space conditions m many) (updated (pos n) (pos changed) []) entries (changed_documents space (after_update conditions many m) (documents_at s)) (s.changes ++ entries) s.cursors given
    (asked_is kept.command (update space conditions m many) asks) (told_reads (asks_update space conditions m many) kept.reply (updated_reply n changed) e ∙ updated_tells space conditions m many n changed)
    (ap (λ (a : Answer). a.entries) answers) (update_parts s given started space conditions m many (pos n) (pos changed) entries)

delete_parts : (s : State) (given : ℕ) (started : Bool) (space : Space) (conditions : List Condition) (many : Bool) (n : ℤ) (entries : List Entry)
    → PartsBy s given started (asks_delete space conditions many) (deleted n []) entries (changed_documents space (after_delete conditions many) (documents_at s)) (s.changes ++ entries) s.cursors given
unfolding effect grown
delete_parts s given started space conditions many n entries = record { documents_are = λ sp. documents_changed space (after_delete conditions many) s.collections sp; changes_are = refl; cursors_are = refl; given_are = refl }

pub behind_delete : (s : State) (given : ℕ) (started : Bool) (kept : Kept) (space : Space) (conditions : List Condition) (many : Bool) (n : ℕ) (entries : List Entry) → request_of (fields kept.command) ≡ Ok (delete space conditions many)
    → answer_of s (pos (suc given)) (fields kept.command) ≡ answer_with entries (deleted_reply n) → fields kept.reply ≡ deleted_reply n
    → PartsBehind s given started kept (changed_documents space (after_delete conditions many) (documents_at s)) (s.changes ++ entries) s.cursors given
behind_delete s given started kept space conditions many n entries asks answers e =
    parts_by s given started kept (asks_delete space conditions many) (deleted (pos n) []) entries (changed_documents space (after_delete conditions many) (documents_at s)) (s.changes ++ entries) s.cursors given
    (asked_is kept.command (delete space conditions many) asks) (told_reads (asks_delete space conditions many) kept.reply (deleted_reply n) e ∙ deleted_tells space conditions many n)
    (ap (λ (a : Answer). a.entries) answers) (delete_parts s given started space conditions many (pos n) entries)

drop_parts : (s : State) (given : ℕ) (started : Bool) (space : Space) (entries : List Entry) → PartsBy s given started (asks_drop space) done entries (put_documents space None (documents_at s)) (s.changes ++ entries) s.cursors given
unfolding effect grown
drop_parts s given started space entries = record { documents_are = λ sp. documents_without s space sp; changes_are = refl; cursors_are = refl; given_are = refl }

pub behind_drop : (s : State) (given : ℕ) (started : Bool) (kept : Kept) (space : Space) → request_of (fields kept.command) ≡ Ok (drop_collection space)
    → answer_of s (pos (suc given)) (fields kept.command) ≡ answer_with (dropped_entries (length s.changes) space) done_reply → fields kept.reply ≡ done_reply
    → PartsBehind s given started kept (put_documents space None (documents_at s)) (s.changes ++ dropped_entries (length s.changes) space) s.cursors given
behind_drop s given started kept space asks answers e =
    parts_by s given started kept (asks_drop space) done (dropped_entries (length s.changes) space) (put_documents space None (documents_at s)) (s.changes ++ dropped_entries (length s.changes) space) s.cursors given
    (asked_is kept.command (drop_collection space) asks) (told_reads (asks_drop space) kept.reply done_reply e ∙ dropped_tells space) (ap (λ (a : Answer). a.entries) answers) (drop_parts s given started space (dropped_entries (length s.changes) space))
