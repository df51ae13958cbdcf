-- What a server may reply, and the state after it (CRUD, change streams, getMore, killCursors, enumerating collections and indexes specifications).
use Rattle.std.specs.Prelude.{◌≡◌, ◌≢◌, ◌⊎◌, ℕ, suc, ◌+◌, ◌≤◌, ℤ, pos, Bool, true, false, Option, Some, None, option_and_then, unwrap_or, List, [], ◌∷◌, ◌++◌, length, codes, if◌then◌else◌, drop}
use Rattle.std.specs.Ordering.{int_eq}
use Rattle.mg_bson.specs.Tree.{Tree, Fields}
use Rattle.mg_bson.specs.Find.{get}
use Rattle.mg_link.specs.Namespace.{Space}
use Rattle.mg_server.specs.Filter.{is_same, Condition}
use Rattle.mg_server.specs.State.{inserts, Entry, Watch, Cursor, watching, State, Start, seen_between, IsBatchBetween, start_place, is_invalidate, documents_at, collections_with, put_cursor, without_cursors, give, name, Change, deletes, drops, invalidates, Collection, query, collection_in, put_collection, without_collection, change_documents, indexes_of}
use Rattle.mg_server.specs.Commands.{Asked, asks_insert, asks_watch, asks_more, asks_kill, Failure, Told, refuses, inserted, opened, gave, killed, asks_update, asks_delete, asks_query, asks_create, asks_indexes, asks_drop, updated, deleted, done}
use Rattle.mg_server.specs.Query.{Query, result}
use Rattle.mg_server.specs.Write.{Modification, change_of, chosen, changing, after_update, after_delete, with_indexes}

-- a token and the place that it names
pub record Named : Type 0 where
  pub token : Tree
  pub place : ℕ

-- what a step adds: entries and tokens, and the time behind it
pub record Made : Type 0 where
  pub entries : List Entry
  pub tokens : List Named
  pub now : ℕ

-- ---- the state after a step

-- the token of each entry names the place behind it
abbrev pub name_entries : ℕ → List Entry → (Tree → Option ℕ) → Tree → Option ℕ
name_entries place [] tokens = tokens
name_entries place (e ∷ es) tokens = name_entries (suc place) es (name e.token (suc place) tokens)

abbrev pub name_all : List Named → (Tree → Option ℕ) → Tree → Option ℕ
name_all [] tokens = tokens
name_all (n ∷ ns) tokens = name_all ns (name n.token n.place tokens)

-- the state with what a step adds
unfoldable pub grown : State → Made → State
grown s made = record s { changes = s.changes ++ made.entries; tokens = name_all made.tokens (name_entries (length s.changes) made.entries s.tokens); now = made.now }

-- the failures list this document
abbrev pub is_listed : ℕ → List Failure → Bool
is_listed n [] = false
is_listed n (f ∷ fs) = if int_eq f.index (pos n) then true else is_listed n fs

-- the documents of an insert, numbered from n, that its failures do not list; an ordered one stops at the first that they list
abbrev pub written : Bool → List Failure → ℕ → List Fields → List Fields
written ordered failures n [] = []
written ordered failures n (d ∷ ds) = if is_listed n failures then (if ordered then [] else written ordered failures (suc n) ds) else d ∷ written ordered failures (suc n) ds

-- the documents of a collection, none where it is not there
abbrev pub documents_of : State → Space → List Fields
documents_of s space = unwrap_or (documents_at s space) []

-- the token of a reply names the place
abbrev pub IsNamed : State → Option Tree → ℕ → Type 0
IsNamed s (Some token) place = s.tokens token ≡ Some place
IsNamed s None place = ⊥

-- a cursor of a watch at the place that the token names
abbrev pub watching_at : State → Watch → Option Tree → Cursor
watching_at s w token = watching w (unwrap_or (option_and_then s.tokens token) 0)

-- a cursor of a query with what its result has behind these documents
abbrev pub queried_at : State → Query → Space → List Fields → Cursor
queried_at s q space given = query space (drop (length given) (unwrap_or (result s q) []))

-- a reply with id 0 leaves the server without the cursor (find and getMore commands: an id of 0 says that the server holds no cursor)
abbrev pub opened_cursor : State → ℤ → Cursor → State
opened_cursor s id c = if int_eq id (pos 0) then s else record s { cursors = put_cursor id (Some c) s.cursors; given = give id s.given }

-- a cursor behind a batch
abbrev pub moved : State → List Fields → Option Tree → Option Cursor → Option Cursor
moved s given token None = None
moved s given token (Some (watching w place)) = Some (watching_at s w token)
moved s given token (Some (query space left)) = Some (query space (drop (length given) left))

abbrev pub moved_cursor : State → ℤ → ℤ → List Fields → Option Tree → State
moved_cursor s id left given token = record s { cursors = put_cursor id (if int_eq left (pos 0) then None else moved s given token (s.cursors id)) s.cursors }

-- the codes with which a server refuses a cursor that it does not hold, or that was killed (CursorNotFound, CursorKilled)
abbrev pub ends_cursor : ℤ → Bool
ends_cursor code = if int_eq code (pos 43) then true else int_eq code (pos 237)

-- the cursors behind a refusal
abbrev pub cursors_refused : Asked → ℤ → (ℤ → Option Cursor) → ℤ → Option Cursor
cursors_refused (asks_more id space) code cursors = if ends_cursor code then put_cursor id None cursors else cursors
cursors_refused command code cursors = cursors

-- what the command does beside what the step adds
unfoldable pub effect : State → Asked → Told → State
effect s (asks_insert space documents ordered) (inserted n failures) = record s { collections = collections_with s space (documents_of s space ++ written ordered failures 0 documents) }
effect s (asks_update space conditions modification many) (updated n changed []) = record s { collections = change_documents space (after_update conditions many modification) s.collections }
effect s (asks_delete space conditions many) (deleted n []) = record s { collections = change_documents space (after_delete conditions many) s.collections }
effect s (asks_create space) done = record s { collections = collections_with s space [] }
effect s (asks_indexes space indexes) done = record s { collections = put_collection (record { space = space; documents = documents_of s space; indexes = with_indexes (indexes_of s space) indexes }) s.collections }
effect s (asks_drop space) done = record s { collections = without_collection space s.collections }
effect s (asks_query q) (opened id space documents token time) = opened_cursor s id (queried_at s q space documents)
effect s (asks_watch watch start) (opened id space events token time) = opened_cursor s id (watching_at s watch token)
effect s (asks_more id space) (gave left other documents token) = moved_cursor s id left documents token
effect s (asks_more id space) (refuses code labels) = if ends_cursor code then record s { cursors = put_cursor id None s.cursors } else s
effect s (asks_kill ids) killed = record s { cursors = without_cursors ids s.cursors }
effect s command reply = s

-- the state after a step
abbrev pub next : State → Asked → Told → Made → State
next s command reply made = effect (grown s made) command reply

-- ---- what a server may reply

-- the tokens of new entries, each with the place behind it
abbrev pub entry_names : ℕ → List Entry → List Named
entry_names place [] = []
entry_names place (e ∷ es) = record { token = e.token; place = suc place } ∷ entry_names (suc place) es

-- each token is new, and names a place that is there
abbrev pub AreNewNames : ℕ → (Tree → Option ℕ) → List Named → Type 0
AreNewNames end tokens [] = Unit {0}
AreNewNames end tokens (n ∷ ns) = (tokens n.token ≡ None) × (n.place ≤ end) × AreNewNames end (name n.token n.place tokens) ns

abbrev pub AreWithin : ℕ → ℕ → List Entry → Type 0
AreWithin from upto [] = Unit {0}
AreWithin from upto (e ∷ es) = (from ≤ e.time) × (e.time ≤ upto) × AreWithin from upto es

-- what a step adds is new, and the time does not fall
-- (change events: `clusterTime` is the time of the oplog entry, and each resume token identifies one event)
pub record MayGrow (s : State) (made : Made) : Type 0 where
  pub later : s.now ≤ made.now
  pub times : AreWithin s.now made.now made.entries
  pub names : AreNewNames (length s.changes + length made.entries) s.tokens (entry_names (length s.changes) made.entries ++ made.tokens)

-- a command that reads adds no entry
abbrev pub AddsNoEntry : Made → Type 0
AddsNoEntry made = made.entries ≡ []

-- a refusal adds nothing but tokens, which is our own
-- (command replies: where a command fails `ok` is 0, beside `code`, `codeName`, `errmsg` and, where there are any, `errorLabels`)
pub record MayRefuse (s : State) (made : Made) : Type 0 where
  pub no_entry : AddsNoEntry made
  pub same_time : made.now ≡ s.now

-- no document of the list has the id
abbrev pub HasNoId : Tree → List Fields → Type 0
HasNoId id [] = Unit {0}
HasNoId id (d ∷ ds) = ((other : Tree) → get (codes "_id") d ≡ Some other → is_same id other ≡ false) × HasNoId id ds

-- each new document has an id that none before it has
abbrev pub HaveNewIds : List Fields → List Fields → Type 0
HaveNewIds there [] = Unit {0}
HaveNewIds there (d ∷ ds) = ((id : Tree) × (get (codes "_id") d ≡ Some id) × HasNoId id there) × HaveNewIds (there ++ d ∷ []) ds

-- the entry of a change: its event has the token as its `_id`, and may tell what the server likes
pub record IsEventOf (space : Space) (change : Change) (e : Entry) : Type 0 where
  pub at : e.space ≡ space
  pub change_is : e.change ≡ change
  pub token_is : get (codes "_id") e.event ≡ Some e.token

-- one entry for each changed document, in order
abbrev pub AreEventsOf : Space → Change → List Fields → List Entry → Type 0
AreEventsOf space change [] [] = Unit {0}
AreEventsOf space change (d ∷ ds) (e ∷ es) = IsEventOf space change e × AreEventsOf space change ds es
AreEventsOf space change [] (e ∷ es) = ⊥
AreEventsOf space change (d ∷ ds) [] = ⊥

-- insert command: where `ordered` is true the first failure ends it, and otherwise the other documents are inserted all the same
pub record MayInsert (s : State) (space : Space) (documents : List Fields) (ordered : Bool) (n : ℤ) (failures : List Failure) (made : Made) : Type 0 where
  pub count : n ≡ pos (length (written ordered failures 0 documents))
  pub ids : HaveNewIds (documents_of s space) (written ordered failures 0 documents)
  pub entries : AreEventsOf space inserts (written ordered failures 0 documents) made.entries

-- an update or a delete that lists a write error did nothing, which is our own: a server that did a part has no legal history here
pub record DidNothing (n : ℤ) (made : Made) : Type 0 where
  pub count : n ≡ pos 0
  pub no_entry : AddsNoEntry made

-- one that lists none changed all that it was for
-- (update command: `n` documents were selected and `nModified` changed; the latter are fewer where one is left as it was)
pub record MayUpdate (s : State) (space : Space) (conditions : List Condition) (m : Modification) (many : Bool) (n changed : ℤ) (made : Made) : Type 0 where
  pub count : n ≡ pos (length (chosen conditions many (documents_of s space)))
  pub changed_is : changed ≡ pos (length (changing conditions many m (documents_of s space)))
  pub entries : AreEventsOf space (change_of m) (changing conditions many m (documents_of s space)) made.entries

-- the same of a delete (delete command: `n` documents were deleted)
pub record MayDelete (s : State) (space : Space) (conditions : List Condition) (many : Bool) (n : ℤ) (made : Made) : Type 0 where
  pub count : n ≡ pos (length (chosen conditions many (documents_of s space)))
  pub entries : AreEventsOf space deletes (chosen conditions many (documents_of s space)) made.entries

-- a collection is created where none of the name is there (create command: NamespaceExists where one is)
pub record MayCreate (s : State) (space : Space) (made : Made) : Type 0 where
  pub no_entry : AddsNoEntry made
  pub is_new : collection_in s.collections space ≡ None

-- a drop of a collection that is there logs that it was dropped, and then that watches of it end (drop event: it leads to an invalidate event for streams on its own collection)
pub record MayDrop (s : State) (space : Space) (made : Made) : Type 0 where
  pub collection : Collection
  pub there : collection_in s.collections space ≡ Some collection
  pub dropped : Entry
  pub ended : Entry
  pub entries : made.entries ≡ dropped ∷ ended ∷ []
  pub drop_is : IsEventOf space drops dropped
  pub end_is : IsEventOf space invalidates ended

-- where no collection of the name is there, a server may also succeed, and has nothing to log
pub record DropsNothing (s : State) (space : Space) (made : Made) : Type 0 where
  pub no_entry : AddsNoEntry made
  pub missing : collection_in s.collections space ≡ None

-- a batch of a query ends its cursor where nothing is left, or where one batch was asked for, which holds a document unless its size was 0
abbrev pub MayEnd : Query → List Fields → List Fields → Type 0
MayEnd q given left = (left ≡ []) ⊎ ((q.single ≡ true) × ((given ≢ []) ⊎ (q.size ≡ Some 0)))

-- the first batch of a query: its result begins with it (find command: it is `firstBatch`, and `singleBatch` closes the cursor behind it)
pub record MayFind (s s' : State) (q : Query) (id : ℤ) (given : List Fields) (made : Made) : Type 0 where
  pub no_entry : AddsNoEntry made
  pub left : List Fields
  pub these : result s' q ≡ Some (given ++ left)
  pub fresh : id ≢ pos 0 → s.given id ≡ false
  pub ends : id ≡ pos 0 → MayEnd q given left

-- a query goes on: what was left begins with the batch, and the cursor ends only where nothing is left (getMore command: it gives the batches of a cursor that follow)
pub record MayGoThrough (s : State) (id next : ℤ) (given : List Fields) (made : Made) : Type 0 where
  pub no_entry : AddsNoEntry made
  pub space : Space
  pub left : List Fields
  pub stood : s.cursors id ≡ Some (query space (given ++ left))
  pub same : (next ≡ id) ⊎ ((next ≡ pos 0) × (left ≡ []))

-- an invalidate entry is the last that a batch holds (change streams: behind an invalidate event the cursor is closed)
abbrev pub EndsAtInvalidate : List Entry → ℤ → Type 0
EndsAtInvalidate [] id = Unit {0}
EndsAtInvalidate (e ∷ []) id = is_invalidate e.change ≡ true → id ≡ pos 0
EndsAtInvalidate (e ∷ f ∷ es) id = (is_invalidate e.change ≡ false) × EndsAtInvalidate (f ∷ es) id

-- a batch of a watch from one place: the server chooses where it ends, and the token names that place (change streams specification, `postBatchResumeToken`: the token to go on with behind the last document of the batch)
pub record MayGive (s : State) (w : Watch) (from : ℕ) (id : ℤ) (events : List Fields) (token : Option Tree) : Type 0 where
  pub upto : ℕ
  pub forward : from ≤ upto
  pub within : upto ≤ length s.changes
  pub these : IsBatchBetween w s.changes from upto events
  pub named : IsNamed s token upto
  pub ends : EndsAtInvalidate (seen_between w s.changes from upto) id

-- a new watch: s is the state before the step, and after it the tokens and the time of s' hold
-- (command replies: `operationTime` is the time of the operation; change streams: `startAtOperationTime` begins at such a time)
pub record MayOpen (s s' : State) (w : Watch) (start : Start) (id : ℤ) (events : List Fields) (token : Option Tree) (time : Option ℕ) (made : Made) : Type 0 where
  pub no_entry : AddsNoEntry made
  pub from : ℕ
  pub begins : start_place s' start ≡ Some from
  pub batch : MayGive s' w from id events token
  pub fresh : id ≢ pos 0 → s.given id ≡ false
  pub time_is : time ≡ Some s'.now

-- a watch goes on (getMore command: `nextBatch` follows what was given; the id is the cursor's, or 0 where it is closed)
pub record MayGoOn (s s' : State) (id left : ℤ) (events : List Fields) (token : Option Tree) (made : Made) : Type 0 where
  pub no_entry : AddsNoEntry made
  pub watch : Watch
  pub at : ℕ
  pub stood : s.cursors id ≡ Some (watching watch at)
  pub batch : MayGive s' watch at left events token
  pub same : (left ≡ id) ⊎ (left ≡ pos 0)

abbrev pub MayTell : State → State → Asked → Told → Made → Type 0
MayTell s s' command (refuses code labels) made = MayRefuse s made
MayTell s s' (asks_insert space documents ordered) (inserted n failures) made = MayInsert s space documents ordered n failures made
MayTell s s' (asks_watch watch start) (opened id space events token time) made = MayOpen s s' watch start id events token time made
MayTell s s' (asks_update space conditions modification many) (updated n changed []) made = MayUpdate s space conditions modification many n changed made
MayTell s s' (asks_update space conditions modification many) (updated n changed (f ∷ fs)) made = DidNothing n made × (changed ≡ pos 0)
MayTell s s' (asks_delete space conditions many) (deleted n []) made = MayDelete s space conditions many n made
MayTell s s' (asks_delete space conditions many) (deleted n (f ∷ fs)) made = DidNothing n made
MayTell s s' (asks_create space) done made = MayCreate s space made
MayTell s s' (asks_indexes space indexes) done made = AddsNoEntry made
MayTell s s' (asks_drop space) done made = MayDrop s space made ⊎ DropsNothing s space made
MayTell s s' (asks_query q) (opened id space documents token time) made = MayFind s s' q id documents made
MayTell s s' (asks_more id space) (gave left other events token) made = MayGoOn s s' id left events token made ⊎ MayGoThrough s id left events made
MayTell s s' (asks_kill ids) killed made = AddsNoEntry made
MayTell s s' command reply made = ⊥

-- a server in this state may reply so to the command, and add this
pub record May (s : State) (command : Asked) (reply : Told) (made : Made) : Type 0 where
  pub grows : MayGrow s made
  pub tells : MayTell s (grown s made) command reply made
