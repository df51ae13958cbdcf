-- What a server holds (change streams, find, getMore and killCursors specifications).
use Rattle.std.specs.Prelude.{◌≡◌, ℕ, suc, ◌+◌, ◌-◌, ◌*◌, ◌^◌, ◌&&◌, ℤ, Bool, true, false, Option, Some, None, option_map, unwrap_or, List, [], ◌∷◌, length, take, drop, map, nat_lt, if◌then◌else◌}
use Rattle.std.specs.declared.cmp.Ordering.{Ordering}
use Rattle.std.specs.List.{filter}
use Rattle.std.specs.List.Sorted.{IsStrictlySortedBy}
use Rattle.std.specs.Cmp.Lexicographic.{slice_cmp}
use Rattle.std.specs.Ordering.{int_eq, is_lt, nat_cmp, ordering_then}
use Rattle.std.specs.Str.{bytes_eq}
use Rattle.mg_bson.specs.Tree.{Tree, Fields}
use Rattle.mg_link.specs.Namespace.{Space, Target, database, collection, cluster}
use Rattle.mg_server.specs.Filter.{Condition, matches, is_same}

-- what happened to a document or a collection
pub data Change : Type 0 where
  inserts : Change
  updates : Change
  replaces : Change
  deletes : Change
  drops : Change
  invalidates : Change

-- a time, as BSON orders timestamps: seconds first, then the increment
abbrev pub time_of : ℕ → ℕ → ℕ
time_of seconds increment = seconds * 2 ^ 32 + increment

-- an entry of the list of changes; its event has the token as its `_id` (change events: the `_id` identifies the event, and is its resume token)
pub record Entry : Type 0 where
  pub token : Tree
  pub time : ℕ
  pub space : Space
  pub change : Change
  pub event : Fields

-- what a change stream is to see
pub record Watch : Type 0 where
  pub target : Target
  pub filter : List Condition

-- an open cursor: the documents that are left of a query and the namespace that it is of, or a watch and its place in the list of changes
-- (cursors: a cursor points to the result of a query)
pub data Cursor : Type 0 where
  query : (space : Space) → (left : List Fields) → Cursor
  watching : (watch : Watch) → (place : ℕ) → Cursor

-- an index by its name, and the names that it is by
pub record Index : Type 0 where
  pub name : List ℕ
  pub key : Fields

-- a collection that is there: its documents in their order, and its indexes beside that of `_id`
pub record Collection : Type 0 where
  pub space : Space
  pub documents : List Fields
  pub indexes : List Index

pub record State : Type 0 where
  -- those that are there, in the order of their names
  pub collections : List Collection
  -- place p stands before entry p, counted from 0
  pub changes : List Entry
  -- the place that a token names
  pub tokens : Tree → Option ℕ
  pub cursors : ℤ → Option Cursor
  -- the ids that were ever given to cursors
  pub given : ℤ → Bool
  pub now : ℕ

-- a server with nothing in it
abbrev pub nothing : State
nothing = record { collections = []; changes = []; tokens = λ token. None; cursors = λ id. None; given = λ id. false; now = 0 }

abbrev pub is_space : Space → Space → Bool
is_space s t = bytes_eq s.db t.db && bytes_eq s.coll t.coll

-- ---- collections

-- the order of names: by the database, then by the collection, each by its bytes
abbrev pub space_cmp : Space → Space → Ordering
space_cmp s t = ordering_then (slice_cmp nat_cmp s.db t.db) (slice_cmp nat_cmp s.coll t.coll)

abbrev pub comes_before : Space → Space → Bool
comes_before s t = is_lt (space_cmp s t)

abbrev pub names_of : List Collection → List Space
names_of cs = map (λ (c : Collection). c.space) cs

abbrev pub AreInOrder : List Collection → Type 0
AreInOrder cs = IsStrictlySortedBy space_cmp (names_of cs)

-- the collection of this name, where it is there
abbrev pub collection_in : List Collection → Space → Option Collection
collection_in [] space = None
collection_in (c ∷ cs) space = if is_space space c.space then Some c else collection_in cs space

-- the collection stands in place of that of its name, or where the order has a new one
abbrev pub put_collection : Collection → List Collection → List Collection
put_collection c [] = c ∷ []
put_collection c (d ∷ ds) = if is_space d.space c.space then c ∷ ds else (if comes_before c.space d.space then c ∷ d ∷ ds else d ∷ put_collection c ds)

-- the collections without that of this name
abbrev pub without_collection : Space → List Collection → List Collection
without_collection space [] = []
without_collection space (c ∷ cs) = if is_space space c.space then without_collection space cs else c ∷ without_collection space cs

-- the collections where the one of this name has other documents; one that is not there stays so
abbrev pub change_documents : Space → (List Fields → List Fields) → List Collection → List Collection
change_documents space g [] = []
change_documents space g (c ∷ cs) = if is_space space c.space then record c { documents = g c.documents } ∷ cs else c ∷ change_documents space g cs

-- the documents of a collection that is there
abbrev pub documents_at : State → Space → Option (List Fields)
documents_at s space = option_map (λ (c : Collection). c.documents) (collection_in s.collections space)

abbrev pub indexes_of : State → Space → List Index
indexes_of s space = unwrap_or (option_map (λ (c : Collection). c.indexes) (collection_in s.collections space)) []

-- the collections once this one has these documents
abbrev pub collections_with : State → Space → List Fields → List Collection
collections_with s space ds = put_collection (record { space = space; documents = ds; indexes = indexes_of s space }) s.collections

-- the documents of collections once this one has others
abbrev pub put_documents : Space → Option (List Fields) → (Space → Option (List Fields)) → Space → Option (List Fields)
put_documents space ds documents other = if is_space other space then ds else documents other

-- the documents of collections once this one's are changed
abbrev pub changed_documents : Space → (List Fields → List Fields) → (Space → Option (List Fields)) → Space → Option (List Fields)
changed_documents space g documents other = if is_space other space then option_map g (documents other) else documents other

-- ---- what a watch sees

-- invalidate event: it comes where an operation makes a stream invalid, as the drop of the collection that it is opened on
abbrev pub is_invalidate : Change → Bool
is_invalidate inserts = false
is_invalidate updates = false
is_invalidate replaces = false
is_invalidate deletes = false
is_invalidate drops = false
is_invalidate invalidates = true

abbrev pub unless : Bool → Bool → Bool
unless b c = if b then false else c

-- an entry belongs to a collection, to a database or to the cluster; only a collection has its invalidate entries (change streams: a stream is opened on a collection, on a database or on a whole deployment)
abbrev pub is_of : Target → Entry → Bool
is_of (collection space) e = is_space space e.space
is_of (database db) e = unless (is_invalidate e.change) (bytes_eq db e.space.db)
is_of cluster e = unless (is_invalidate e.change) true

-- the watch is to see the entry (change streams: a stream gives the changes of its target that its pipeline lets through)
abbrev pub sees : Watch → Entry → Bool
sees w e = is_of w.target e && matches w.filter e.event

-- the entries from one place up to another
abbrev pub between : List Entry → ℕ → ℕ → List Entry
between changes from upto = take (upto - from) (drop from changes)

-- the view: those that a watch is to see
abbrev pub seen_between : Watch → List Entry → ℕ → ℕ → List Entry
seen_between w changes from upto = filter (sees w) (between changes from upto)

-- their events
abbrev pub events_between : Watch → List Entry → ℕ → ℕ → List Fields
events_between w changes from upto = map (λ (e : Entry). e.event) (seen_between w changes from upto)

-- a batch from one place up to another gives these events: each that the watch is to see in between, whole, in their order
-- (change streams: the events come in the order of the changes, those of a batch up to its `postBatchResumeToken`)
abbrev pub IsBatchBetween : Watch → List Entry → (from upto : ℕ) → List Fields → Type 0
IsBatchBetween w changes from upto events = events ≡ events_between w changes from upto

-- where a watch begins
pub data Start : Type 0 where
  nowhere : Start
  after : (token : Tree) → Start
  at_time : (time : ℕ) → Start

-- how many entries have a time below this
abbrev pub count_before : ℕ → List Entry → ℕ
count_before time [] = 0
count_before time (e ∷ es) = if nat_lt e.time time then suc (count_before time es) else count_before time es

-- the place that a watch opens at (change streams: `startAfter` and `resumeAfter` give the first change behind the token, `startAtOperationTime` those at or after the time)
abbrev pub start_place : State → Start → Option ℕ
start_place s nowhere = Some (length s.changes)
start_place s (after token) = s.tokens token
start_place s (at_time time) = Some (count_before time s.changes)

-- ---- parts that change

abbrev pub put_cursor : ℤ → Option Cursor → (ℤ → Option Cursor) → ℤ → Option Cursor
put_cursor id cursor cursors other = if int_eq other id then cursor else cursors other

-- no cursor with one of the ids is left
abbrev pub without_cursors : List ℤ → (ℤ → Option Cursor) → ℤ → Option Cursor
without_cursors [] cursors = cursors
without_cursors (id ∷ ids) cursors = without_cursors ids (put_cursor id None cursors)

abbrev pub give : ℤ → (ℤ → Bool) → ℤ → Bool
give id given other = if int_eq other id then true else given other

-- the token names the place from now on
abbrev pub name : Tree → ℕ → (Tree → Option ℕ) → Tree → Option ℕ
name token place tokens other = if is_same other token then Some place else tokens other
