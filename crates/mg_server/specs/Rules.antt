-- The rules of the store in memory: what it answers to a command, and what it adds.
use Rattle.std.specs.Prelude.{◌≡◌, ◌⊎◌, ◌<◌, ◌≤◌, ℕ, zero, suc, ◌+◌, ◌-◌, ◌&&◌, ◌||◌, ℤ, pos, Bool, true, false, Option, Some, None, option_map, option_and_then, unwrap_or, is_some, Result, Ok, Err, List, [], ◌∷◌, ◌++◌, length, drop, take, map, min, nat_lt, nat_le, codes, if◌then◌else◌, slice_get}
use Rattle.std.specs.List.{list_all, list_any}
use Rattle.std.specs.Int.{w64, to_be_bytes}
use Rattle.std.specs.Ordering.{int_eq}
use Rattle.std.specs.Str.{bytes_eq}
use Rattle.hex.specs.Hex.{encode_lower}
use Rattle.mg_bson.specs.Tree.{Tree, string, document, array, int32, int64, timestamp, Fields, no_fields, field, Items, no_items, item}
use Rattle.mg_bson.specs.Bytes.{bytes, levels}
use Rattle.mg_bson.specs.Reading.{◌>>=◌}
use Rattle.mg_bson.specs.Find.{get, as_string, as_array}
use Rattle.mg_bson.specs.Literal.{◌⇒◌⨾◌, empty, word}
use Rattle.mg_link.specs.Namespace.{Space, Target, database, collection, cluster, full_name, has_dot}
use Rattle.mg_server.specs.Filter.{Condition, is_same}
use Rattle.mg_server.specs.State.{inserts, deletes, drops, invalidates, Change, Entry, Watch, Cursor, query, watching, State, Index, Start, nowhere, after, at_time, is_space, sees, seen_between, events_between, count_before, time_of, is_invalidate, collection_in, indexes_of}
use Rattle.mg_server.specs.Query.{Query, Source, of_collection, of_database, of_indexes, id_alone, index_listed, read, through}
use Rattle.mg_server.specs.Write.{Modification, sets, puts, modified, with_fields, change_of, chosen, changing, with_indexes}
use Rattle.mg_link.specs.Numbers.{as_integer}
use Rattle.mg_server.specs.Commands.{documents_in, flag_or, filter_stages, watch_stage_options, has_only, optional_count, batch_size, start_of, target_by, pipeline_fields, stages_in, create_fields, indexing_fields, indexes_in, find_fields, find_query, piped, update_fields, one_at, update_by, delete_fields, delete_by, drop_fields, collections_fields, listing_of, indexes_fields, indexes_listed}
use Rattle.mg_server.specs.Step.{documents_of}

-- ---- limits

-- the bytes of the name of a database or of a collection, which is our own: servers allow fewer
abbrev pub max_name : ℕ
max_name = 65536

-- limits: a BSON document has at most 16 mebibytes
abbrev pub max_document : ℕ
max_document = 16777216

-- as many levels as fit the event in a reply (limits: a BSON document has at most 100 levels of nesting)
abbrev pub max_stored_levels : ℕ
max_stored_levels = 96

-- as many levels as fit a document in a reply
abbrev pub max_given_levels : ℕ
max_given_levels = 97

-- cursors: a batch has at most 16 mebibytes
abbrev pub max_batch : ℕ
max_batch = 16777216

-- our own, with room for what stands around it in a message (hello command: `maxMessageSizeBytes` is 48,000,000)
abbrev pub max_reply : ℕ
max_reply = 47000000

-- find command: the first batch has 101 documents where no size is given; later ones have here, too
abbrev pub default_batch : ℕ
default_batch = 101

-- ---- codes of refusals, each by its name in the list of error codes

-- CommandNotFound
abbrev pub unknown_command : ℤ
unknown_command = pos 59

-- FailedToParse
abbrev pub bad_request : ℤ
bad_request = pos 9

-- CursorNotFound
abbrev pub no_such_cursor : ℤ
no_such_cursor = pos 43

-- InvalidResumeToken
abbrev pub no_such_token : ℤ
no_such_token = pos 260

-- DuplicateKey
abbrev pub duplicate_id : ℤ
duplicate_id = pos 11000

-- NamespaceNotFound
abbrev pub no_such_collection : ℤ
no_such_collection = pos 26

-- NamespaceExists
abbrev pub collection_exists : ℤ
collection_exists = pos 48

-- ---- what a command asks of the store

pub data Request : Type 0 where
  insert : (space : Space) (documents : List Fields) (ordered : Bool) → Request
  find : (query : Query) → Request
  watch : (seen : Watch) (start : Start) (resumes : Bool) (size : Option ℕ) → Request
  more : (id : ℤ) (space : Space) (size : Option ℕ) → Request
  kill : (ids : List ℤ) → Request
  create_collection : (space : Space) → Request
  create_indexes : (space : Space) (indexes : List Index) → Request
  update : (space : Space) (conditions : List Condition) (modification : Modification) (many : Bool) → Request
  delete : (space : Space) (conditions : List Condition) (many : Bool) → Request
  drop_collection : (space : Space) → Request

-- a text that may name a database or a collection
abbrev pub as_name : List ℕ → Option (List ℕ)
as_name s = if nat_lt 0 (length s) && nat_le (length s) max_name then Some s else None

abbrev pub name_at : List ℕ → Fields → Option (List ℕ)
name_at at fs = option_and_then as_name (option_and_then as_string (get at fs))

abbrev pub without_dot : List ℕ → Option (List ℕ)
without_dot s = if has_dot s then None else Some s

-- the collection that a field of the command names, in the database of the command
unfoldable pub named_space : List ℕ → Fields → Option Space
named_space at fs = name_at (codes "$db") fs >>= λ name. without_dot name >>= λ db. name_at at fs >>= λ coll. Some (record { db = db; coll = coll })

abbrev pub as_id : ℤ → Option ℤ
as_id (pos n) = Some (pos n)
as_id _ = None

abbrev pub id_of : Tree → Option ℤ
id_of t = option_and_then as_id (as_integer t)

abbrev pub array_at : List ℕ → Fields → Option Items
array_at name fs = option_and_then as_array (get name fs)

unfoldable pub insert_request : Fields → Option Request
insert_request fs = if has_only (codes "insert" ∷ codes "documents" ∷ codes "ordered" ∷ []) fs
    then (named_space (codes "insert") fs >>= λ space. array_at (codes "documents") fs >>= λ items. documents_in items >>= λ ds. flag_or true (get (codes "ordered") fs) >>= λ ordered. Some (insert space ds ordered))
    else None

unfoldable pub find_request : Fields → Option Request
find_request fs = if has_only find_fields fs then (named_space (codes "find") fs >>= find_query fs >>= λ q. Some (find q)) else None

-- the options of the stage that opens a watch
abbrev pub watch_options : List Fields → Option Fields
watch_options [] = None
watch_options (stage ∷ stages) = watch_stage_options stage

abbrev pub behind_first : List Fields → List Fields
behind_first [] = []
behind_first (stage ∷ stages) = stages

-- the database of a command
abbrev pub named_database : Fields → Option (List ℕ)
named_database fs = name_at (codes "$db") fs >>= without_dot

-- what a watch is aimed at: a collection by its name, or by 1 a whole database, or the cluster where the changes of all are asked for
abbrev pub target_at : Fields → Bool → Option Target
target_at fs all = named_database fs >>= λ db. target_by all db (name_at (codes "aggregate") fs) (option_and_then as_integer (get (codes "aggregate") fs))

abbrev pub option_names : List (List ℕ)
option_names = codes "resumeAfter" ∷ codes "startAfter" ∷ codes "startAtOperationTime" ∷ codes "allChangesForCluster" ∷ []

-- the watch with these options and this filter
abbrev pub watch_with : Fields → Fields → List Condition → Option Request
watch_with fs options filter = if has_only option_names options
    then (flag_or false (get (codes "allChangesForCluster") options) >>= λ all. target_at fs all >>= λ target. start_of options >>= λ start. batch_size fs >>= λ size.
    Some (watch (record { target = target; filter = filter }) start (is_some (get (codes "resumeAfter") options)) size))
    else None

unfoldable pub watch_request : Fields → Option Request
watch_request fs = if has_only pipeline_fields fs
    then (stages_in fs >>= λ stages. watch_options stages >>= λ options. filter_stages (behind_first stages) >>= watch_with fs options)
    else None

unfoldable pub pipeline_request : Fields → Option Request
pipeline_request fs = if has_only pipeline_fields fs then (named_space (codes "aggregate") fs >>= piped fs (stages_in fs) >>= λ q. Some (find q)) else None

-- the first of two readings
abbrev pub or_request : Option Request → Option Request → Option Request
or_request (Some r) other = Some r
or_request None other = other

-- an aggregate opens a watch, or is a query
abbrev pub aggregate_request : Fields → Option Request
aggregate_request fs = or_request (watch_request fs) (pipeline_request fs)

-- a batch size of 0 counts as none given
abbrev pub some_size : Option ℕ → Option ℕ
some_size None = None
some_size (Some zero) = None
some_size (Some (suc n)) = Some (suc n)

unfoldable pub more_request : Fields → Option Request
more_request fs = if has_only (codes "getMore" ∷ codes "collection" ∷ codes "batchSize" ∷ []) fs
    then (option_and_then id_of (get (codes "getMore") fs) >>= λ id. named_space (codes "collection") fs >>= λ space. optional_count (get (codes "batchSize") fs) >>= λ size. Some (more id space (some_size size)))
    else None

abbrev pub ids_in : Items → Option (List ℤ)
ids_in no_items = Some []
ids_in (item t ts) = id_of t >>= λ id. ids_in ts >>= λ ids. Some (id ∷ ids)

unfoldable pub kill_request : Fields → Option Request
kill_request fs = if has_only (codes "killCursors" ∷ codes "cursors" ∷ []) fs
    then (named_space (codes "killCursors") fs >>= λ space. array_at (codes "cursors") fs >>= λ items. ids_in items >>= λ ids. Some (kill ids))
    else None

unfoldable pub create_request : Fields → Option Request
create_request fs = if has_only create_fields fs then (named_space (codes "create") fs >>= λ space. Some (create_collection space)) else None

unfoldable pub indexes_request : Fields → Option Request
indexes_request fs = if has_only indexing_fields fs then (named_space (codes "createIndexes") fs >>= λ space. indexes_in fs >>= λ indexes. Some (create_indexes space indexes)) else None

unfoldable pub update_request : Fields → Option Request
update_request fs = if has_only update_fields fs then (named_space (codes "update") fs >>= λ space. one_at (codes "updates") fs >>= update_by (update space)) else None

unfoldable pub delete_request : Fields → Option Request
delete_request fs = if has_only delete_fields fs then (named_space (codes "delete") fs >>= λ space. one_at (codes "deletes") fs >>= delete_by (delete space)) else None

unfoldable pub drop_request : Fields → Option Request
drop_request fs = if has_only drop_fields fs then (named_space (codes "drop") fs >>= λ space. Some (drop_collection space)) else None

-- a list of collections, or of indexes, is a find of another source
unfoldable pub list_collections_request : Fields → Option Request
list_collections_request fs = if has_only collections_fields fs then (named_database fs >>= listing_of fs >>= λ q. Some (find q)) else None

unfoldable pub list_indexes_request : Fields → Option Request
list_indexes_request fs = if has_only indexes_fields fs then (named_space (codes "listIndexes") fs >>= indexes_listed fs >>= λ q. Some (find q)) else None

abbrev pub or_code : {A : Type 0} → ℤ → Option A → Result A ℤ
or_code code (Some x) = Ok x
or_code code None = Err code

-- what a command asks of the store, or the code with which it is refused; its first field names it
abbrev pub request_of : Fields → Result Request ℤ
request_of no_fields = Err unknown_command
request_of (field k t fs) = if bytes_eq k (codes "insert") then or_code bad_request (insert_request (field k t fs))
    else (if bytes_eq k (codes "aggregate") then or_code bad_request (aggregate_request (field k t fs))
    else (if bytes_eq k (codes "getMore") then or_code bad_request (more_request (field k t fs))
    else (if bytes_eq k (codes "killCursors") then or_code bad_request (kill_request (field k t fs))
    else (if bytes_eq k (codes "find") then or_code bad_request (find_request (field k t fs))
    else (if bytes_eq k (codes "create") then or_code bad_request (create_request (field k t fs))
    else (if bytes_eq k (codes "createIndexes") then or_code bad_request (indexes_request (field k t fs))
    else (if bytes_eq k (codes "update") then or_code bad_request (update_request (field k t fs))
    else (if bytes_eq k (codes "delete") then or_code bad_request (delete_request (field k t fs))
    else (if bytes_eq k (codes "drop") then or_code bad_request (drop_request (field k t fs))
    else (if bytes_eq k (codes "listCollections") then or_code bad_request (list_collections_request (field k t fs))
    else (if bytes_eq k (codes "listIndexes") then or_code bad_request (list_indexes_request (field k t fs)) else Err unknown_command)))))))))))

-- ---- tokens, times and events

-- the value is there, and is this one
abbrev pub same_id : Tree → Option Tree → Bool
same_id id None = false
same_id id (Some other) = is_same other id

-- the token of a place: the number in 16 hexadecimal digits
abbrev pub token_fields : ℕ → Fields
token_fields place = "_data" ⇒ string (encode_lower (to_be_bytes w64 place)) ⨾ empty

abbrev pub token_of : ℕ → Tree
token_of place = document (token_fields place)

-- the place up to this one whose token has the same encoding
unfoldable pub token_place : ℕ → Tree → Option ℕ
token_place zero t = if is_same t (token_of 0) then Some 0 else None
token_place (suc n) t = if is_same t (token_of (suc n)) then Some (suc n) else token_place n t

-- the seconds behind so many entries stay at the greatest number
abbrev pub seconds_of : ℕ → ℕ
seconds_of entries = min entries 4294967295

abbrev pub stamp_of : ℕ → Tree
stamp_of entries = timestamp (seconds_of entries) 1

abbrev pub now_of : ℕ → ℕ
now_of entries = time_of (seconds_of entries) 1

-- the event of an inserted document, whose entry stands before this place
abbrev pub insert_event : ℕ → Space → Tree → Fields → Fields
insert_event place space id d = "_id" ⇒ token_of place ⨾ "operationType" ⇒ word "insert" ⨾ "clusterTime" ⇒ stamp_of place
    ⨾ "ns" ⇒ document ("db" ⇒ string space.db ⨾ "coll" ⇒ string space.coll ⨾ empty) ⨾ "documentKey" ⇒ document ("_id" ⇒ id ⨾ empty) ⨾ "fullDocument" ⇒ document d ⨾ empty

abbrev pub insert_entry : ℕ → Space → Tree → Fields → Entry
insert_entry place space id d = record { token = token_of place; time = now_of place; space = space; change = inserts; event = insert_event place space id d }

-- the event of a change to this document, with what it tells besides
abbrev pub document_event : ℕ → List ℕ → Space → Fields → Fields → Fields
document_event place kind space d told = "_id" ⇒ token_of place ⨾ "operationType" ⇒ string kind ⨾ "clusterTime" ⇒ stamp_of place
    ⨾ "ns" ⇒ document ("db" ⇒ string space.db ⨾ "coll" ⇒ string space.coll ⨾ empty) ⨾ "documentKey" ⇒ document (id_alone (get (codes "_id") d)) ⨾ told

-- the fields that are to have another value than the document has
abbrev pub set_anew : Fields → Fields → Fields
set_anew d no_fields = no_fields
set_anew d (field k t fs) = if same_id t (get k d) then set_anew d fs else field k t (set_anew d fs)

-- an update tells of each name that it sets once, with the last value that it gives it
abbrev pub modified_event : ℕ → Space → Modification → Fields → Fields
modified_event place space (sets new) d = document_event place (codes "update") space d ("updateDescription" ⇒ document ("updatedFields" ⇒ document (set_anew d (with_fields new no_fields)) ⨾ "removedFields" ⇒ array no_items ⨾ empty) ⨾ empty)
modified_event place space (puts new) d = document_event place (codes "replace") space d ("fullDocument" ⇒ document (modified (puts new) d) ⨾ empty)

abbrev pub deleted_event : ℕ → Space → Fields → Fields
deleted_event place space d = document_event place (codes "delete") space d empty

abbrev pub dropped_event : ℕ → Space → Fields
dropped_event place space = "_id" ⇒ token_of place ⨾ "operationType" ⇒ word "drop" ⨾ "clusterTime" ⇒ stamp_of place ⨾ "ns" ⇒ document ("db" ⇒ string space.db ⨾ "coll" ⇒ string space.coll ⨾ empty) ⨾ empty

abbrev pub invalidate_event : ℕ → Fields
invalidate_event place = "_id" ⇒ token_of place ⨾ "operationType" ⇒ word "invalidate" ⨾ "clusterTime" ⇒ stamp_of place ⨾ empty

-- the entry that stands before this place
abbrev pub entry_before : ℕ → Space → Change → Fields → Entry
entry_before place space change event = record { token = token_of place; time = now_of place; space = space; change = change; event = event }

-- the entries of documents that are changed, behind this place
abbrev pub modified_entries : ℕ → Space → Modification → List Fields → List Entry
modified_entries place space m [] = []
modified_entries place space m (d ∷ ds) = entry_before (suc place) space (change_of m) (modified_event (suc place) space m d) ∷ modified_entries (suc place) space m ds

abbrev pub deleted_entries : ℕ → Space → List Fields → List Entry
deleted_entries place space [] = []
deleted_entries place space (d ∷ ds) = entry_before (suc place) space deletes (deleted_event (suc place) space d) ∷ deleted_entries (suc place) space ds

-- the entry of a drop, and that by which watches of the collection end
abbrev pub dropped_entries : ℕ → Space → List Entry
dropped_entries place space = entry_before (suc place) space drops (dropped_event (suc place) space) ∷ entry_before (suc (suc place)) space invalidates (invalidate_event (suc (suc place))) ∷ []

-- ---- inserts

-- some document of the list has the id
abbrev pub has_id : Tree → List Fields → Bool
has_id id [] = false
has_id id (d ∷ ds) = same_id id (get (codes "_id") d) || has_id id ds

-- a document that may be stored
abbrev pub is_storable : Fields → Bool
is_storable d = nat_le (length (bytes d)) max_document && nat_le (levels d) max_stored_levels

abbrev pub id_or_code : List Fields → Option Tree → Result Tree ℤ
id_or_code there None = Err bad_request
id_or_code there (Some id) = if has_id id there then Err duplicate_id else Ok id

-- the id of a document that is appended behind these, or the code of its write error
abbrev pub accept : List Fields → Fields → Result Tree ℤ
accept there d = if is_storable d then id_or_code there (get (codes "_id") d) else Err bad_request

-- what an insert appends: documents with their entries, and its write errors as the reply lists them
pub record Inserted : Type 0 where
  pub documents : List Fields
  pub entries : List Entry
  pub errors : Items

abbrev pub no_more : Inserted
no_more = record { documents = []; entries = []; errors = no_items }

abbrev pub with_document : Fields → Entry → Inserted → Inserted
with_document d e i = record { documents = d ∷ i.documents; entries = e ∷ i.entries; errors = i.errors }

abbrev pub write_error : ℕ → ℤ → Fields
write_error index code = "index" ⇒ int32 (pos index) ⨾ "code" ⇒ int32 code ⨾ "errmsg" ⇒ word "refused" ⨾ empty

abbrev pub with_error : ℕ → ℤ → Inserted → Inserted
with_error index code i = record { documents = i.documents; entries = i.entries; errors = item (document (write_error index code)) i.errors }

abbrev pub choose : Result Tree ℤ → (Tree → Inserted) → (ℤ → Inserted) → Inserted
choose (Ok id) ok err = ok id
choose (Err code) ok err = err code

-- the documents, numbered from index, behind those that are there; place is the one before the next entry
unfoldable pub inserting : Space → Bool → (index place : ℕ) → (there documents : List Fields) → Inserted
inserting space ordered index place there [] = no_more
inserting space ordered index place there (d ∷ ds) = choose (accept there d)
    (λ id. with_document d (insert_entry (suc place) space id d) (inserting space ordered (suc index) (suc place) (there ++ d ∷ []) ds))
    (λ code. with_error index code (if ordered then no_more else inserting space ordered (suc index) place there ds))

-- a count, in 32 bits where it fits
abbrev pub number_of : ℕ → Tree
number_of n = if nat_le n 2147483647 then int32 (pos n) else int64 (pos n)

abbrev pub errors_field : Items → Fields → Fields
errors_field no_items fs = fs
errors_field (item t ts) fs = "writeErrors" ⇒ array (item t ts) ⨾ fs

abbrev pub inserted_reply : Inserted → Fields
inserted_reply i = "n" ⇒ number_of (length i.documents) ⨾ errors_field i.errors ("ok" ⇒ int32 (pos 1) ⨾ empty)

-- ---- batches

abbrev pub behind_given : Option ℕ → Option ℕ
behind_given n = option_map suc n

-- an entry that is not given counts where one is given behind it
abbrev pub behind_other : Option ℕ → Option ℕ
behind_other None = None
behind_other (Some zero) = Some zero
behind_other (Some (suc n)) = Some (suc (suc n))

-- behind how many of the entries a batch ends that is full by its size or its bytes; none where it goes on to the end
unfoldable pub full_behind : Watch → (size room : ℕ) → (given : Bool) → List Entry → Option ℕ
full_behind w zero room given es = Some 0
full_behind w (suc size) room given [] = None
full_behind w (suc size) room given (e ∷ es) = if sees w e
    then (if given && nat_lt room (length (bytes e.event)) then Some 0
    else (if is_invalidate e.change then Some 1 else behind_given (full_behind w size (room - length (bytes e.event)) true es)))
    else behind_other (full_behind w (suc size) room given es)

-- the place behind so many more entries, or the end of the list where no number is said
abbrev pub place_or_end : List Entry → ℕ → Option ℕ → ℕ
place_or_end changes from None = length changes
place_or_end changes from (Some n) = from + n

-- the place behind a batch: a full one ends behind its last entry, and another at the end
abbrev pub batch_place : Watch → List Entry → ℕ → ℕ → ℕ
batch_place w changes from size = place_or_end changes from (full_behind w size max_batch false (drop from changes))

abbrev pub documents_of_items : List Fields → Items
documents_of_items [] = no_items
documents_of_items (d ∷ ds) = item (document d) (documents_of_items ds)

abbrev pub cursor_fields : ℤ → Space → Fields → Fields
cursor_fields id space batch = "id" ⇒ int64 id ⨾ "ns" ⇒ string (full_name space) ⨾ batch

abbrev pub first_batch : List Fields → ℕ → Fields
first_batch events place = "firstBatch" ⇒ array (documents_of_items events) ⨾ "postBatchResumeToken" ⇒ token_of place ⨾ empty

abbrev pub next_batch : List Fields → ℕ → Fields
next_batch events place = "nextBatch" ⇒ array (documents_of_items events) ⨾ "postBatchResumeToken" ⇒ token_of place ⨾ empty

-- ---- batches of queries

-- the bytes of documents together
abbrev pub bytes_of : List Fields → ℕ
bytes_of [] = 0
bytes_of (d ∷ ds) = length (bytes d) + bytes_of ds

-- how many of the documents a batch holds by its size and its bytes; one where the size is not 0
abbrev pub held_in : (size room : ℕ) → (given : Bool) → List Fields → ℕ
held_in zero room given ds = 0
held_in (suc size) room given [] = 0
held_in (suc size) room given (d ∷ ds) = if given && nat_lt room (length (bytes d)) then 0 else suc (held_in size (room - length (bytes d)) true ds)

abbrev pub batch_of_query : ℕ → List Fields → ℕ
batch_of_query size ds = held_in size max_batch false ds

-- so many documents are a batch: as many as its size and its bytes allow, and one more would be too many
pub record IsFull (size : ℕ) (ds : List Fields) (n : ℕ) : Type 0 where
  pub within : (n ≤ size) × (n ≤ length ds)
  pub some : 0 < size → 0 < length ds → 0 < n
  pub fits : (bytes_of (take n ds) ≤ max_batch) ⊎ (n ≡ 1)
  pub full : n < size → n < length ds → max_batch < bytes_of (take (suc n) ds)

-- the namespace that a query's cursor has
abbrev pub query_space : Source → Space
query_space (of_collection space) = space
query_space (of_database db) = record { db = db; coll = codes "$cmd.listCollections" }
query_space (of_indexes space) = space

-- a reply has this id while something is left
abbrev pub id_while : ℤ → List Fields → ℤ
id_while id [] = pos 0
id_while id (d ∷ ds) = id

-- how many documents the first batch of a query holds
abbrev pub first_held : Query → List Fields → ℕ
first_held q ds = batch_of_query (unwrap_or q.size default_batch) ds

-- the id of a query's reply, where id is the next one: none where one batch is asked for, or nothing is left
abbrev pub query_id : ℤ → Query → List Fields → ℤ
query_id id q ds = if q.single then pos 0 else id_while id (drop (first_held q ds) ds)

-- the part of a reply that holds a batch of a query, under this name
abbrev pub query_cursor : ℤ → Space → List ℕ → List Fields → Fields
query_cursor id space batch ds = "cursor" ⇒ document (cursor_fields id space (field batch (array (documents_of_items ds)) empty)) ⨾ "ok" ⇒ int32 (pos 1) ⨾ empty

abbrev pub query_reply : ℤ → Query → List Fields → Fields
query_reply id q ds = query_cursor (query_id id q ds) (query_space q.source) (codes "firstBatch") (take (first_held q ds) ds)

abbrev pub query_more_reply : ℤ → Space → List Fields → ℕ → Fields
query_more_reply id space left size =
    let n = batch_of_query size left in
    query_cursor (id_while id (drop n left)) space (codes "nextBatch") (take n left)

-- ---- answers

abbrev pub same_answer : Bool → Bool → Bool
same_answer true b = b
same_answer false b = if b then false else true

abbrev pub is_id_among : ℤ → List ℤ → Bool
is_id_among id [] = false
is_id_among id (other ∷ ids) = int_eq id other || is_id_among id ids

abbrev pub words_of : List (List ℕ) → Items
words_of [] = no_items
words_of (w ∷ ws) = item (string w) (words_of ws)

abbrev pub map_ok : {A B : Type 0} → (A → B) → Result A ℤ → Result B ℤ
map_ok f (Ok x) = Ok (f x)
map_ok f (Err code) = Err code

-- asked of a value, where there is one, and else its code
abbrev pub where_ok : {A B : Type 0} → (A → Result B ℤ) → Result A ℤ → Result B ℤ
where_ok f (Ok x) = f x
where_ok f (Err code) = Err code

-- a reply and the entries that its command adds
pub record Answer : Type 0 where
  pub reply : Fields
  pub entries : List Entry

abbrev pub answer_with : List Entry → Fields → Answer
answer_with entries reply = record { reply = reply; entries = entries }

abbrev pub answer_insert : State → Space → List Fields → Bool → Answer
answer_insert s space documents ordered = let i = inserting space ordered 0 (length s.changes) (documents_of s space) documents in answer_with i.entries (inserted_reply i)

-- the watch hands out the entry, and ends with it
abbrev pub ends_with : Watch → Option Entry → Bool
ends_with w None = false
ends_with w (Some e) = sees w e && is_invalidate e.change

-- the watch ended with the last entry before the place
abbrev pub ended_before : Watch → List Entry → ℕ → Bool
ended_before w changes zero = false
ended_before w changes (suc n) = ends_with w (slice_get changes n)

-- the place of a token; a watch that ended there is not resumed (change streams: `resumeAfter` cannot go on behind an invalidate event, `startAfter` can)
abbrev pub place_after : Watch → List Entry → Bool → Option ℕ → Result ℕ ℤ
place_after w changes resumes None = Err no_such_token
place_after w changes resumes (Some place) = if resumes && ended_before w changes place then Err no_such_token else Ok place

-- the place that a watch opens at
abbrev pub place_at : State → Watch → Start → Bool → Result ℕ ℤ
place_at s w nowhere resumes = Ok (length s.changes)
place_at s w (after token) resumes = place_after w s.changes resumes (token_place (length s.changes) token)
place_at s w (at_time time) resumes = Ok (count_before time s.changes)

-- the namespace that the cursor of a watch has
abbrev pub watch_space : Target → Space
watch_space (collection space) = space
watch_space (database db) = record { db = db; coll = codes "$cmd.aggregate" }
watch_space cluster = record { db = codes "admin"; coll = codes "$cmd.aggregate" }

abbrev pub has_invalidate : List Entry → Bool
has_invalidate es = list_any (λ (e : Entry). is_invalidate e.change) es

-- a watch that ends leaves no cursor
abbrev pub id_unless : Bool → ℤ → ℤ
id_unless ended id = if ended then pos 0 else id

-- the batch between two places hands out an invalidate entry
abbrev pub ends_watch : Watch → List Entry → ℕ → ℕ → Bool
ends_watch w changes from place = has_invalidate (seen_between w changes from place)

-- the events of the rules' batch between two places: just those that `IsBatchBetween` asks for
abbrev pub batch_events : Watch → List Entry → ℕ → ℕ → List Fields
batch_events w changes from place = events_between w changes from place

abbrev pub batch_id : ℤ → Watch → List Entry → ℕ → ℕ → ℤ
batch_id id w changes from place = id_unless (ends_watch w changes from place) id

abbrev pub watch_reply : State → ℤ → Watch → ℕ → ℕ → Fields
watch_reply s id w from size =
    let place = batch_place w s.changes from size in
    "cursor" ⇒ document (cursor_fields (batch_id id w s.changes from place) (watch_space w.target) (first_batch (batch_events w s.changes from place) place)) ⨾ "operationTime" ⇒ stamp_of (length s.changes) ⨾ "ok" ⇒ int32 (pos 1) ⨾ empty

abbrev pub more_reply : State → ℤ → Space → Watch → ℕ → ℕ → Fields
more_reply s id space w from size =
    let place = batch_place w s.changes from size in
    "cursor" ⇒ document (cursor_fields (batch_id id w s.changes from place) space (next_batch (batch_events w s.changes from place) place)) ⨾ "ok" ⇒ int32 (pos 1) ⨾ empty

abbrev pub is_watch_of : Space → Watch → Bool
is_watch_of space w = is_space space (watch_space w.target)

abbrev pub answer_more : State → ℤ → Space → ℕ → Option Cursor → Result Answer ℤ
answer_more s id space size None = Err no_such_cursor
answer_more s id space size (Some (query other left)) = if is_space space other then Ok (answer_with [] (query_more_reply id space left size)) else Err bad_request
answer_more s id space size (Some (watching w place)) = if is_watch_of space w then Ok (answer_with [] (more_reply s id space w place size)) else Err bad_request

-- the ids that name a cursor, and the others; one that was named before names none
abbrev pub is_killed : State → List ℤ → ℤ → Bool
is_killed s before id = if is_id_among id before then false else is_some (s.cursors id)

abbrev pub ids_if : Bool → State → List ℤ → List ℤ → Items
ids_if wanted s before [] = no_items
ids_if wanted s before (id ∷ ids) = if same_answer wanted (is_killed s before id) then item (int64 id) (ids_if wanted s (id ∷ before) ids) else ids_if wanted s (id ∷ before) ids

abbrev pub killed_reply : State → List ℤ → Fields
killed_reply s ids = "cursorsKilled" ⇒ array (ids_if true s [] ids) ⨾ "cursorsNotFound" ⇒ array (ids_if false s [] ids)
    ⨾ "cursorsAlive" ⇒ array no_items ⨾ "cursorsUnknown" ⇒ array no_items ⨾ "ok" ⇒ int32 (pos 1) ⨾ empty

abbrev pub size_of : Option ℕ → ℕ
size_of size = unwrap_or size default_batch

abbrev pub done_reply : Fields
done_reply = "ok" ⇒ int32 (pos 1) ⨾ empty

-- a document that a reply may give
abbrev pub may_be_given : Fields → Bool
may_be_given d = nat_le (levels d) max_given_levels

-- a document or an index that may stand in a collection
abbrev pub may_stay : Fields → Bool
may_stay d = nat_le (length (bytes d)) max_document && may_be_given d

abbrev pub events_may_be_given : List Entry → Bool
events_may_be_given es = list_all (λ (e : Entry). may_be_given e.event) es

abbrev pub updated_reply : (n changed : ℕ) → Fields
updated_reply n changed = "n" ⇒ number_of n ⨾ "nModified" ⇒ number_of changed ⨾ done_reply

abbrev pub deleted_reply : ℕ → Fields
deleted_reply n = "n" ⇒ number_of n ⨾ done_reply

-- an update whose documents or entries would pass a limit is refused
abbrev pub answer_update : State → Space → List Condition → Modification → Bool → Result Answer ℤ
answer_update s space conditions m many =
    let ds = documents_of s space in
    let changed = changing conditions many m ds in
    let entries = modified_entries (length s.changes) space m changed in
    if list_all may_stay (map (modified m) changed) && events_may_be_given entries
    then Ok (answer_with entries (updated_reply (length (chosen conditions many ds)) (length changed))) else Err bad_request

abbrev pub answer_delete : State → Space → List Condition → Bool → Result Answer ℤ
answer_delete s space conditions many =
    let gone = chosen conditions many (documents_of s space) in
    let entries = deleted_entries (length s.changes) space gone in
    if events_may_be_given entries then Ok (answer_with entries (deleted_reply (length gone))) else Err bad_request

-- create command: NamespaceExists where the collection is there
abbrev pub answer_create : State → Space → Result Answer ℤ
answer_create s space = if is_some (collection_in s.collections space) then Err collection_exists else Ok (answer_with [] done_reply)

-- indexes are refused where one would pass a limit
abbrev pub answer_indexes : State → Space → List Index → Result Answer ℤ
answer_indexes s space indexes = if list_all (λ (i : Index). may_stay (index_listed i)) (with_indexes (indexes_of s space) indexes) then Ok (answer_with [] done_reply) else Err bad_request

-- drop command: NamespaceNotFound where the collection is not there
abbrev pub answer_drop : State → Space → Result Answer ℤ
answer_drop s space = if is_some (collection_in s.collections space) then Ok (answer_with (dropped_entries (length s.changes) space) done_reply) else Err no_such_collection

abbrev pub answer_query : State → ℤ → Query → Result Answer ℤ
answer_query s id q = where_ok (λ ds. map_ok (λ result. answer_with [] (query_reply id q result)) (or_code bad_request (through q.stages ds))) (or_code no_such_collection (read s q.source))

-- what the store answers to a request; id is the next one that it gives to a cursor
abbrev pub answer : State → ℤ → Request → Result Answer ℤ
answer s id (insert space documents ordered) = Ok (answer_insert s space documents ordered)
answer s id (find q) = answer_query s id q
answer s id (watch w start resumes size) = map_ok (λ from. answer_with [] (watch_reply s id w from (size_of size))) (place_at s w start resumes)
answer s id (more cursor space size) = answer_more s cursor space (size_of size) (s.cursors cursor)
answer s id (kill ids) = Ok (answer_with [] (killed_reply s ids))
answer s id (create_collection space) = answer_create s space
answer s id (create_indexes space indexes) = answer_indexes s space indexes
answer s id (update space conditions m many) = answer_update s space conditions m many
answer s id (delete space conditions many) = answer_delete s space conditions many
answer s id (drop_collection space) = answer_drop s space

-- the reply that refuses
abbrev pub refusal : ℤ → List (List ℕ) → Fields
refusal code labels = "ok" ⇒ int32 (pos 0) ⨾ "errmsg" ⇒ word "refused" ⨾ "code" ⇒ int32 code ⨾ "codeName" ⇒ word "Refused" ⨾ "errorLabels" ⇒ array (words_of labels) ⨾ empty

abbrev pub refused : ℤ → Answer
refused code = answer_with [] (refusal code [])

-- an answer whose reply is larger than one may be is a refusal
abbrev pub fitting : Result Answer ℤ → Answer
fitting (Err code) = refused code
fitting (Ok a) = if nat_le (length (bytes a.reply)) max_reply && nat_le (levels a.reply) 100 then a else refused bad_request

-- what the store answers to a command
unfoldable pub answer_of : State → ℤ → Fields → Answer
answer_of s id command = fitting (where_ok (answer s id) (request_of command))
