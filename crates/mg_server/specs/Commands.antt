-- What commands ask for, and what replies tell (CRUD, change streams, find/getMore/killCursors, enumerating collections and indexes specifications).
use Rattle.std.specs.Prelude.{◌≡◌, ℕ, ℤ, pos, Bool, true, false, Option, Some, None, option_map, option_and_then, unwrap_or, List, [], ◌∷◌, codes, if◌then◌else◌, zero, suc, negsuc, length, is_some, nat_lt, nat_le, ◌&&◌, ◌||◌, ◌++◌}
use Rattle.std.specs.Ordering.{int_eq}
use Rattle.std.specs.Str.{bytes_eq}
use Rattle.mg_bson.specs.Tree.{Tree, document, array, timestamp, Fields, no_fields, field, Items, no_items, item}
use Rattle.mg_bson.specs.Raw.{fields}
use Rattle.mg_bson.specs.Find.{get, as_string, as_document, as_array, as_int32, as_int64, as_boolean}
use Rattle.mg_link.specs.Namespace.{Space, space_of, Target, database, collection, cluster, as_database, as_collection}
use Rattle.mg_link.specs.Numbers.{as_integer, as_count, count_of}
use Rattle.mg_server.specs.Filter.{Condition, conditions_of, is_top_name, begins_with_dollar}
use Rattle.mg_server.specs.State.{Watch, Start, nowhere, after, at_time, time_of, Index, unless}
use Rattle.mg_link.specs.Reply.{verdict_of, code_of, labels_of}
use Rattle.mg_link.specs.declared.reply.Verdict.{Verdict}
use Rattle.mg_link.specs.declared.reply.Verdict.TheVariants as verdict
use Rattle.mg_bson.specs.Reading.{◌>>=◌}
use Rattle.mg_server.specs.Query.{Source, of_collection, of_database, of_indexes, Key, Stage, selects, sorts, skips, limits, shows_id, hides_id, Query}
use Rattle.mg_server.specs.Write.{Modification, sets, puts}

-- ---- commands

-- what a command asks for; one that asks for nothing else here is always refused
pub data Asked : Type 0 where
  asks_insert : (space : Space) (documents : List Fields) (ordered : Bool) → Asked
  asks_update : (space : Space) (filter : List Condition) (modification : Modification) (many : Bool) → Asked
  asks_delete : (space : Space) (filter : List Condition) (many : Bool) → Asked
  asks_query : (query : Query) → Asked
  asks_watch : (watch : Watch) (start : Start) → Asked
  asks_more : (id : ℤ) (space : Space) → Asked
  asks_kill : (ids : List ℤ) → Asked
  asks_create : (space : Space) → Asked
  asks_indexes : (space : Space) (indexes : List Index) → Asked
  asks_drop : (space : Space) → Asked
  asks_other : Asked

abbrev pub text_of : List ℕ → Fields → Option (List ℕ)
text_of name fs = option_and_then as_string (get name fs)

-- the database of a command
abbrev pub database_at : Fields → Option (List ℕ)
database_at fs = option_and_then as_database (text_of (codes "$db") fs)

-- the collection that this field of a command names, in its database
unfoldable pub space_at : List ℕ → Fields → Option Space
space_at name fs = option_and_then (λ db. option_map (λ coll. record { db = db; coll = coll }) (option_and_then as_collection (text_of name fs))) (database_at fs)

-- each item is a document
abbrev pub documents_in : Items → Option (List Fields)
documents_in no_items = Some []
documents_in (item t ts) = option_and_then (λ d. option_map (λ ds. d ∷ ds) (documents_in ts)) (as_document t)

abbrev pub integers_in : Items → Option (List ℤ)
integers_in no_items = Some []
integers_in (item t ts) = option_and_then (λ z. option_map (λ zs. z ∷ zs) (integers_in ts)) (as_integer t)

abbrev pub flag_or : Bool → Option Tree → Option Bool
flag_or b None = Some b
flag_or b (Some t) = as_boolean t

unfoldable pub insert_of : Fields → Option Asked
insert_of fs = option_and_then (λ space. option_and_then (λ ds. option_map (asks_insert space ds) (flag_or true (get (codes "ordered") fs)))
    (option_and_then documents_in (option_and_then as_array (get (codes "documents") fs)))) (space_at (codes "insert") fs)

-- ---- the aggregate that opens a watch

-- the options of a stage, where it is the one that opens a watch
abbrev pub watch_stage_options : Fields → Option Fields
watch_stage_options no_fields = None
watch_stage_options (field k t no_fields) = if bytes_eq k (codes "$changeStream") then as_document t else None
watch_stage_options (field k t (field l u fs)) = None

-- the conditions of the stages behind it: none, or one `$match`
abbrev pub match_stage : Fields → Option (List Condition)
match_stage no_fields = None
match_stage (field k t no_fields) = if bytes_eq k (codes "$match") then option_and_then conditions_of (as_document t) else None
match_stage (field k t (field l u fs)) = None

abbrev pub filter_stages : List Fields → Option (List Condition)
filter_stages [] = Some []
filter_stages (stage ∷ []) = match_stage stage
filter_stages (stage ∷ other ∷ stages) = None

-- a time of a request
abbrev pub as_time : Tree → Option ℕ
as_time (timestamp seconds increment) = Some (time_of seconds increment)
as_time _ = None

-- change streams: a server reports an error where more than one start is given
abbrev pub start_by : Option Tree → Option Tree → Option Tree → Option Start
start_by None None None = Some nowhere
start_by (Some token) None None = Some (after token)
start_by None (Some token) None = Some (after token)
start_by None None (Some t) = option_map at_time (as_time t)
start_by _ _ _ = None

-- the start that the options name; more than one is none
abbrev pub start_of : Fields → Option Start
start_of options = start_by (get (codes "resumeAfter") options) (get (codes "startAfter") options) (get (codes "startAtOperationTime") options)

abbrev pub is_cluster : Fields → Bool
is_cluster options = unwrap_or (option_and_then as_boolean (get (codes "allChangesForCluster") options)) false

-- a whole database, or the cluster where the changes of all are asked for, which only `admin` may
abbrev pub whole_target : Bool → List ℕ → Option Target
whole_target all db = if all then (if bytes_eq db (codes "admin") then Some cluster else None) else Some (database db)

-- what the first field of an aggregate aims a watch at: a text is the name of a collection, and 1 is the whole database
abbrev pub target_by : Bool → List ℕ → Option (List ℕ) → Option ℤ → Option Target
target_by all db (Some name) number = option_map (λ coll. collection (record { db = db; coll = coll })) (as_collection name)
target_by all db None (Some n) = if int_eq n (pos 1) then whole_target all db else None
target_by all db None None = None

abbrev pub target_of : Fields → Fields → Option Target
target_of options fs = option_and_then (λ db. target_by (is_cluster options) db (text_of (codes "aggregate") fs) (option_and_then as_integer (get (codes "aggregate") fs))) (database_at fs)

abbrev pub watch_by : Fields → Fields → List Fields → Option Asked
watch_by fs options stages = option_and_then (λ filter. option_and_then (λ start. option_map (λ target. asks_watch (record { target = target; filter = filter }) start)
    (target_of options fs)) (start_of options)) (filter_stages stages)

abbrev pub watch_from : Fields → List Fields → Option Asked
watch_from fs [] = None
watch_from fs (stage ∷ stages) = option_and_then (λ options. watch_by fs options stages) (watch_stage_options stage)

unfoldable pub watch_of : Fields → Option Asked
watch_of fs = option_and_then (watch_from fs) (option_and_then documents_in (option_and_then as_array (get (codes "pipeline") fs)))

-- ---- queries

abbrev pub is_name_among : List ℕ → List (List ℕ) → Bool
is_name_among k [] = false
is_name_among k (n ∷ ns) = bytes_eq k n || is_name_among k ns

-- the fields that any command may have and that change nothing here
abbrev pub ignored : List (List ℕ)
ignored = codes "$db" ∷ codes "lsid" ∷ codes "txnNumber" ∷ codes "startTransaction" ∷ codes "autocommit" ∷ codes "readConcern" ∷ codes "writeConcern" ∷ codes "$readPreference"
    ∷ codes "comment" ∷ codes "maxTimeMS" ∷ codes "allowDiskUse" ∷ codes "noCursorTimeout" ∷ codes "bypassDocumentValidation" ∷ codes "showExpandedEvents" ∷ codes "nameOnly" ∷ []

-- each field has one of the names, or one that changes nothing
abbrev pub has_only : List (List ℕ) → Fields → Bool
has_only names no_fields = true
has_only names (field k t fs) = (is_name_among k names || is_name_among k ignored) && has_only names fs

-- the count of the name, where it is there at all
abbrev pub optional_count : Option Tree → Option (Option ℕ)
optional_count None = Some None
optional_count (Some t) = option_map Some (count_of t)

-- the stage that a value stands for; one that is absent stands for none
abbrev pub stages_by : (Tree → Option (List Stage)) → Option Tree → Option (List Stage)
stages_by read None = Some []
stages_by read (Some t) = read t

abbrev pub only : Stage → List Stage
only stage = stage ∷ []

abbrev pub selecting : Tree → Option (List Stage)
selecting t = option_map (λ conditions. only (selects conditions)) (option_and_then conditions_of (as_document t))

-- upwards by 1, downwards by -1
abbrev pub rising_by : ℤ → Option Bool
rising_by z = if int_eq z (pos 1) then Some true else (if int_eq z (negsuc 0) then Some false else None)

abbrev pub keys_of : Fields → Option (List Key)
keys_of no_fields = Some []
keys_of (field k t fs) = if is_top_name k then option_and_then (λ rising. option_map (λ keys. record { name = k; rising = rising } ∷ keys) (keys_of fs)) (option_and_then rising_by (as_integer t)) else None

-- one to three names
abbrev pub as_keys : List Key → Option (List Stage)
as_keys keys = if nat_lt 0 (length keys) && nat_le (length keys) 3 then Some (only (sorts keys)) else None

abbrev pub sorting : Tree → Option (List Stage)
sorting t = option_and_then as_keys (option_and_then keys_of (as_document t))

abbrev pub skipping : Tree → Option (List Stage)
skipping t = option_map (λ n. only (skips n)) (count_of t)

-- a limit of 0 is none (find command: a limit of 0 sets none)
abbrev pub limit_by : ℕ → List Stage
limit_by zero = []
limit_by (suc n) = only (limits (suc n))

abbrev pub limiting : Tree → Option (List Stage)
limiting t = option_map limit_by (count_of t)

-- `{ _id: 1 }` or `{ _id: 0 }`
abbrev pub showing_by : ℤ → Option (List Stage)
showing_by z = if int_eq z (pos 1) then Some (only shows_id) else (if int_eq z (pos 0) then Some (only hides_id) else None)

abbrev pub projection_of : Fields → Option (List Stage)
projection_of no_fields = None
projection_of (field k t no_fields) = if bytes_eq k (codes "_id") then option_and_then showing_by (as_integer t) else None
projection_of (field k t (field l u fs)) = None

abbrev pub showing : Tree → Option (List Stage)
showing t = option_and_then projection_of (as_document t)

-- what a find does, in this order
abbrev pub find_stages : Fields → Option (List Stage)
find_stages fs = stages_by selecting (get (codes "filter") fs) >>= λ a. stages_by sorting (get (codes "sort") fs) >>= λ b. stages_by skipping (get (codes "skip") fs) >>= λ c.
    stages_by limiting (get (codes "limit") fs) >>= λ d. stages_by showing (get (codes "projection") fs) >>= λ e. Some (a ++ b ++ c ++ d ++ e)

abbrev pub query_by : Source → Bool → List Stage → Option ℕ → Query
query_by source single stages size = record { source = source; stages = stages; single = single; size = size }

abbrev pub find_fields : List (List ℕ)
find_fields = codes "find" ∷ codes "filter" ∷ codes "sort" ∷ codes "skip" ∷ codes "limit" ∷ codes "singleBatch" ∷ codes "batchSize" ∷ codes "projection" ∷ []

abbrev pub find_query : Fields → Space → Option Query
find_query fs space = find_stages fs >>= λ stages. flag_or false (get (codes "singleBatch") fs) >>= λ single. optional_count (get (codes "batchSize") fs) >>= λ size. Some (query_by (of_collection space) single stages size)

unfoldable pub find_of : Fields → Option Asked
find_of fs = if has_only find_fields fs then option_map asks_query (space_at (codes "find") fs >>= find_query fs) else None

-- one stage of a pipeline, by its name
abbrev pub stage_by : List ℕ → Tree → Option (List Stage)
stage_by k t = if bytes_eq k (codes "$match") then selecting t
    else (if bytes_eq k (codes "$sort") then sorting t
    else (if bytes_eq k (codes "$skip") then skipping t
    else (if bytes_eq k (codes "$limit") then limiting t
    else (if bytes_eq k (codes "$project") then showing t else None))))

abbrev pub stage_of : Fields → Option (List Stage)
stage_of no_fields = None
stage_of (field k t no_fields) = stage_by k t
stage_of (field k t (field l u fs)) = None

abbrev pub pipeline_of : List Fields → Option (List Stage)
pipeline_of [] = Some []
pipeline_of (stage ∷ stages) = stage_of stage >>= λ a. pipeline_of stages >>= λ b. Some (a ++ b)

-- the size of the batches, of the field `cursor`
unfoldable pub batch_size : Fields → Option (Option ℕ)
batch_size fs = option_and_then as_document (get (codes "cursor") fs) >>= λ cursor. if has_only (codes "batchSize" ∷ []) cursor then optional_count (get (codes "batchSize") cursor) else None

-- the same, where the field may be absent
abbrev pub size_or_none : Option Tree → Fields → Option (Option ℕ)
size_or_none None fs = Some None
size_or_none (Some t) fs = batch_size fs

abbrev pub optional_size : Fields → Option (Option ℕ)
optional_size fs = size_or_none (get (codes "cursor") fs) fs

abbrev pub pipeline_fields : List (List ℕ)
pipeline_fields = codes "aggregate" ∷ codes "pipeline" ∷ codes "cursor" ∷ []

abbrev pub piped : Fields → Option (List Fields) → Space → Option Query
piped fs stages space = stages >>= pipeline_of >>= λ stages. batch_size fs >>= λ size. Some (query_by (of_collection space) false stages size)

-- the stages of the pipeline of a command
abbrev pub stages_in : Fields → Option (List Fields)
stages_in fs = option_and_then documents_in (option_and_then as_array (get (codes "pipeline") fs))

unfoldable pub pipeline_query : Fields → Option Asked
pipeline_query fs = if has_only pipeline_fields fs then option_map asks_query (space_at (codes "aggregate") fs >>= piped fs (stages_in fs)) else None

abbrev pub collections_fields : List (List ℕ)
collections_fields = codes "listCollections" ∷ codes "filter" ∷ codes "cursor" ∷ []

abbrev pub listing_of : Fields → List ℕ → Option Query
listing_of fs db = stages_by selecting (get (codes "filter") fs) >>= λ stages. optional_size fs >>= λ size. Some (query_by (of_database db) false stages size)

unfoldable pub collections_query : Fields → Option Asked
collections_query fs = if has_only collections_fields fs then option_map asks_query (database_at fs >>= listing_of fs) else None

abbrev pub indexes_fields : List (List ℕ)
indexes_fields = codes "listIndexes" ∷ codes "cursor" ∷ []

abbrev pub indexes_listed : Fields → Space → Option Query
indexes_listed fs space = optional_size fs >>= λ size. Some (query_by (of_indexes space) false [] size)

unfoldable pub indexes_query : Fields → Option Asked
indexes_query fs = if has_only indexes_fields fs then option_map asks_query (space_at (codes "listIndexes") fs >>= indexes_listed fs) else None

-- ---- updates and deletes

-- each name is at the top and not `_id`
abbrev pub may_set : Fields → Bool
may_set no_fields = true
may_set (field k t fs) = unless (bytes_eq k (codes "_id")) (is_top_name k) && may_set fs

-- the modification leaves the `_id` of a document as it is
abbrev pub KeepsId : Modification → Type 0
KeepsId (sets fs) = may_set fs ≡ true
KeepsId (puts d) = Unit {0}

abbrev pub begin_without_dollar : Fields → Bool
begin_without_dollar no_fields = true
begin_without_dollar (field k t fs) = unless (begins_with_dollar k) (begin_without_dollar fs)

abbrev pub setting : Tree → Option Modification
setting (document fs) = if may_set fs then Some (sets fs) else None
setting _ = None

-- `{ $set: fields }`, or a document without operators
abbrev pub modification_of : Fields → Option Modification
modification_of no_fields = Some (puts no_fields)
modification_of (field k t fs) = if bytes_eq k (codes "$set") then set_alone t fs else (if begin_without_dollar (field k t fs) then Some (puts (field k t fs)) else None)
  where
    set_alone : Tree → Fields → Option Modification
    set_alone t no_fields = setting t
    set_alone t (field l u fs) = None

-- the one document of an array
abbrev pub one_in : Items → Option Fields
one_in no_items = None
one_in (item t no_items) = as_document t
one_in (item t (item u us)) = None

abbrev pub one_at : List ℕ → Fields → Option Fields
one_at name fs = option_and_then one_in (option_and_then as_array (get name fs))

abbrev pub filter_at : List ℕ → Fields → Option (List Condition)
filter_at name fs = option_and_then conditions_of (option_and_then as_document (get name fs))

abbrev pub update_parts : List (List ℕ)
update_parts = codes "q" ∷ codes "u" ∷ codes "multi" ∷ []

-- what is made of the parts of an update
abbrev pub update_by : {A : Type 0} → (List Condition → Modification → Bool → A) → Fields → Option A
update_by make u = if has_only update_parts u
    then (filter_at (codes "q") u >>= λ conditions. option_and_then as_document (get (codes "u") u) >>= λ d. modification_of d >>= λ m. flag_or false (get (codes "multi") u) >>= λ many. Some (make conditions m many)) else None

abbrev pub update_fields : List (List ℕ)
update_fields = codes "update" ∷ codes "updates" ∷ codes "ordered" ∷ []

unfoldable pub update_of : Fields → Option Asked
update_of fs = if has_only update_fields fs then (space_at (codes "update") fs >>= λ space. one_at (codes "updates") fs >>= update_by (asks_update space)) else None

-- a limit of 1 is the first document, and of 0 all (delete command: `limit` is 0 for all documents that match, or 1 for a single one)
abbrev pub many_by : ℕ → Option Bool
many_by zero = Some true
many_by (suc zero) = Some false
many_by (suc (suc n)) = None

abbrev pub delete_parts : List (List ℕ)
delete_parts = codes "q" ∷ codes "limit" ∷ []

-- what is made of the parts of a delete
abbrev pub delete_by : {A : Type 0} → (List Condition → Bool → A) → Fields → Option A
delete_by make d = if has_only delete_parts d
    then (filter_at (codes "q") d >>= λ conditions. option_and_then count_of (get (codes "limit") d) >>= many_by >>= λ many. Some (make conditions many)) else None

abbrev pub delete_fields : List (List ℕ)
delete_fields = codes "delete" ∷ codes "deletes" ∷ codes "ordered" ∷ []

unfoldable pub delete_of : Fields → Option Asked
delete_of fs = if has_only delete_fields fs then (space_at (codes "delete") fs >>= λ space. one_at (codes "deletes") fs >>= delete_by (asks_delete space)) else None

-- ---- collections and indexes

abbrev pub create_fields : List (List ℕ)
create_fields = codes "create" ∷ []

unfoldable pub create_of : Fields → Option Asked
create_of fs = if has_only create_fields fs then option_map asks_create (space_at (codes "create") fs) else None

abbrev pub index_of : Fields → Option Index
index_of fs = if has_only (codes "key" ∷ codes "name" ∷ []) fs then option_and_then (λ name. option_map (λ key. record { name = name; key = key }) (option_and_then as_document (get (codes "key") fs))) (text_of (codes "name") fs) else None

abbrev pub indexes_by : List Fields → Option (List Index)
indexes_by [] = Some []
indexes_by (fs ∷ more) = option_and_then (λ i. option_map (λ is. i ∷ is) (indexes_by more)) (index_of fs)

abbrev pub indexing_fields : List (List ℕ)
indexing_fields = codes "createIndexes" ∷ codes "indexes" ∷ []

-- the indexes that a command is to create
abbrev pub indexes_in : Fields → Option (List Index)
indexes_in fs = option_and_then as_array (get (codes "indexes") fs) >>= documents_in >>= indexes_by

unfoldable pub indexing_of : Fields → Option Asked
indexing_of fs = if has_only indexing_fields fs then (space_at (codes "createIndexes") fs >>= λ space. option_map (asks_indexes space) (indexes_in fs)) else None

abbrev pub drop_fields : List (List ℕ)
drop_fields = codes "drop" ∷ []

unfoldable pub drop_of : Fields → Option Asked
drop_of fs = if has_only drop_fields fs then option_map asks_drop (space_at (codes "drop") fs) else None

-- ---- the others

unfoldable pub more_of : Fields → Option Asked
more_of fs = option_and_then (λ id. option_map (asks_more id) (space_at (codes "collection") fs)) (option_and_then as_integer (get (codes "getMore") fs))

unfoldable pub kill_of : Fields → Option Asked
kill_of fs = option_map asks_kill (option_and_then integers_in (option_and_then as_array (get (codes "cursors") fs)))

-- the first of two readings
abbrev pub or_asks : Option Asked → Option Asked → Option Asked
or_asks (Some a) other = Some a
or_asks None other = other

-- those that ask about no cursor and no watch
abbrev pub further_by : List ℕ → Fields → Option Asked
further_by k fs = if bytes_eq k (codes "update") then update_of fs
    else (if bytes_eq k (codes "delete") then delete_of fs
    else (if bytes_eq k (codes "find") then find_of fs
    else (if bytes_eq k (codes "listCollections") then collections_query fs
    else (if bytes_eq k (codes "listIndexes") then indexes_query fs
    else (if bytes_eq k (codes "create") then create_of fs
    else (if bytes_eq k (codes "createIndexes") then indexing_of fs
    else (if bytes_eq k (codes "drop") then drop_of fs else None)))))))

-- the first field of a command names it
abbrev pub asked_by : Fields → Option Asked
asked_by no_fields = None
asked_by (field k t fs) = if bytes_eq k (codes "insert") then insert_of (field k t fs)
    else (if bytes_eq k (codes "aggregate") then or_asks (watch_of (field k t fs)) (pipeline_query (field k t fs))
    else (if bytes_eq k (codes "getMore") then more_of (field k t fs)
    else (if bytes_eq k (codes "killCursors") then kill_of (field k t fs) else further_by k (field k t fs))))

-- what the bytes of a command ask for
unfoldable pub asked : List ℕ → Asked
asked command = unwrap_or (asked_by (fields command)) asks_other

-- ---- replies

-- a write error: a document of an insert that was not written, or an update or delete that did nothing
pub record Failure : Type 0 where
  pub index : ℤ
  pub code : ℤ

-- what a reply tells its caller; of a query it has no token and no time
pub data Told : Type 0 where
  refuses : (code : ℤ) (labels : List (List ℕ)) → Told
  inserted : (n : ℤ) (failures : List Failure) → Told
  updated : (n changed : ℤ) (failures : List Failure) → Told
  deleted : (n : ℤ) (failures : List Failure) → Told
  done : Told
  opened : (id : ℤ) (space : Space) (events : List Fields) (token : Option Tree) (time : Option ℕ) → Told
  gave : (id : ℤ) (space : Space) (events : List Fields) (token : Option Tree) → Told
  killed : Told
  garbled : Told

-- the part of a reply that holds a batch
pub record Batch : Type 0 where
  pub id : ℤ
  pub space : Space
  pub events : List Fields
  pub token : Option Tree

abbrev pub or_else : Option Items → Option Items → Option Items
or_else (Some ts) other = Some ts
or_else None other = other

abbrev pub array_in : List ℕ → Fields → Option Items
array_in name fs = option_and_then as_array (get name fs)

-- `firstBatch`, or else `nextBatch`
abbrev pub batch_items : Fields → Option Items
batch_items cursor = or_else (array_in (codes "firstBatch") cursor) (array_in (codes "nextBatch") cursor)

-- a token is a document; another kind counts as absent
abbrev pub as_token : Tree → Option Tree
as_token (document fs) = Some (document fs)
as_token _ = None

abbrev pub token_in : Fields → Option Tree
token_in cursor = option_and_then as_token (get (codes "postBatchResumeToken") cursor)

abbrev pub batch_by : Fields → Option Batch
batch_by cursor = option_and_then (λ id. option_and_then (λ space. option_map (λ events. record { id = id; space = space; events = events; token = token_in cursor })
    (option_and_then documents_in (batch_items cursor))) (option_and_then space_of (text_of (codes "ns") cursor))) (option_and_then as_int64 (get (codes "id") cursor))

unfoldable pub batch_of : Fields → Option Batch
batch_of reply = option_and_then batch_by (option_and_then as_document (get (codes "cursor") reply))

-- ---- the grammar of a reply to a write

-- a text that may be absent
abbrev pub is_text_or_none : Option Tree → Bool
is_text_or_none None = true
is_text_or_none (Some t) = is_some (as_string t)

-- an error of a reply: its code, and a text
abbrev pub is_error : Fields → Bool
is_error fs = is_some (option_and_then as_int32 (get (codes "code") fs)) && is_text_or_none (get (codes "errmsg") fs)

abbrev pub is_count : Option Tree → Bool
is_count None = false
is_count (Some t) = is_some (option_and_then as_count (as_int32 t))

abbrev pub is_write_error : Tree → Bool
is_write_error (document fs) = is_count (get (codes "index") fs) && is_error fs
is_write_error _ = false

abbrev pub are_write_errors : Items → Bool
are_write_errors no_items = true
are_write_errors (item t ts) = is_write_error t && are_write_errors ts

abbrev pub list_write_errors : Option Tree → Bool
list_write_errors None = true
list_write_errors (Some (array ts)) = are_write_errors ts
list_write_errors (Some _) = false

abbrev pub is_concern_error : Option Tree → Bool
is_concern_error None = true
is_concern_error (Some (document fs)) = is_error fs
is_concern_error (Some _) = false

-- write errors and a write concern error, where they are there, keep the grammar
abbrev pub keeps_grammar : Fields → Bool
keeps_grammar reply = list_write_errors (get (codes "writeErrors") reply) && is_concern_error (get (codes "writeConcernError") reply)

abbrev pub within_grammar : Fields → Option Told → Option Told
within_grammar reply told = if keeps_grammar reply then told else None

abbrev pub failure_of : Fields → Option Failure
failure_of fs = option_and_then (λ index. option_map (λ code. record { index = index; code = code }) (option_and_then as_int32 (get (codes "code") fs))) (option_and_then as_int32 (get (codes "index") fs))

abbrev pub failures_by : List Fields → Option (List Failure)
failures_by [] = Some []
failures_by (fs ∷ more) = option_and_then (λ failure. option_map (λ failures. failure ∷ failures) (failures_by more)) (failure_of fs)

abbrev pub failures_at : Option Tree → Option (List Failure)
failures_at None = Some []
failures_at (Some t) = option_and_then failures_by (option_and_then documents_in (as_array t))

unfoldable pub inserted_by : Fields → Option Told
inserted_by reply = option_and_then (λ n. option_map (inserted n) (failures_at (get (codes "writeErrors") reply))) (option_and_then as_integer (get (codes "n") reply))

unfoldable pub updated_by : Fields → Option Told
updated_by reply = option_and_then (λ n. option_and_then (λ changed. option_map (updated n changed) (failures_at (get (codes "writeErrors") reply))) (option_and_then as_integer (get (codes "nModified") reply))) (option_and_then as_integer (get (codes "n") reply))

unfoldable pub deleted_by : Fields → Option Told
deleted_by reply = option_and_then (λ n. option_map (deleted n) (failures_at (get (codes "writeErrors") reply))) (option_and_then as_integer (get (codes "n") reply))

abbrev pub time_in : Fields → Option ℕ
time_in reply = option_and_then as_time (get (codes "operationTime") reply)

abbrev pub opened_by : Option ℕ → Batch → Told
opened_by time batch = opened batch.id batch.space batch.events batch.token time

abbrev pub gave_by : Batch → Told
gave_by batch = gave batch.id batch.space batch.events batch.token

-- a success, as the command reads it
abbrev pub success_by : Asked → Fields → Option Told
success_by (asks_insert space documents ordered) reply = within_grammar reply (inserted_by reply)
success_by (asks_update space conditions modification many) reply = within_grammar reply (updated_by reply)
success_by (asks_delete space conditions many) reply = within_grammar reply (deleted_by reply)
success_by (asks_create space) reply = within_grammar reply (Some done)
success_by (asks_indexes space indexes) reply = within_grammar reply (Some done)
success_by (asks_drop space) reply = within_grammar reply (Some done)
success_by (asks_query query) reply = option_map (opened_by (time_in reply)) (batch_of reply)
success_by (asks_watch watch start) reply = option_map (opened_by (time_in reply)) (batch_of reply)
success_by (asks_more id space) reply = option_map gave_by (batch_of reply)
success_by (asks_kill ids) reply = Some killed
success_by asks_other reply = None

abbrev pub told_by : Verdict → Asked → Fields → Told
told_by verdict.Success command reply = unwrap_or (success_by command reply) garbled
told_by verdict.Refusal command reply = refuses (code_of reply) (labels_of reply)
told_by verdict.NoOk command reply = garbled

-- what the bytes of a reply tell the caller of the command
unfoldable pub told : Asked → List ℕ → Told
told command reply = told_by (verdict_of (fields reply)) command (fields reply)
