-- The request of a command, where filters are held by the encodings of their values.
use Rattle.std.specs.Prelude.{◌≡◌, ℕ, ℤ, Bool, true, false, List, [], map, Option, Some, None, is_some, option_map, option_and_then, Result, Ok, Err, codes, if◌then◌else◌}
use Rattle.mg_bson.specs.Tree.{Tree, Fields, Items, no_items, item}
use Rattle.mg_bson.specs.Find.{as_document, get}
use Rattle.mg_bson.specs.Raw.{fields, items}
use Rattle.mg_bson.specs.RawView.{value}
use Rattle.mg_bson.specs.Reading.{◌>>=◌}
use Rattle.mg_link.specs.Namespace.{Space, Target}
use Rattle.mg_server.specs.Filter.{Condition, conditions_of}
use Rattle.mg_server.specs.State.{Index, Start, nowhere, after, at_time, time_of}
use Rattle.mg_server.specs.Rules as rules
use Rattle.mg_link.specs.Numbers.{count_of}
use Rattle.mg_server.specs.Commands.{batch_size, flag_or, has_only, pipeline_fields, start_of, indexing_fields, find_fields, find_stages, optional_count, collections_fields, indexes_fields, optional_size, selecting, stages_by, update_parts, update_fields, delete_parts, delete_fields, modification_of, one_at, many_by}
use Rattle.mg_server.specs.Rules.{array_at, map_ok, option_names, target_at, named_space, named_database}
use Rattle.mg_query.specs.Asking.{Keyed, documents_among, held, ids_among, keyed, lent_space, lent_target, only_document}
use Rattle.mg_query.specs.declared.watch.LentStart.{LentStart}
use Rattle.mg_query.specs.declared.watch.LentStart.TheVariants as starts
use Rattle.mg_query.specs.Indexing.{index_held}
use Rattle.mg_server.specs.Query.{Source, of_collection, of_database, of_indexes}
use Rattle.mg_query.specs.Querying.{Doing, doing, held_stage, pipeline_doing}
use Rattle.mg_query.specs.declared.query.Plan as code_plan
use Rattle.mg_query.specs.declared.request.Request.{Request}
use Rattle.mg_query.specs.declared.request.Request.TheVariants as requests
use Rattle.mg_query.specs.declared.refusal.Refusal.{Refusal}
use Rattle.mg_query.specs.declared.refusal.Refusal.TheVariants as refusals
use Rattle.mg_query.specs.declared.refusal.Stop.{Stop}
use Rattle.mg_query.specs.declared.refusal.Stop.TheVariants as stops
use Rattle.mg_query.specs.declared.watch.Stages as code_stages
use Rattle.mg_query.specs.declared.watch.Opening as code_opening
use Rattle.mg_query.specs.declared.catalog.Indexing as code_indexing
use Rattle.mg_query.specs.declared.write.Updating as code_updating
use Rattle.mg_query.specs.declared.write.Deleting as code_deleting
use Rattle.mg_query.specs.declared.write.Write.{Write}
use Rattle.mg_query.specs.declared.write.Write.TheVariants as writes
use Rattle.mg_server.specs.Write.{Modification}
use Rattle.mg_query.specs.Modifying.{lent_modification}

pub data Wanted : Type 0 where
  insert : (space : Space) (documents : List Fields) (ordered : Bool) → Wanted
  find : (source : Source) (stages : List Doing) (single : Bool) (size : Option ℕ) → Wanted
  watch : (target : Target) (filter : List Keyed) (start : Start) (resumes : Bool) (size : Option ℕ) → Wanted
  more : (id : ℤ) (space : Space) (size : Option ℕ) → Wanted
  kill : (ids : List ℤ) → Wanted
  create_collection : (space : Space) → Wanted
  create_indexes : (space : Space) (indexes : List Index) → Wanted
  drop_collection : (space : Space) → Wanted
  update : (space : Space) (filter : List Keyed) (modification : Modification) (many : Bool) → Wanted
  delete : (space : Space) (filter : List Keyed) (many : Bool) → Wanted

abbrev pub wanted : rules.Request → Wanted
wanted (rules.insert space documents ordered) = insert space documents ordered
wanted (rules.find q) = find q.source (map doing q.stages) q.single q.size
wanted (rules.watch w start resumes size) = watch w.target (map keyed w.filter) start resumes size
wanted (rules.more id space size) = more id space size
wanted (rules.kill ids) = kill ids
wanted (rules.create_collection space) = create_collection space
wanted (rules.create_indexes space indexes) = create_indexes space indexes
wanted (rules.drop_collection space) = drop_collection space
wanted (rules.update space conditions m many) = update space (map keyed conditions) m many
wanted (rules.delete space conditions many) = delete space (map keyed conditions) many

-- the start that the code holds
abbrev pub lent_start : LentStart → Start
lent_start starts.Nowhere = nowhere
lent_start (starts.After token) = after (value token)
lent_start (starts.AtTime t) = at_time (time_of t.time t.increment)

-- the request that the code holds
abbrev pub lent_write : Write → Wanted
lent_write (writes.Insert space documents ordered) = insert (lent_space space) (documents_among (items documents)) ordered
lent_write (writes.Create space) = create_collection (lent_space space)
lent_write (writes.CreateIndexes space indexes) = create_indexes (lent_space space) (map index_held indexes.items)
lent_write (writes.Drop space) = drop_collection (lent_space space)
lent_write (writes.Update space filter modification many) = update (lent_space space) (map held filter.items) (lent_modification modification) many
lent_write (writes.Delete space filter many) = delete (lent_space space) (map held filter.items) many

abbrev pub lent_request : Request → Wanted
lent_request (requests.Find space plan) = find (of_collection (lent_space space)) (map held_stage plan.stages.items) plan.single plan.batch_size
lent_request (requests.Watch target filter start resumes size) = watch (lent_target target) (map held filter.items) (lent_start start) resumes size
lent_request (requests.GetMore id space size) = more id (lent_space space) size
lent_request (requests.KillCursors ids) = kill (ids_among (items ids))
lent_request (requests.ListCollections db plan) = find (of_database db.now) (map held_stage plan.stages.items) plan.single plan.batch_size
lent_request (requests.ListIndexes space size) = find (of_indexes (lent_space space)) [] false size
lent_request (requests.Write write) = lent_write write

abbrev pub refusal_code : Refusal → ℤ
refusal_code refusals.UnknownCommand = rules.unknown_command
refusal_code refusals.BadRequest = rules.bad_request
refusal_code refusals.NoSuchCursor = rules.no_such_cursor
refusal_code refusals.NoSuchToken = rules.no_such_token
refusal_code refusals.CollectionExists = rules.collection_exists
refusal_code refusals.NoSuchCollection = rules.no_such_collection

-- why there is none: that is the rules' refusal, unless memory ran out
abbrev pub StopsBy : {A : Type 0} → Stop → Result A ℤ → Type 0
StopsBy stops.Memory asked = Unit {0}
StopsBy (stops.Refused refusal) asked = asked ≡ Err (refusal_code refusal)

-- the request is the one that the rules give
abbrev pub Asks : Result Request Stop → Result rules.Request ℤ → Type 0
Asks (Ok request) asked = map_ok wanted asked ≡ Ok (lent_request request)
Asks (Err stop) asked = StopsBy stop asked

-- the request, or else the refusal of a bad one
abbrev pub OrBadRequest : Result Request Stop → Option Request → Type 0
OrBadRequest (Ok request) found = found ≡ Some request
OrBadRequest (Err stop) found = (stop ≡ stops.Refused refusals.BadRequest) × (found ≡ None)

-- ---- finds

-- what a find does with the documents of its collection, and how it gives them
pub record Plan : Type 0 where
  pub stages : List Doing
  pub single : Bool
  pub size : Option ℕ

-- whether one batch is asked for, and the size
abbrev pub giving_of : Fields → Option (Bool × Option ℕ)
giving_of fs = flag_or false (get (codes "singleBatch") fs) >>= λ single. optional_count (get (codes "batchSize") fs) >>= λ size. Some (single, size)

unfoldable pub plan_of : Fields → Option Plan
plan_of fs = option_map (map doing) (find_stages fs) >>= λ stages. giving_of fs >>= λ giving. Some (record { stages = stages; single = giving.0; size = giving.1 })

-- the plan that the code holds
abbrev pub lent_plan : code_plan.Plan → Plan
lent_plan p = record { stages = map held_stage p.stages.items; single = p.single; size = p.batch_size }

-- the collection of a find whose fields are all known
abbrev pub find_space : Fields → Option Space
find_space fs = if has_only find_fields fs then named_space (codes "find") fs else None

unfoldable pub found_of : Fields → Option Wanted
found_of fs = find_space fs >>= λ space. plan_of fs >>= λ plan. Some (find (of_collection space) plan.stages plan.single plan.size)

-- ---- pipelines

-- the collection of a pipeline whose fields are all known
abbrev pub pipeline_space : Fields → Option Space
pipeline_space fs = if has_only pipeline_fields fs then named_space (codes "aggregate") fs else None

abbrev pub pipeline_plan : Fields → Option Plan
pipeline_plan fs = array_at (codes "pipeline") fs >>= pipeline_doing >>= λ stages. batch_size fs >>= λ size. Some (record { stages = stages; single = false; size = size })

abbrev pub piped_of : Fields → Option Wanted
piped_of fs = pipeline_space fs >>= λ space. pipeline_plan fs >>= λ plan. Some (find (of_collection space) plan.stages plan.single plan.size)

-- ---- lists of collections and of indexes

-- the database of a list of collections whose fields are all known
abbrev pub listed_database : Fields → Option (List ℕ)
listed_database fs = if has_only collections_fields fs then named_database fs else None

abbrev pub listing_plan : Fields → Option Plan
listing_plan fs = option_map (map doing) (stages_by selecting (get (codes "filter") fs)) >>= λ stages. optional_size fs >>= λ size. Some (record { stages = stages; single = false; size = size })

abbrev pub collections_list_of : Fields → Option Wanted
collections_list_of fs = listed_database fs >>= λ db. listing_plan fs >>= λ plan. Some (find (of_database db) plan.stages plan.single plan.size)

unfoldable pub indexes_list_of : Fields → Option Wanted
indexes_list_of fs = if has_only indexes_fields fs then (named_space (codes "listIndexes") fs >>= λ space. optional_size fs >>= λ size. Some (find (of_indexes space) [] false size)) else None

-- ---- the aggregate that opens a watch

-- the options of the stage that opens a watch, and the filter of a stage behind it
pub record Stages : Type 0 where
  pub options : Fields
  pub filter : Option Fields

-- no stage is left
abbrev pub IsEnd : Bool → Items → Type 0
IsEnd end no_items = end ≡ true
IsEnd end (item t ts) = end ≡ false

abbrev pub filter_behind : Items → Option (Option Fields)
filter_behind no_items = Some None
filter_behind (item t no_items) = as_document t >>= λ stage. only_document (codes "$match") stage >>= λ filter. Some (Some filter)
filter_behind (item t (item u ts)) = None

unfoldable pub stages_of : Items → Option Stages
stages_of no_items = None
stages_of (item t ts) = as_document t >>= λ stage. only_document (codes "$changeStream") stage >>= λ options. filter_behind ts >>= λ filter. Some (record { options = options; filter = filter })

-- the stages of the pipeline of a command
abbrev pub stages_at : Fields → Option Stages
stages_at fs = array_at (codes "pipeline") fs >>= stages_of

pub record Opening : Type 0 where
  pub target : Target
  pub stages : Stages
  pub start : Start
  pub resumes : Bool
  pub size : Option ℕ

-- what the options of these stages open
abbrev pub opening_with : Fields → Stages → Option Opening
opening_with fs stages = if has_only option_names stages.options
    then (flag_or false (get (codes "allChangesForCluster") stages.options) >>= λ all. target_at fs all >>= λ target. start_of stages.options >>= λ start. batch_size fs >>= λ size.
    Some (record { target = target; stages = stages; start = start; resumes = is_some (get (codes "resumeAfter") stages.options); size = size }))
    else None

unfoldable pub opening_of : Fields → Option Opening
opening_of fs = if has_only pipeline_fields fs then (stages_at fs >>= opening_with fs) else None

abbrev pub conditions_at : Option Fields → Option (List Condition)
conditions_at None = Some []
conditions_at (Some fs) = conditions_of fs

-- the stages and the opening that the code holds
abbrev pub lent_stages : code_stages.Stages → Stages
lent_stages s = record { options = fields s.options; filter = option_map fields s.filter }

abbrev pub lent_opening : code_opening.Opening → Opening
lent_opening o = record { target = lent_target o.target; stages = lent_stages o.stages; start = lent_start o.start; resumes = o.resumes; size = o.batch_size }

-- ---- the command that creates indexes

-- the collection that gets indexes, and what describes them
pub record Indexing : Type 0 where
  pub space : Space
  pub indexes : Items

unfoldable pub indexing_of : Fields → Option Indexing
indexing_of fs = if has_only indexing_fields fs then (named_space (codes "createIndexes") fs >>= λ space. array_at (codes "indexes") fs >>= λ items. Some (record { space = space; indexes = items })) else None

abbrev pub lent_indexing : code_indexing.Indexing → Indexing
lent_indexing i = record { space = lent_space i.space; indexes = items i.indexes }

-- ---- updates and deletes

-- an update but its conditions
pub record Updating : Type 0 where
  pub space : Space
  pub filter : Fields
  pub modification : Modification
  pub many : Bool

unfoldable pub updating_by : Space → Fields → Option Updating
updating_by space u = if has_only update_parts u
    then (option_and_then as_document (get (codes "q") u) >>= λ filter. option_and_then as_document (get (codes "u") u) >>= modification_of >>= λ m. flag_or false (get (codes "multi") u) >>= λ many. Some (record { space = space; filter = filter; modification = m; many = many }))
    else None

unfoldable pub updating_of : Fields → Option Updating
updating_of fs = if has_only update_fields fs then (named_space (codes "update") fs >>= λ space. one_at (codes "updates") fs >>= updating_by space) else None

abbrev pub lent_updating : code_updating.Updating → Updating
lent_updating u = record { space = lent_space u.space; filter = fields u.filter; modification = lent_modification u.modification; many = u.many }

-- whether the limit of a delete is none
abbrev pub limit_many : Option Tree → Option Bool
limit_many found = option_and_then count_of found >>= many_by

-- a delete but its conditions
pub record Deleting : Type 0 where
  pub space : Space
  pub filter : Fields
  pub many : Bool

unfoldable pub deleting_by : Space → Fields → Option Deleting
deleting_by space d = if has_only delete_parts d
    then (option_and_then as_document (get (codes "q") d) >>= λ filter. limit_many (get (codes "limit") d) >>= λ many. Some (record { space = space; filter = filter; many = many }))
    else None

unfoldable pub deleting_of : Fields → Option Deleting
deleting_of fs = if has_only delete_fields fs then (named_space (codes "delete") fs >>= λ space. one_at (codes "deletes") fs >>= deleting_by space) else None

abbrev pub lent_deleting : code_deleting.Deleting → Deleting
lent_deleting d = record { space = lent_space d.space; filter = fields d.filter; many = d.many }
