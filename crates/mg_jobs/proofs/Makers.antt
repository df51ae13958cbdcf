-- Which indexes the commands of jobs create: those of buckets alone. None drops a collection.
use Rattle.std.proofs.Common.{◌≡◌, ℕ, ℤ, Bool, true, false, List, [], ◌∷◌, Option, Some, None, refl, sym, subst}
use Rattle.std.specs.Fmt.{digits}
use Rattle.std.specs.Prelude.{if◌then◌else◌, codes, option_and_then, option_map, unwrap_or}
use Rattle.mg_bson.specs.Find.{as_array, get}
use Rattle.mg_bson.specs.Raw.{fields}
use Rattle.mg_bson.specs.Reading.{◌>>=◌}
use Rattle.mg_bson.specs.Tree.{Fields}
use Rattle.mg_link.specs.Numbers.{as_integer, count_of}
use Rattle.mg_server.specs.Commands.{Asked, asked, asked_by, asks_create, asks_delete, asks_drop, asks_indexes, asks_insert, asks_more, asks_other, asks_query, create_fields, create_of, delete_by, delete_fields, delete_of, delete_parts, documents_in, filter_at, find_fields, find_of, find_query, flag_or, has_only, indexes_fields, indexes_in, indexes_listed, indexes_query, indexing_fields, indexing_of, insert_of, many_by, more_of, one_at, space_at}
use Rattle.mg_link.specs.Namespace.{Space, target}
use Rattle.mg_server.specs.State.{Index}
use Rattle.mg_options.specs.Fields.{Line, fields_in}
use Rattle.mg_ops.specs.Aims.{Aim, aim_of, asked_for}
use Rattle.mg_ops.specs.Bodies.{create_indexes_body, insert_command}
use Rattle.mg_ops.specs.Cursors.{Manner, next_command, watch_manner}
use Rattle.mg_ops.specs.Plain.{plain_index}
use Rattle.mg_ops.specs.Resuming.{options_for}
use Rattle.mg_ops.specs.declared.aggregate.ChangeStreamAggregate.{ChangeStreamAggregate}
use Rattle.mg_ops.proofs.Asking.{asks_as_aimed, asks_to_kill_plainly}
use Rattle.mg_change.specs.ClientOpenings.{first_aggregate}
use Rattle.mg_change.specs.ClientStreams.{resuming_in}
use Rattle.mg_gridfs.specs.Causes.{IsOfCheck, a_creation, a_find, a_listing, an_index}
use Rattle.mg_gridfs.specs.Commands.{any_lines, chunk_documents, chunks_lines, creation_lines, listing_lines}
use Rattle.mg_gridfs.specs.Indexes.{keys_of, space_in}
use Rattle.mg_gridfs.specs.declared.indexes.Place.{Place}
use Rattle.mg_gridfs.specs.declared.indexes.Place.TheVariants as place
use Rattle.mg_gridfs.proofs.Meaning.{index_named}
use Rattle.mg_script.specs.Plan as plan
use Rattle.mg_script.specs.Plan.{Task, follow, insert, put}
use Rattle.mg_players.specs.Gets.{GetTask, IsGetCommand, chunks_find, for_chunks, for_more, for_record, get_of, no_manner, record_find}
use Rattle.mg_players.specs.PutSends.{chunks_removal, of_check, reads_on, record_insert}
use Rattle.mg_players.specs.Puts.{PutTask, Supply, put_bucket, put_of}
use Rattle.mg_players.specs.Sends.{IsPutCommand, MaySend, asks, checks, inserts, kills, opens, records, removes, resumes}

-- the index of a collection of a bucket
abbrev pub bucket_index : Place → Index
bucket_index at = record { name = index_named at; key = keys_of at }

-- what is asked for creates such an index, if any, and drops nothing
abbrev pub Makes : Asked → Type 0
Makes (asks_indexes space indexes) = (at : Place) × (indexes ≡ bucket_index at ∷ [])
Makes (asks_drop space) = ⊥
Makes other = Unit {0}

abbrev pub MakesBy : Option Asked → Type 0
MakesBy o = Makes (unwrap_or o asks_other)

abbrev pub MakesCommand : Fields → Type 0
MakesCommand fs = MakesBy (asked_by fs)

pub makes_asked : (command : List ℕ) → MakesCommand (fields command) → Makes (asked command)
unfolding asked
makes_asked command makes = makes

-- ---- as commands are read

if_makes : (b : Bool) (o : Option Asked) → MakesBy o → MakesBy (if b then o else None)
if_makes true o makes = makes
if_makes false o makes = tt

then_makes : {A : Type 0} (o : Option A) (f : A → Option Asked) → ((x : A) → MakesBy (f x)) → MakesBy (o >>= f)
then_makes (Some x) f makes = makes x
then_makes None f makes = tt

and_makes : {A : Type 0} (f : A → Option Asked) (o : Option A) → ((x : A) → MakesBy (f x)) → MakesBy (option_and_then f o)
and_makes f (Some x) makes = makes x
and_makes f None makes = tt

map_makes : {A : Type 0} (f : A → Asked) (o : Option A) → ((x : A) → Makes (f x)) → MakesBy (option_map f o)
map_makes f (Some x) makes = makes x
map_makes f None makes = tt

finds_make : (fs : Fields) → MakesBy (find_of fs)
unfolding find_of
finds_make fs = if_makes (has_only find_fields fs) _ (map_makes asks_query (space_at (codes "find") fs >>= find_query fs) (λ q. tt))

lists_make : (fs : Fields) → MakesBy (indexes_query fs)
unfolding indexes_query
lists_make fs = if_makes (has_only indexes_fields fs) _ (map_makes asks_query (space_at (codes "listIndexes") fs >>= indexes_listed fs) (λ q. tt))

creates_make : (fs : Fields) → MakesBy (create_of fs)
unfolding create_of
creates_make fs = if_makes (has_only create_fields fs) _ (map_makes asks_create (space_at (codes "create") fs) (λ space. tt))

deletes_by_make : (space : Space) (d : Fields) → MakesBy (delete_by (asks_delete space) d)
deletes_by_make space d =
    if_makes (has_only delete_parts d) _ (then_makes (filter_at (codes "q") d) _ (λ conditions. then_makes (option_and_then count_of (get (codes "limit") d) >>= many_by) _ (λ many. tt)))

deletes_make : (fs : Fields) → MakesBy (delete_of fs)
unfolding delete_of
deletes_make fs =
    if_makes (has_only delete_fields fs) _ (then_makes (space_at (codes "delete") fs) _ (λ space. then_makes (one_at (codes "deletes") fs) _ (λ d. deletes_by_make space d)))

inserts_make : (fs : Fields) → MakesBy (insert_of fs)
unfolding insert_of
inserts_make fs =
    and_makes _ (space_at (codes "insert") fs) (λ space. and_makes _ (option_and_then documents_in (option_and_then as_array (get (codes "documents") fs)))
    (λ ds. map_makes (asks_insert space ds) (flag_or true (get (codes "ordered") fs)) (λ ordered. tt)))

more_make : (fs : Fields) → MakesBy (more_of fs)
unfolding more_of
more_make fs = and_makes _ (option_and_then as_integer (get (codes "getMore") fs)) (λ id. map_makes (asks_more id) (space_at (codes "collection") fs) (λ space. tt))

-- ---- the index of a bucket

indexes_are : (space : Space) (at : Place) → indexes_in (fields_in (create_indexes_body space (keys_of at) (plain_index None) None)) ≡ Some (bucket_index at ∷ [])
unfolding digits
indexes_are space place.Files = refl
indexes_are space place.Chunks = refl

index_makes : (space : Space) (at : Place) → MakesBy (indexing_of (fields_in (create_indexes_body space (keys_of at) (plain_index None) None)))
unfolding indexing_of
index_makes space at =
    let fs : Fields = fields_in (create_indexes_body space (keys_of at) (plain_index None) None) in
    if_makes (has_only indexing_fields fs) _ (then_makes (space_at (codes "createIndexes") fs) _
    (λ named. subst (λ (o : Option (List Index)). MakesBy (option_map (asks_indexes named) o)) (sym (indexes_are space at)) (at, refl)))

-- ---- commands

check_makes : (t : PutTask) (ls : List Line) → IsOfCheck (put_bucket t) ls → MakesCommand (fields_in ls)
check_makes t ls (a_find is) = subst (λ (ls : List Line). MakesCommand (fields_in ls)) (sym is) (finds_make (fields_in (any_lines (put_bucket t))))
check_makes t ls (a_creation at is) = subst (λ (ls : List Line). MakesCommand (fields_in ls)) (sym is) (creates_make (fields_in (creation_lines (put_bucket t) at)))
check_makes t ls (a_listing at is) = subst (λ (ls : List Line). MakesCommand (fields_in ls)) (sym is) (lists_make (fields_in (listing_lines (put_bucket t) at)))
check_makes t ls (an_index at is) = subst (λ (ls : List Line). MakesCommand (fields_in ls)) (sym is) (index_makes (space_in (put_bucket t) at) at)

next_makes : (id : ℤ) (space : Space) (m : Manner) → MakesCommand (next_command id space m)
next_makes id space m = more_make (next_command id space m)

put_makes : (supply : Supply) (t : PutTask) (fs : Fields) → IsPutCommand supply t fs → MakesCommand fs
put_makes supply t fs (checks (of_check ls of is)) = subst MakesCommand (sym is) (check_makes t ls of)
put_makes supply t fs (checks (reads_on id space is)) = subst MakesCommand (sym is) (next_makes id space no_manner)
put_makes supply t fs (inserts from upto its) = subst MakesCommand (sym its.command_is) (inserts_make (fields_in (chunks_lines (put_bucket t) (chunk_documents its.ids 0 t.id from its.piece))))
put_makes supply t fs (records moment its is) = subst MakesCommand (sym is) (inserts_make (record_insert t moment))
put_makes supply t fs (removes is) = subst MakesCommand (sym is) (deletes_make (chunks_removal t))

get_makes : (g : GetTask) (fs : Fields) → IsGetCommand g fs → MakesCommand fs
get_makes g fs (for_record room is) = subst MakesCommand (sym is) (finds_make (record_find g))
get_makes g fs (for_chunks room id is) = subst MakesCommand (sym is) (finds_make (chunks_find g id))
get_makes g fs (for_more room cursor space is) = subst MakesCommand (sym is) (next_makes cursor space no_manner)

aimed_makes : (a : Option Aim) → Makes (asked_for a)
aimed_makes None = tt
aimed_makes (Some a) = tt

aggregate_makes : (command : List ℕ) (a : ChangeStreamAggregate) (wire : ℤ) → fields command ≡ resuming_in a wire None → MakesCommand (fields command)
unfolding asked
aggregate_makes command a wire is =
    let o = options_for a.args.options a.resume wire in
    subst Makes (sym (asks_as_aimed command (target a.args.target) a.args.pipeline.items o None is)) (aimed_makes (aim_of (target a.args.target) a.args.pipeline.items o))

-- So it is with what a job may send.
pub sends_make : (supply : Supply) (t : Task) (command : List ℕ) → MaySend supply t (fields command) → MakesCommand (fields command)
unfolding asked
sends_make supply (insert ns docs) command p = subst MakesCommand (sym p.command_is) (inserts_make (insert_command ns p.piece))
sends_make supply (follow on count start filter batch) command (opens args wire its is) = aggregate_makes command (first_aggregate args) wire is
sends_make supply (follow on count start filter batch) command (resumes a wire its is) = aggregate_makes command a wire is
sends_make supply (follow on count start filter batch) command (asks args its id space is) = subst MakesCommand (sym is) (next_makes id space (watch_manner args.options))
sends_make supply (follow on count start filter batch) command (kills space ids is) = subst Makes (sym (asks_to_kill_plainly command space ids is)) tt
sends_make supply (put db bucket name id chunk pieces) command p = put_makes supply (put_of db bucket name id chunk pieces) (fields command) p
sends_make supply (plan.get db bucket id read) command p = get_makes (get_of db bucket id read) (fields command) p
