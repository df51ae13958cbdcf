-- The exact commands of operations (insert, aggregate, getMore and killCursors specifications, `$db` behind the body).
use Rattle.std.specs.Prelude.{ℕ, zero, suc, ℤ, pos, min, List, Option, Some, None, option_map, codes}
use Rattle.mg_bson.specs.Tree.{Tree, string, document, array, int32, int64, Fields}
use Rattle.mg_bson.specs.Literal.{◌⇒◌⨾◌, empty}
use Rattle.mg_link.specs.Namespace.{Space, Target, database, collection, cluster}
use Rattle.mg_options.specs.Printing.{listed}
use Rattle.mg_ops.specs.Given.{◌⇢◌⨾◌}
use Rattle.mg_options.specs.Options.{change_stream_fields}
use Rattle.mg_options.specs.declared.change_stream.ChangeStreamOptions.{ChangeStreamOptions}

-- the size of a batch, as commands name it
abbrev pub size_value : ℕ → Tree
size_value n = int32 (pos n)

-- a batch of no documents cannot be asked for
abbrev pub asked_size : Option ℕ → Option Tree
asked_size None = None
asked_size (Some zero) = None
asked_size (Some (suc n)) = Some (size_value (suc n))

-- the most milliseconds that a server waits, as far as a time goes
abbrev pub wait_value : ℕ → Tree
wait_value n = int32 (pos (min n 2147483647))

-- asks for the next batch of a cursor, which the server may wait for so long, with a comment
abbrev pub more_command : ℤ → Space → Option ℕ → Option ℕ → Option Tree → Fields
more_command id space size time comment =
    "getMore" ⇒ int64 id ⨾ "collection" ⇒ string space.coll ⨾ "batchSize" ⇢ asked_size size ⨾ "maxTimeMS" ⇢ option_map wait_value time ⨾ "comment" ⇢ comment ⨾ "$db" ⇒ string space.db ⨾ empty

-- kills cursors
abbrev pub kill_command : Space → List ℤ → Fields
kill_command space ids = "killCursors" ⇒ string space.coll ⨾ "cursors" ⇒ array (listed int64 ids) ⨾ "$db" ⇒ string space.db ⨾ empty

-- what an aggregate names first: a collection, or 1 for a database and the cluster
abbrev pub aggregate_on : Target → Tree
aggregate_on (collection space) = string space.coll
aggregate_on (database db) = int32 (pos 1)
aggregate_on cluster = int32 (pos 1)

-- the database of an aggregate; the cluster's is `admin`
abbrev pub database_of : Target → List ℕ
database_of (collection space) = space.db
database_of (database db) = db
database_of cluster = codes "admin"

abbrev pub cursor_fields : Option ℕ → Fields
cursor_fields size = "batchSize" ⇢ option_map size_value size ⨾ empty

-- the stage that opens a watch
abbrev pub watch_stage : ChangeStreamOptions → Fields
watch_stage o = "$changeStream" ⇒ document (change_stream_fields o) ⨾ empty
