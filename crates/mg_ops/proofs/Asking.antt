-- What built commands ask for.
use Rattle.std.proofs.Common.{◌≡◌, ◌++◌, ℕ, ℤ, Bool, true, false, List, [], ◌∷◌, Option, Some, None, refl, ap, sym, ◌∙◌, option_map}
use Rattle.std.specs.Prelude.{codes, option_and_then, unwrap_or, if◌then◌else◌}
use Rattle.std.specs.Str.{bytes_eq}
use Rattle.mg_bson.specs.Tree.{Tree, string, document, array, int64, boolean, Fields}
use Rattle.mg_bson.specs.Find.{as_boolean, get, joined}
use Rattle.mg_bson.specs.Literal.{◌⇒◌⨾◌, empty}
use Rattle.mg_bson.specs.Raw.{fields}
use Rattle.mg_bson.specs.View.{tree}
use Rattle.mg_bson.proofs.Joining.{joined_all}
use Rattle.mg_link.specs.Namespace.{Space, Target, database, collection, cluster}
use Rattle.mg_server.specs.Filter.{Condition}
use Rattle.mg_server.specs.Query.{Query}
use Rattle.mg_link.specs.Session.{Session}
use Rattle.mg_server.specs.State.{Start}
use Rattle.mg_server.specs.Commands.{Asked, asked, asked_by, asks_insert, asks_kill, asks_more, asks_other, asks_watch, documents_in, filter_stages, insert_of, integers_in, is_cluster, kill_of, more_of, space_at, start_of, watch_of, or_asks, pipeline_query, piped, stages_in, asks_query, has_only, pipeline_fields}
use Rattle.mg_options.specs.Fields.{Line, line, shown, given, fields_in, ◌⟼◌⨾◌, nothing}
use Rattle.mg_ops.specs.Given.{◌⇢◌⨾◌}
use Rattle.mg_options.specs.Options.{change_stream_fields}
use Rattle.mg_options.specs.Printing.{flag, time_value, value, listed}
use Rattle.mg_options.specs.Shown.{collation, full_document, full_document_before, write_concern}
use Rattle.mg_options.specs.declared.change_stream.ChangeStreamOptions.{ChangeStreamOptions}
use Rattle.mg_options.specs.declared.writes.InsertManyOptions.{InsertManyOptions}
use Rattle.mg_ops.specs.Commands.{aggregate_on, asked_size, database_of, kill_command, more_command, wait_value, watch_stage}
use Rattle.mg_ops.specs.Aims.{Aim, aim, aim_of, asked_for}
use Rattle.mg_ops.specs.Bodies.{always, behind_read, insert_body, is_ordered, text, watch_body, watch_command, watch_pipeline, writes_out, insert_command}
use Rattle.mg_ops.specs.Cursors.{Manner, next_command}
use Rattle.mg_ops.specs.Naming.{IsNamed, start_in, watches_all}
use Rattle.mg_ops.specs.Pieces.{cursor_of_size}
use Rattle.mg_ops.specs.Plain.{plain_insert}
use Rattle.mg_ops.specs.Sessions.{in_session, session_lines}
use Rattle.mg_ops.proofs.Sessions.{line_past}
use Rattle.mg_bson.specs.Reading.{◌>>=◌}

-- ---- lists in arrays

pub documents_listed : (ds : List Fields) → documents_in (listed document ds) ≡ Some ds
documents_listed [] = refl
documents_listed (d ∷ ds) = ap (option_map (λ es. d ∷ es)) (documents_listed ds)

integers_listed : (zs : List ℤ) → integers_in (listed int64 zs) ≡ Some zs
integers_listed [] = refl
integers_listed (z ∷ zs) = ap (option_map (λ ys. z ∷ ys)) (integers_listed zs)

-- ---- the options of a watch

-- a field that may be left out is found where its name is not found behind it
found_line : (k : List ℕ) (t : Option Tree) (ls : List Line) → bytes_eq k k ≡ true → get k (fields_in ls) ≡ None → get k (fields_in (line k (given t) ∷ ls)) ≡ t
found_line k None ls same none = none
found_line k (Some t) ls same none = ap (λ (b : Bool). if b then Some t else get k (fields_in ls)) same

-- the fields of the stage from each of its names on
abbrev from_comment : ChangeStreamOptions → List Line
from_comment o = "comment" ⟼ value o.comment ⨾ nothing

abbrev from_expanded : ChangeStreamOptions → List Line
from_expanded o = "showExpandedEvents" ⟼ flag o.show_expanded_events ⨾ from_comment o

abbrev from_all : ChangeStreamOptions → List Line
from_all o = "allChangesForCluster" ⟼ flag o.all_changes_for_cluster ⨾ from_expanded o

abbrev from_start_after : ChangeStreamOptions → List Line
from_start_after o = "startAfter" ⟼ given o.start_after ⨾ from_all o

abbrev from_time : ChangeStreamOptions → List Line
from_time o = "startAtOperationTime" ⟼ given (option_map time_value o.start_at_operation_time) ⨾ from_start_after o

abbrev from_resume_after : ChangeStreamOptions → List Line
from_resume_after o = "resumeAfter" ⟼ given o.resume_after ⨾ from_time o

abbrev from_before : ChangeStreamOptions → List Line
from_before o = "fullDocumentBeforeChange" ⟼ full_document_before o.full_document_before_change ⨾ from_resume_after o

-- the fields behind the starts have other names
past_expanded : (k : List ℕ) (o : ChangeStreamOptions) → bytes_eq (codes "showExpandedEvents") k ≡ false → bytes_eq (codes "comment") k ≡ false → get k (fields_in (from_expanded o)) ≡ None
past_expanded k o a b = line_past k (codes "showExpandedEvents") (flag o.show_expanded_events) (from_comment o) a ∙ line_past k (codes "comment") (value o.comment) nothing b

past_all : (k : List ℕ) (o : ChangeStreamOptions) → bytes_eq (codes "allChangesForCluster") k ≡ false → bytes_eq (codes "showExpandedEvents") k ≡ false → bytes_eq (codes "comment") k ≡ false → get k (fields_in (from_all o)) ≡ None
past_all k o a b c = line_past k (codes "allChangesForCluster") (flag o.all_changes_for_cluster) (from_expanded o) a ∙ past_expanded k o b c

-- so have those in front of them
past_front : (k : List ℕ) (o : ChangeStreamOptions) → bytes_eq (codes "fullDocument") k ≡ false → bytes_eq (codes "fullDocumentBeforeChange") k ≡ false → get k (change_stream_fields o) ≡ get k (fields_in (from_resume_after o))
past_front k o a b =
    line_past k (codes "fullDocument") (full_document o.full_document) (from_before o) a ∙ line_past k (codes "fullDocumentBeforeChange") (full_document_before o.full_document_before_change) (from_resume_after o) b

resume_after_in : (o : ChangeStreamOptions) → get (codes "resumeAfter") (change_stream_fields o) ≡ o.resume_after
resume_after_in o =
    past_front (codes "resumeAfter") o refl refl
    ∙ found_line (codes "resumeAfter") o.resume_after (from_time o) refl
    (line_past (codes "resumeAfter") (codes "startAtOperationTime") (given (option_map time_value o.start_at_operation_time)) (from_start_after o) refl
    ∙ line_past (codes "resumeAfter") (codes "startAfter") (given o.start_after) (from_all o) refl
    ∙ past_all (codes "resumeAfter") o refl refl refl)

start_time_in : (o : ChangeStreamOptions) → get (codes "startAtOperationTime") (change_stream_fields o) ≡ option_map time_value o.start_at_operation_time
start_time_in o =
    past_front (codes "startAtOperationTime") o refl refl
    ∙ line_past (codes "startAtOperationTime") (codes "resumeAfter") (given o.resume_after) (from_time o) refl
    ∙ found_line (codes "startAtOperationTime") (option_map time_value o.start_at_operation_time) (from_start_after o) refl
    (line_past (codes "startAtOperationTime") (codes "startAfter") (given o.start_after) (from_all o) refl
    ∙ past_all (codes "startAtOperationTime") o refl refl refl)

start_after_in : (o : ChangeStreamOptions) → get (codes "startAfter") (change_stream_fields o) ≡ o.start_after
start_after_in o =
    past_front (codes "startAfter") o refl refl
    ∙ line_past (codes "startAfter") (codes "resumeAfter") (given o.resume_after) (from_time o) refl
    ∙ line_past (codes "startAfter") (codes "startAtOperationTime") (given (option_map time_value o.start_at_operation_time)) (from_start_after o) refl
    ∙ found_line (codes "startAfter") o.start_after (from_all o) refl (past_all (codes "startAfter") o refl refl refl)

all_changes_in : (o : ChangeStreamOptions) → get (codes "allChangesForCluster") (change_stream_fields o) ≡ option_map boolean o.all_changes_for_cluster
all_changes_in o =
    past_front (codes "allChangesForCluster") o refl refl
    ∙ line_past (codes "allChangesForCluster") (codes "resumeAfter") (given o.resume_after) (from_time o) refl
    ∙ line_past (codes "allChangesForCluster") (codes "startAtOperationTime") (given (option_map time_value o.start_at_operation_time)) (from_start_after o) refl
    ∙ line_past (codes "allChangesForCluster") (codes "startAfter") (given o.start_after) (from_all o) refl
    ∙ found_line (codes "allChangesForCluster") (option_map boolean o.all_changes_for_cluster) (from_expanded o) refl (past_expanded (codes "allChangesForCluster") o refl refl)

start_is : (o : ChangeStreamOptions) → start_of (change_stream_fields o) ≡ start_in o
start_is o = rw (resume_after_in o, start_after_in o, start_time_in o) refl

flag_of : (b : Option Bool) → unwrap_or (option_and_then as_boolean (option_map boolean b)) false ≡ unwrap_or b false
flag_of None = refl
flag_of (Some b) = refl

cluster_is : (o : ChangeStreamOptions) → is_cluster (change_stream_fields o) ≡ watches_all o
cluster_is o = ap (λ t. unwrap_or (option_and_then as_boolean t) false) (all_changes_in o) ∙ flag_of o.all_changes_for_cluster

-- ---- commands, with whatever stands behind their database

-- an insert, with what may be left out
abbrev inserting : Space → List Fields → Bool → Option Tree → Option Tree → List Line → List Line
inserting space ds ordered t u ls = "insert" ⟼ text space.coll ⨾ "documents" ⟼ shown (array (listed document ds)) ⨾ "ordered" ⟼ always ordered ⨾ "bypassDocumentValidation" ⟼ given t ⨾ "comment" ⟼ given u ⨾ "$db" ⟼ text space.db ⨾ ls

insert_by : (space : Space) (ds : List Fields) (ordered : Bool) (t u : Option Tree) (ls : List Line) → IsNamed space → asked_by (fields_in (inserting space ds ordered t u ls)) ≡ Some (asks_insert space ds ordered)
unfolding insert_of space_at
insert_by space ds ordered None None ls named = rw (named.db, named.coll, documents_listed ds) refl
insert_by space ds ordered None (Some u) ls named = rw (named.db, named.coll, documents_listed ds) refl
insert_by space ds ordered (Some t) None ls named = rw (named.db, named.coll, documents_listed ds) refl
insert_by space ds ordered (Some t) (Some u) ls named = rw (named.db, named.coll, documents_listed ds) refl

-- a getMore, with what may be left out
abbrev asking : ℤ → Space → Option Tree → Option Tree → Option Tree → Fields
asking id space t u v = "getMore" ⇒ int64 id ⨾ "collection" ⇒ string space.coll ⨾ "batchSize" ⇢ t ⨾ "maxTimeMS" ⇢ u ⨾ "comment" ⇢ v ⨾ "$db" ⇒ string space.db ⨾ empty

more_by : (id : ℤ) (space : Space) (t u v : Option Tree) (rest : Fields) → IsNamed space → asked_by (joined (asking id space t u v) rest) ≡ Some (asks_more id space)
unfolding more_of space_at
more_by id space None None None rest named = rw (named.db, named.coll) refl
more_by id space None None (Some v) rest named = rw (named.db, named.coll) refl
more_by id space None (Some u) None rest named = rw (named.db, named.coll) refl
more_by id space None (Some u) (Some v) rest named = rw (named.db, named.coll) refl
more_by id space (Some t) None None rest named = rw (named.db, named.coll) refl
more_by id space (Some t) None (Some v) rest named = rw (named.db, named.coll) refl
more_by id space (Some t) (Some u) None rest named = rw (named.db, named.coll) refl
more_by id space (Some t) (Some u) (Some v) rest named = rw (named.db, named.coll) refl

kill_by : (space : Space) (ids : List ℤ) (rest : Fields) → asked_by ("killCursors" ⇒ string space.coll ⨾ "cursors" ⇒ array (listed int64 ids) ⨾ "$db" ⇒ string space.db ⨾ rest) ≡ Some (asks_kill ids)
unfolding kill_of
kill_by space ids rest = rw (integers_listed ids) refl

-- what is found in turn: a filter, a start and a target
watched_of : (f : Option (List Condition)) (s : Option Start) (t : Option Target)
    → option_and_then (λ filter. option_and_then (λ start. option_map (λ target. asks_watch (record { target = target; filter = filter }) start) t) s) f
    ≡ option_map (λ (a : Aim). asks_watch a.watch a.start) (option_and_then (λ filter. option_and_then (λ start. option_map (λ target. record { watch = record { target = target; filter = filter }; start = start }) t) s) f)
watched_of None s t = refl
watched_of (Some f) None t = refl
watched_of (Some f) (Some s) None = refl
watched_of (Some f) (Some s) (Some t) = refl

-- the aggregate of a watch, with whatever stands behind its pipeline but for its database
abbrev watched : Target → List Fields → ChangeStreamOptions → List Line → Fields
watched target stages o ls = fields_in ("aggregate" ⟼ shown (aggregate_on target) ⨾ "pipeline" ⟼ watch_pipeline o stages ⨾ ls)

watch_found : (target : Target) (stages : List Fields) (o : ChangeStreamOptions) (ls : List Line) → get (codes "$db") (fields_in ls) ≡ Some (string (database_of target))
    → watch_of (watched target stages o ls) ≡ option_map (λ (a : Aim). asks_watch a.watch a.start) (aim_of target stages o)
unfolding watch_of
watch_found (collection space) stages o ls db = rw (documents_listed stages, start_is o, db) (watched_of (filter_stages stages) (start_in o) (aim o (collection space)))
watch_found (database name) stages o ls db = rw (documents_listed stages, start_is o, cluster_is o, db) (watched_of (filter_stages stages) (start_in o) (aim o (database name)))
watch_found cluster stages o ls db = rw (documents_listed stages, start_is o, cluster_is o, db) (watched_of (filter_stages stages) (start_in o) (aim o cluster))

never_by : (b : Bool) (s : Option Space) (f : Space → Option Query) → ((space : Space) → f space ≡ None) → (if b then option_map asks_query (s >>= f) else None) ≡ None
never_by true None f h = refl
never_by true (Some space) f h = ap (option_map asks_query) (h space)
never_by false s f h = refl

not_piped : (fs : Fields) (o : ChangeStreamOptions) (stages : List Fields) (at : Space) → piped fs (option_map (λ (ds : List Fields). watch_stage o ∷ ds) (documents_in (listed document stages))) at ≡ None
not_piped fs o stages at = rw (documents_listed stages) refl

-- the stage that opens a watch is none of a query
no_query : (target : Target) (stages : List Fields) (o : ChangeStreamOptions) (ls : List Line) → pipeline_query (watched target stages o ls) ≡ None
unfolding pipeline_query
no_query (collection space) stages o ls =
    let fs : Fields = watched (collection space) stages o ls in
    never_by (has_only pipeline_fields fs) (space_at (codes "aggregate") fs) (piped fs (stages_in fs)) (not_piped fs o stages)
no_query (database db) stages o ls =
    let fs : Fields = watched (database db) stages o ls in
    never_by (has_only pipeline_fields fs) (space_at (codes "aggregate") fs) (piped fs (stages_in fs)) (not_piped fs o stages)
no_query cluster stages o ls =
    let fs : Fields = watched cluster stages o ls in
    never_by (has_only pipeline_fields fs) (space_at (codes "aggregate") fs) (piped fs (stages_in fs)) (not_piped fs o stages)

or_none : (o : Option Asked) → or_asks o None ≡ o
or_none None = refl
or_none (Some a) = refl

asked_aggregate : (target : Target) (stages : List Fields) (o : ChangeStreamOptions) (ls : List Line)
    → asked_by (watched target stages o ls) ≡ or_asks (watch_of (watched target stages o ls)) (pipeline_query (watched target stages o ls))
asked_aggregate (collection space) stages o ls = refl
asked_aggregate (database db) stages o ls = refl
asked_aggregate cluster stages o ls = refl

watch_by : (target : Target) (stages : List Fields) (o : ChangeStreamOptions) (ls : List Line) → get (codes "$db") (fields_in ls) ≡ Some (string (database_of target))
    → asked_by (watched target stages o ls) ≡ option_map (λ (a : Aim). asks_watch a.watch a.start) (aim_of target stages o)
watch_by target stages o ls db =
    asked_aggregate target stages o ls ∙ ap (or_asks (watch_of (watched target stages o ls))) (no_query target stages o ls) ∙ or_none (watch_of (watched target stages o ls)) ∙ watch_found target stages o ls db

-- what stands behind its pipeline
abbrev behind_pipeline : Target → List Fields → ChangeStreamOptions → Option Session → List Line
behind_pipeline target stages o session =
    "cursor" ⟼ cursor_of_size (writes_out stages) o.batch_size ⨾ "collation" ⟼ collation o.collation ⨾ "comment" ⟼ value o.comment ⨾ behind_read (database_of target) session o.read_concern o.selection_criteria

-- its database among that
database_in : (target : Target) (stages : List Fields) (o : ChangeStreamOptions) (session : Option Session) → get (codes "$db") (fields_in (behind_pipeline target stages o session)) ≡ Some (string (database_of target))
database_in target stages o session =
    let db : List Line = behind_read (database_of target) session o.read_concern o.selection_criteria in
    line_past (codes "$db") (codes "cursor") (cursor_of_size (writes_out stages) o.batch_size) ("collation" ⟼ collation o.collation ⨾ "comment" ⟼ value o.comment ⨾ db) refl
    ∙ line_past (codes "$db") (codes "collation") (collation o.collation) ("comment" ⟼ value o.comment ⨾ db) refl
    ∙ line_past (codes "$db") (codes "comment") (value o.comment) db refl

pub as_asked : (command : List ℕ) (fs : Fields) (a : Asked) → fields command ≡ fs → asked_by fs ≡ Some a → asked command ≡ a
unfolding asked
as_asked command fs a e by = ap (λ gs. unwrap_or (asked_by gs) asks_other) e ∙ ap (λ b. unwrap_or b asks_other) by

unwrapped : (a : Option Aim) → unwrap_or (option_map (λ (a : Aim). asks_watch a.watch a.start) a) asks_other ≡ asked_for a
unwrapped None = refl
unwrapped (Some a) = refl

as_aimed : (command : List ℕ) (fs : Fields) (a : Option Aim) → fields command ≡ fs → asked_by fs ≡ option_map (λ (a : Aim). asks_watch a.watch a.start) a → asked command ≡ asked_for a
unfolding asked
as_aimed command fs a e by = ap (λ gs. unwrap_or (asked_by gs) asks_other) e ∙ ap (λ b. unwrap_or b asks_other) by ∙ unwrapped a

-- ---- in any session

-- the fields of a session
abbrev session_fields : Session → Fields
session_fields s = fields_in (session_lines (Some s))

pub asks_to_insert : (command : List ℕ) (space : Space) (ds : List Fields) (o : InsertManyOptions) (session : Option Session) → IsNamed space
    → fields command ≡ fields_in (insert_body space ds o session) → asked command ≡ asks_insert space ds (is_ordered o.ordered)
asks_to_insert command space ds o session named e =
    as_asked command (fields_in (insert_body space ds o session)) (asks_insert space ds (is_ordered o.ordered)) e
    (insert_by space ds (is_ordered o.ordered) (option_map boolean o.bypass_document_validation) (option_map tree o.comment) (session_lines session ++ ("writeConcern" ⟼ write_concern o.write_concern ⨾ nothing)) named)

pub asks_for_more : (command : List ℕ) (id : ℤ) (space : Space) (size time : Option ℕ) (comment : Option Tree) (session : Option Session) → IsNamed space
    → fields command ≡ in_session session (more_command id space size time comment) → asked command ≡ asks_more id space
asks_for_more command id space size time comment None named e =
    let fs : Fields = asking id space (asked_size size) (option_map wait_value time) comment in
    as_asked command fs (asks_more id space) e (ap asked_by (sym (joined_all fs)) ∙ more_by id space (asked_size size) (option_map wait_value time) comment empty named)
asks_for_more command id space size time comment (Some s) named e =
    as_asked command (in_session (Some s) (more_command id space size time comment)) (asks_more id space) e (more_by id space (asked_size size) (option_map wait_value time) comment (session_fields s) named)

pub asks_to_kill : (command : List ℕ) (space : Space) (ids : List ℤ) (session : Option Session) → fields command ≡ in_session session (kill_command space ids) → asked command ≡ asks_kill ids
asks_to_kill command space ids None e = as_asked command (kill_command space ids) (asks_kill ids) e (kill_by space ids empty)
asks_to_kill command space ids (Some s) e = as_asked command (in_session (Some s) (kill_command space ids)) (asks_kill ids) e (kill_by space ids (session_fields s))

pub asks_as_aimed : (command : List ℕ) (target : Target) (stages : List Fields) (o : ChangeStreamOptions) (session : Option Session) → fields command ≡ fields_in (watch_body target stages o session)
    → asked command ≡ asked_for (aim_of target stages o)
asks_as_aimed command target stages o session e =
    as_aimed command (fields_in (watch_body target stages o session)) (aim_of target stages o) e (watch_by target stages o (behind_pipeline target stages o session) (database_in target stages o session))

-- ---- without a session

pub asks_to_insert_plainly : (command : List ℕ) (space : Space) (ds : List Fields) → IsNamed space → fields command ≡ insert_command space ds → asked command ≡ asks_insert space ds true
asks_to_insert_plainly command space ds named e = asks_to_insert command space ds plain_insert None named e

pub asks_for_more_plainly : (command : List ℕ) (id : ℤ) (space : Space) (m : Manner) → IsNamed space → fields command ≡ next_command id space m → asked command ≡ asks_more id space
asks_for_more_plainly command id space m named e = asks_for_more command id space m.size m.wait m.comment None named e

pub asks_to_kill_plainly : (command : List ℕ) (space : Space) (ids : List ℤ) → fields command ≡ kill_command space ids → asked command ≡ asks_kill ids
asks_to_kill_plainly command space ids e = asks_to_kill command space ids None e

pub asks_as_aimed_plainly : (command : List ℕ) (target : Target) (stages : List Fields) (o : ChangeStreamOptions) → fields command ≡ watch_command target stages o → asked command ≡ asked_for (aim_of target stages o)
asks_as_aimed_plainly command target stages o e = asks_as_aimed command target stages o None e
