-- The exact commands of reads, writes, collections and indexes, as lists of fields (find, aggregate, CRUD, collection and index specifications). A field that is not given is left out.
use Rattle.std.specs.Prelude.{◌++◌, ℕ, ℤ, pos, true, false, Bool, List, [], ◌∷◌, Option, Some, None, option_map, min, ◌^◌, ◌-◌, ◌+◌, int_lt, ◌&&◌, if◌then◌else◌, codes}
use Rattle.std.specs.Ordering.{int_eq}
use Rattle.std.specs.Str.{bytes_eq}
use Rattle.mg_bson.specs.Tree.{string, document, array, int32, Fields, Items, no_fields, field, item}
use Rattle.mg_bson.specs.Find.{names}
use Rattle.mg_link.specs.Namespace.{Space, Target}
use Rattle.mg_link.specs.Session.{Session}
use Rattle.mg_link.specs.declared.concern.ReadConcern.{ReadConcern}
use Rattle.mg_link.specs.declared.concern.WriteConcern.{WriteConcern}
use Rattle.mg_link.specs.declared.read_preference.SelectionCriteria.{SelectionCriteria}
use Rattle.mg_options.specs.Fields.{Line, Shown, shown, ◌⟼◌⨾◌, nothing, fields_in}
use Rattle.mg_options.specs.Printing.{cursor, flag, inner, value, listed}
use Rattle.mg_options.specs.Records.{aggregate_lines, create_index_lines, find_lines, list_collections_lines, list_indexes_lines}
use Rattle.mg_options.specs.Shown.{collation, concern_lines, hint, read_concern, selection, write_concern}
use Rattle.mg_options.specs.Tables.{modifications_value}
use Rattle.mg_options.specs.declared.aggregate.AggregateOptions.{AggregateOptions}
use Rattle.mg_options.specs.declared.change_stream.ChangeStreamOptions.{ChangeStreamOptions}
use Rattle.mg_options.specs.declared.collections.CreateIndexOptions.{CreateIndexOptions}
use Rattle.mg_options.specs.declared.collections.ListCollectionsOptions.{ListCollectionsOptions}
use Rattle.mg_options.specs.declared.collections.ListIndexesOptions.{ListIndexesOptions}
use Rattle.mg_options.specs.declared.find.FindOptions.{FindOptions}
use Rattle.mg_options.specs.declared.write_words.CursorType.{CursorType}
use Rattle.mg_options.specs.declared.write_words.CursorType.TheVariants as cursors
use Rattle.mg_options.specs.declared.write_words.UpdateModifications.{UpdateModifications}
use Rattle.mg_options.specs.declared.writes.DeleteOptions.{DeleteOptions}
use Rattle.mg_options.specs.declared.writes.InsertManyOptions.{InsertManyOptions}
use Rattle.mg_ops.specs.Commands.{aggregate_on, database_of, watch_stage}
use Rattle.mg_ops.specs.Plain.{plain_insert}
use Rattle.mg_ops.specs.Pieces.{cursor_of_size, index_name, one_of, only_true}
use Rattle.mg_ops.specs.Sessions.{end_of}

-- values that are always there: a text, a number, a document and a flag
abbrev pub text : List ℕ → Shown
text s = shown (string s)

abbrev pub number : ℤ → Shown
number z = shown (int32 z)

abbrev pub whole : Fields → Shown
whole d = shown (document d)

abbrev pub always : Bool → Shown
always b = flag (Some b)

-- what stands behind the body of a read: its database and its session, what is read, and who may be asked
abbrev pub behind_read : List ℕ → Option Session → Option ReadConcern → Option SelectionCriteria → List Line
behind_read db session reads asks = end_of (text db) session ("readConcern" ⟼ read_concern reads ⨾ "$readPreference" ⟼ selection asks ⨾ nothing)

-- what stands behind the body of a write: its database and its session, and how far the write is to come
abbrev pub behind_write : List ℕ → Option Session → Option WriteConcern → List Line
behind_write db session writes = end_of (text db) session ("writeConcern" ⟼ write_concern writes ⨾ nothing)

-- ---- finds

-- a limit below 0 asks for a single batch
abbrev pub is_single : Option ℤ → Bool
is_single None = false
is_single (Some limit) = int_lt limit (pos 0)

-- the cursor stays open at its end
abbrev pub is_tailable : Option CursorType → Bool
is_tailable None = false
is_tailable (Some cursors.NonTailable) = false
is_tailable (Some cursors.Tailable) = true
is_tailable (Some cursors.TailableAwait) = true

-- the server waits for new documents
abbrev pub awaits_data : Option CursorType → Bool
awaits_data None = false
awaits_data (Some cursors.NonTailable) = false
awaits_data (Some cursors.Tailable) = false
awaits_data (Some cursors.TailableAwait) = true

-- a batch of all that the limit allows would leave the cursor open: one more is asked for, as far as a size goes
abbrev pub raised : Option ℤ → ℕ → ℕ
raised None n = n
raised (Some limit) n = if int_eq limit (pos n) then min (n + 1) (2 ^ 32 - 1) else n

-- the size of the batches of a find, and of its getMores
abbrev pub find_size : FindOptions → Option ℕ
find_size o = option_map (raised o.limit) o.batch_size

-- finds documents; who asks for a single batch or a cursor that stays open says so first
abbrev pub find_body : Space → Fields → FindOptions → Option Session → List Line
find_body space filter o session =
    ("find" ⟼ text space.coll
    ⨾ "singleBatch" ⟼ flag (only_true (is_single o.limit))
    ⨾ "tailable" ⟼ flag (only_true (is_tailable o.cursor_type))
    ⨾ "awaitData" ⟼ flag (only_true (awaits_data o.cursor_type))
    ⨾ nothing)
    ++ (find_lines (record o { batch_size = find_size o })
    ++ ("filter" ⟼ whole filter ⨾ behind_read space.db session o.read_concern o.selection_criteria))

-- ---- aggregates

-- a stage that writes what those before it give
abbrev pub is_write_stage : Fields → Bool
is_write_stage no_fields = false
is_write_stage (field k t fs) = if bytes_eq k (codes "$out") then true else bytes_eq k (codes "$merge")

-- the last stage writes, or else what is said where there is none
abbrev pub writes_by : Bool → List Fields → Bool
writes_by b [] = b
writes_by b (stage ∷ stages) = writes_by (is_write_stage stage) stages

-- an aggregate that writes what its stages give
abbrev pub writes_out : List Fields → Bool
writes_out stages = writes_by false stages

-- runs documents through a pipeline; the size of its batches stands in the field `cursor`, which is always there
abbrev pub aggregate_body : Target → List Fields → AggregateOptions → Option Session → List Line
aggregate_body target pipeline o session =
    ("aggregate" ⟼ shown (aggregate_on target)
    ⨾ "pipeline" ⟼ shown (array (listed document pipeline))
    ⨾ "cursor" ⟼ cursor_of_size (writes_out pipeline) o.batch_size
    ⨾ nothing)
    ++ (aggregate_lines (record o { batch_size = None })
    ++ end_of (text (database_of target)) session (concern_lines o.read_concern o.write_concern o.selection_criteria))

-- the pipeline of a watch: the stage that opens it, and those behind it
abbrev pub watch_pipeline : ChangeStreamOptions → List Fields → Shown
watch_pipeline o pipeline = shown (array (item (document (watch_stage o)) (listed document pipeline)))

-- opens a watch: an aggregate with its stage in front, and those of its options that are options of an aggregate
abbrev pub watch_body : Target → List Fields → ChangeStreamOptions → Option Session → List Line
watch_body target pipeline o session =
    "aggregate" ⟼ shown (aggregate_on target)
    ⨾ "pipeline" ⟼ watch_pipeline o pipeline
    ⨾ "cursor" ⟼ cursor_of_size (writes_out pipeline) o.batch_size
    ⨾ "collation" ⟼ collation o.collation
    ⨾ "comment" ⟼ value o.comment
    ⨾ behind_read (database_of target) session o.read_concern o.selection_criteria

-- the same without a session
abbrev pub watch_command : Target → List Fields → ChangeStreamOptions → Fields
watch_command target pipeline o = fields_in (watch_body target pipeline o None)

-- ---- lists of collections and indexes

-- each is `name`
abbrev pub all_name : List (List ℕ) → Bool
all_name [] = true
all_name (k ∷ ks) = bytes_eq k (codes "name") && all_name ks

-- the filter looks at no field but the name
abbrev pub names_alone : Fields → Bool
names_alone filter = all_name (names filter)

-- names are enough to select collections
abbrev pub selects_by_name : Option Fields → Bool
selects_by_name None = true
selects_by_name (Some filter) = names_alone filter

-- lists collections; names alone are listed only where nothing else is needed to select them
abbrev pub list_collections_body : List ℕ → Bool → ListCollectionsOptions → Option Session → List Line
list_collections_body db name_only o session =
    ("listCollections" ⟼ number (pos 1)
    ⨾ "nameOnly" ⟼ always (name_only && selects_by_name o.filter)
    ⨾ nothing)
    ++ (list_collections_lines o ++ end_of (text db) session nothing)

-- lists indexes
abbrev pub list_indexes_body : Space → ListIndexesOptions → Option Session → List Line
list_indexes_body space o session =
    ("listIndexes" ⟼ text space.coll ⨾ "cursor" ⟼ cursor o.batch_size ⨾ nothing)
    ++ (list_indexes_lines o ++ end_of (text space.db) session nothing)

-- ---- commands that are given as documents

-- what stands behind such a command
abbrev pub run_lines : List ℕ → Option SelectionCriteria → Option Session → List Line
run_lines db asks session = end_of (text db) session ("$readPreference" ⟼ selection asks ⨾ nothing)

-- ---- writes

-- a write that fails ends an insert, unless it is said otherwise
abbrev pub is_ordered : Option Bool → Bool
is_ordered None = true
is_ordered (Some asked) = asked

-- inserts the documents of an array
abbrev pub insert_lines : Space → Items → InsertManyOptions → Option Session → List Line
insert_lines space documents o session =
    "insert" ⟼ text space.coll
    ⨾ "documents" ⟼ shown (array documents)
    ⨾ "ordered" ⟼ always (is_ordered o.ordered)
    ⨾ "bypassDocumentValidation" ⟼ flag o.bypass_document_validation
    ⨾ "comment" ⟼ value o.comment
    ⨾ behind_write space.db session o.write_concern

-- inserts documents
abbrev pub insert_body : Space → List Fields → InsertManyOptions → Option Session → List Line
insert_body space documents o session = insert_lines space (listed document documents) o session

-- the same without options and a session, which inserts up to the first document that fails
abbrev pub insert_command : Space → List Fields → Fields
insert_command space documents = fields_in (insert_body space documents plain_insert None)

-- how many documents a deletion may take: all of them where it says 0
abbrev pub delete_limit : Bool → ℤ
delete_limit true = pos 0
delete_limit false = pos 1

-- what one deletion takes
abbrev pub deletion : Fields → Bool → DeleteOptions → List Line
deletion filter many o =
    "q" ⟼ whole filter
    ⨾ "limit" ⟼ number (delete_limit many)
    ⨾ "collation" ⟼ collation o.collation
    ⨾ "hint" ⟼ hint o.hint
    ⨾ nothing

-- removes documents
abbrev pub delete_body : Space → Fields → Bool → DeleteOptions → Option Session → List Line
delete_body space filter many o session =
    "delete" ⟼ text space.coll
    ⨾ "deletes" ⟼ one_of (deletion filter many o)
    ⨾ "ordered" ⟼ always true
    ⨾ "let" ⟼ inner o.let_vars
    ⨾ "comment" ⟼ value o.comment
    ⨾ behind_write space.db session o.write_concern

-- what one update changes, and how
abbrev pub change : Fields → UpdateModifications → Bool → List Line
change filter modifications many =
    "q" ⟼ whole filter
    ⨾ "u" ⟼ shown (modifications_value modifications)
    ⨾ "multi" ⟼ flag (only_true many)
    ⨾ nothing

-- changes documents
abbrev pub update_body : Space → Fields → UpdateModifications → Bool → Option WriteConcern → Option Session → List Line
update_body space filter modifications many writes session =
    "update" ⟼ text space.coll
    ⨾ "updates" ⟼ one_of (change filter modifications many)
    ⨾ "ordered" ⟼ always true
    ⨾ behind_write space.db session writes

-- ---- collections and indexes

-- creates a collection
abbrev pub create_body : Space → Option WriteConcern → Option Session → List Line
create_body space writes session = "create" ⟼ text space.coll ⨾ behind_write space.db session writes

-- drops a collection
abbrev pub drop_body : Space → Option WriteConcern → Option Session → List Line
drop_body space writes session = "drop" ⟼ text space.coll ⨾ behind_write space.db session writes

-- an index, which is named by its keys
abbrev pub index : Fields → List Line
index keys = "key" ⟼ whole keys ⨾ "name" ⟼ index_name keys ⨾ nothing

-- creates an index
abbrev pub create_indexes_body : Space → Fields → CreateIndexOptions → Option Session → List Line
create_indexes_body space keys o session =
    "createIndexes" ⟼ text space.coll
    ⨾ "indexes" ⟼ one_of (index keys)
    ⨾ (create_index_lines o ++ behind_write space.db session o.write_concern)
