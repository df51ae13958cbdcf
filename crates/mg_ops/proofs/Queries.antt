-- What built finds, aggregates and lists ask for, by their options.
use Rattle.std.proofs.Common.{◌≡◌, ◌++◌, ◌^◌, ℕ, ℤ, Bool, true, false, List, [], ◌∷◌, Option, Some, None, refl, ap, ap₂, sym, ◌∙◌, option_map}
use Rattle.std.specs.Prelude.{codes, ltb, nat_abs, option_and_then, pos, unwrap_or, if◌then◌else◌}
use Rattle.std.specs.Str.{bytes_eq}
use Rattle.std.proofs.lemmas.Slice.Eq.{bytes_eq-Decides}
use Rattle.mg_bson.specs.Tree.{Tree, Fields, array, document, int32, int64, no_fields, field, string}
use Rattle.mg_bson.specs.Find.{as_document, get}
use Rattle.mg_bson.specs.Literal.{◌⇒◌⨾◌, empty}
use Rattle.mg_bson.specs.Reading.{◌>>=◌}
use Rattle.mg_bson.specs.Raw.{fields}
use Rattle.mg_link.specs.Namespace.{Space, collection, as_database}
use Rattle.mg_link.specs.Session.{Session}
use Rattle.mg_link.specs.declared.error.BadArgument.{BadArgument}
use Rattle.mg_link.specs.declared.error.BadArgument.TheVariants as argument
use Rattle.mg_server.specs.Query.{Query, Source, Stage, of_collection, of_database, of_indexes}
use Rattle.mg_server.specs.Commands.{Asked, asked, asked_by, asks_other, asks_query, batch_size, collections_fields, collections_query, database_at, find_fields, find_of, find_query, flag_or, has_only, indexes_fields, indexes_listed, indexes_query, limiting, listing_of, optional_count, optional_size, or_asks, pipeline_fields, pipeline_of, pipeline_query, piped, query_by, selecting, showing, skipping, sorting, space_at, stage_by, stage_of, stages_by, stages_in, watch_by, watch_from, watch_of, watch_stage_options}
use Rattle.mg_options.specs.Fields.{Line, shown, unfit, fields_in, first_unfit, unfit_of}
use Rattle.mg_options.specs.Printing.{count, cursor, flag, inner, limit, listed, size}
use Rattle.mg_options.specs.declared.aggregate.AggregateOptions.{AggregateOptions}
use Rattle.mg_options.specs.declared.collections.ListCollectionsOptions.{ListCollectionsOptions}
use Rattle.mg_options.specs.declared.collections.ListIndexesOptions.{ListIndexesOptions}
use Rattle.mg_options.specs.declared.find.FindOptions.{FindOptions}
use Rattle.mg_options.specs.declared.write_words.CursorType.{CursorType}
use Rattle.mg_options.specs.declared.write_words.CursorType.TheVariants as cursors
use Rattle.mg_ops.specs.Bodies.{aggregate_body, find_body, find_size, is_single, is_tailable, is_write_stage, list_collections_body, list_indexes_body, text, whole, writes_by, writes_out}
use Rattle.mg_ops.specs.Naming.{IsNamed}
use Rattle.mg_ops.specs.Pieces.{cursor_of_size, only_true}
use Rattle.mg_ops.specs.Queries.{IsAskable, aggregate_asked, askable_aggregate, askable_find, asked_query, collections_asked, find_asked, indexes_asked, limited_by, skipped_by}
use Rattle.mg_ops.proofs.Asking.{as_asked, documents_listed}
use Rattle.mg_ops.proofs.Lines.{allowed_in, fit_at, value_at, come_to}

-- ---- how a server reads the values of options

document_read : (d : Option Fields) → come_to (inner d) ≡ option_map document d
document_read None = refl
document_read (Some d) = refl

single_read : (b : Bool) → flag_or false (come_to (flag (only_true b))) ≡ Some b
single_read true = refl
single_read false = refl

size_if : (b : Bool) (n : ℕ) → unfit_of (if b then shown (int32 (pos n)) else unfit argument.BatchSize) ≡ None
    → optional_count (come_to (if b then shown (int32 (pos n)) else unfit argument.BatchSize)) ≡ Some (Some n)
size_if true n fit = refl
size_if false n fit = absurd cc

size_read : (n : Option ℕ) → unfit_of (size n) ≡ None → optional_count (come_to (size n)) ≡ Some n
size_read None fit = refl
size_read (Some n) fit = size_if (ltb n (2 ^ 31)) n fit

skip_if : (b : Bool) (n : ℕ) → unfit_of (if b then shown (int64 (pos n)) else unfit argument.Number) ≡ None
    → stages_by skipping (come_to (if b then shown (int64 (pos n)) else unfit argument.Number)) ≡ Some (skipped_by (Some n))
skip_if true n fit = refl
skip_if false n fit = absurd cc

skip_read : (n : Option ℕ) → unfit_of (count n) ≡ None → stages_by skipping (come_to (count n)) ≡ Some (skipped_by n)
skip_read None fit = refl
skip_read (Some n) fit = skip_if (ltb n (2 ^ 63)) n fit

limit_if : (b : Bool) (z : ℤ) → unfit_of (if b then shown (int64 (pos (nat_abs z))) else unfit argument.Limit) ≡ None
    → stages_by limiting (come_to (if b then shown (int64 (pos (nat_abs z))) else unfit argument.Limit)) ≡ Some (limited_by (Some z))
limit_if true z fit = refl
limit_if false z fit = absurd cc

limit_read : (z : Option ℤ) → unfit_of (limit z) ≡ None → stages_by limiting (come_to (limit z)) ≡ Some (limited_by z)
limit_read None fit = refl
limit_read (Some z) fit = limit_if (ltb (nat_abs z) (2 ^ 63)) z fit

-- the collection that a command names
space_read : (name : List ℕ) (fs : Fields) (space : Space) → IsNamed space → get name fs ≡ Some (string space.coll) → get (codes "$db") fs ≡ Some (string space.db) → space_at name fs ≡ Some space
unfolding space_at
space_read name fs space named coll db = rw (db, coll, named.db, named.coll) refl

unwrapped : (q : Option Query) → unwrap_or (option_map asks_query q) asks_other ≡ asked_query q
unwrapped None = refl
unwrapped (Some q) = refl

asks_as : (command : List ℕ) (fs : Fields) (q : Option Query) → fields command ≡ fs → asked_by fs ≡ option_map asks_query q → asked command ≡ asked_query q
unfolding asked
asks_as command fs q is by = ap (λ gs. unwrap_or (asked_by gs) asks_other) is ∙ ap (λ b. unwrap_or b asks_other) by ∙ unwrapped q

-- ---- finds

found : (fs : Fields) (space : Space) → has_only find_fields fs ≡ true → space_at (codes "find") fs ≡ Some space → find_of fs ≡ option_map asks_query (find_query fs space)
unfolding find_of
found fs space only at = rw (only, at) refl

-- a find by what a server reads of each option
abbrev finding : Space → (f g h i j : Option (List Stage)) → Option Bool → Option (Option ℕ) → Option Query
finding space f g h i j s n = (f >>= λ a. g >>= λ b. h >>= λ c. i >>= λ d. j >>= λ e. Some (a ++ b ++ c ++ d ++ e)) >>= λ stages. s >>= λ single. n >>= λ size. Some (query_by (of_collection space) single stages size)

same_finding : (space : Space) (a a' b b' c d e e' : Option (List Stage)) (c' d' : List Stage) (s : Option Bool) (s' : Bool) (n : Option (Option ℕ)) (n' : Option ℕ)
    → a ≡ a' → b ≡ b' → c ≡ Some c' → d ≡ Some d' → e ≡ e' → s ≡ Some s' → n ≡ Some n' → finding space a b c d e s n ≡ finding space a' b' (Some c') (Some d') e' (Some s') (Some n')
same_finding space a a' b b' c d e e' c' d' s s' n n' x1 x2 x3 x4 x5 x6 x7 = rw (x1, x2, x3, x4, x5, x6, x7) refl

-- a server takes its fields, where its cursor is of this kind
find_taken : (space : Space) (filter : Fields) (o : FindOptions) (kind : Option CursorType) → is_tailable kind ≡ false → (session : Option Session)
    → has_only find_fields (fields_in (find_body space filter (record (askable_find o) { cursor_type = kind }) session)) ≡ true
find_taken space filter o None closes session = allowed_in find_fields (find_body space filter (record (askable_find o) { cursor_type = None })) refl (λ x. refl) session
find_taken space filter o (Some cursors.NonTailable) closes session = allowed_in find_fields (find_body space filter (record (askable_find o) { cursor_type = Some cursors.NonTailable })) refl (λ x. refl) session
find_taken space filter o (Some cursors.Tailable) closes session = absurd cc
find_taken space filter o (Some cursors.TailableAwait) closes session = absurd cc

module _ (space : Space) (filter : Fields) (o : FindOptions) (session : Option Session) where
  -- its fields
  abbrev fs : Fields
  fs = fields_in (find_body space filter o session)

  find_allowed : IsAskable o → has_only find_fields fs ≡ true
  find_allowed able = ap (λ (x : FindOptions). has_only find_fields (fields_in (find_body space filter x session))) able.known ∙ find_taken space filter o o.cursor_type able.closes session

  find_queried : first_unfit (find_body space filter o None) ≡ None → find_query fs space ≡ find_asked space filter o
  find_queried fit =
      let ls : Option Session → List Line = find_body space filter o in
      same_finding space (stages_by selecting (get (codes "filter") fs)) (selecting (document filter)) (stages_by sorting (get (codes "sort") fs)) (stages_by sorting (option_map document o.sort))
      (stages_by skipping (get (codes "skip") fs)) (stages_by limiting (get (codes "limit") fs)) (stages_by showing (get (codes "projection") fs)) (stages_by showing (option_map document o.projection))
      (skipped_by o.skip) (limited_by o.limit) (flag_or false (get (codes "singleBatch") fs)) (is_single o.limit) (optional_count (get (codes "batchSize") fs)) (find_size o)
      (ap (stages_by selecting) (value_at (codes "filter") ls (whole filter) refl (λ x. refl) session))
      (ap (stages_by sorting) (value_at (codes "sort") ls (inner o.sort) refl (λ x. refl) session ∙ document_read o.sort))
      (ap (stages_by skipping) (value_at (codes "skip") ls (count o.skip) refl (λ x. refl) session) ∙ skip_read o.skip (fit_at (codes "skip") (ls None) fit))
      (ap (stages_by limiting) (value_at (codes "limit") ls (limit o.limit) refl (λ x. refl) session) ∙ limit_read o.limit (fit_at (codes "limit") (ls None) fit))
      (ap (stages_by showing) (value_at (codes "projection") ls (inner o.projection) refl (λ x. refl) session ∙ document_read o.projection))
      (ap (flag_or false) (value_at (codes "singleBatch") ls (flag (only_true (is_single o.limit))) refl (λ x. refl) session) ∙ single_read (is_single o.limit))
      (ap optional_count (value_at (codes "batchSize") ls (size (find_size o)) refl (λ x. refl) session) ∙ size_read (find_size o) (fit_at (codes "batchSize") (ls None) fit))

  find_placed : IsNamed space → space_at (codes "find") fs ≡ Some space
  find_placed named = space_read (codes "find") fs space named refl (value_at (codes "$db") (find_body space filter o) (text space.db) refl (λ x. refl) session)

pub find_asks : (command : List ℕ) (space : Space) (filter : Fields) (o : FindOptions) (session : Option Session) → IsNamed space → IsAskable o → first_unfit (find_body space filter o None) ≡ None
    → fields command ≡ fields_in (find_body space filter o session) → asked command ≡ asked_query (find_asked space filter o)
find_asks command space filter o session named able fit is =
    asks_as command (fields_in (find_body space filter o session)) (find_asked space filter o) is
    (found (fields_in (find_body space filter o session)) space (find_allowed space filter o session able) (find_placed space filter o session named)
    ∙ ap (option_map asks_query) (find_queried space filter o session fit))

-- ---- the field `cursor`

-- it names the size of a batch, where that is its number of 32 bits
cursor_by : (b : Bool) (fs : Fields) (n : ℕ) (a : BadArgument) → get (codes "cursor") fs ≡ come_to (if b then shown (document ("batchSize" ⇒ int32 (pos n) ⨾ empty)) else unfit a)
    → unfit_of (if b then shown (document ("batchSize" ⇒ int32 (pos n) ⨾ empty)) else unfit a) ≡ None → batch_size fs ≡ Some (Some n)
unfolding batch_size
cursor_by true fs n a at fit = rw at refl
cursor_by false fs n a at fit = absurd cc

-- it is always there in an aggregate
cursor_read : (fs : Fields) (n : Option ℕ) → get (codes "cursor") fs ≡ come_to (cursor_of_size false n) → unfit_of (cursor_of_size false n) ≡ None → batch_size fs ≡ Some n
unfolding batch_size
cursor_read fs None at fit = rw at refl
cursor_read fs (Some n) at fit = cursor_by (ltb n (2 ^ 31)) fs n argument.BatchSize at fit

-- a list has it where a size is given
some_size : (fs : Fields) (t : Tree) (n : Option ℕ) → get (codes "cursor") fs ≡ Some t → batch_size fs ≡ Some n → optional_size fs ≡ Some n
some_size fs t n at is = rw at is

list_if : (b : Bool) (fs : Fields) (n : ℕ) (a : BadArgument) → get (codes "cursor") fs ≡ come_to (if b then shown (document ("batchSize" ⇒ int32 (pos n) ⨾ empty)) else unfit a)
    → unfit_of (if b then shown (document ("batchSize" ⇒ int32 (pos n) ⨾ empty)) else unfit a) ≡ None → optional_size fs ≡ Some (Some n)
list_if true fs n a at fit = some_size fs (document ("batchSize" ⇒ int32 (pos n) ⨾ empty)) (Some n) at (cursor_by true fs n a at fit)
list_if false fs n a at fit = absurd cc

list_size : (fs : Fields) (n : Option ℕ) → get (codes "cursor") fs ≡ come_to (cursor n) → unfit_of (cursor n) ≡ None → optional_size fs ≡ Some n
list_size fs None at fit = rw at refl
list_size fs (Some n) at fit = list_if (ltb n (2 ^ 31)) fs n argument.BatchSize at fit

-- ---- aggregates

no_stage : (k l : List ℕ) (t : Tree) → k ≡ l → stage_by l t ≡ None → stage_by k t ≡ None
no_stage k l t is none = ap (λ (x : List ℕ). stage_by x t) is ∙ none

not_watch : (b : Bool) (k : List ℕ) (t : Tree) (a : List Stage) → bytes_eq k (codes "$changeStream") ≡ b → stage_by k t ≡ Some a → (if b then as_document t else None) ≡ None
not_watch false k t a e h = refl
not_watch true k t a e h = let none : stage_by k t ≡ None = no_stage k (codes "$changeStream") t ((bytes_eq-Decides k (codes "$changeStream")).0 e) refl in absurd cc

no_watch_stage : (stage : Fields) (a : List Stage) → stage_of stage ≡ Some a → watch_stage_options stage ≡ None
no_watch_stage no_fields a h = refl
no_watch_stage (field k t no_fields) a h = not_watch (bytes_eq k (codes "$changeStream")) k t a refl h
no_watch_stage (field k t (field l u fs)) a h = refl

not_write : (b c : Bool) (k : List ℕ) (t : Tree) (a : List Stage) → bytes_eq k (codes "$out") ≡ b → bytes_eq k (codes "$merge") ≡ c → stage_by k t ≡ Some a → (if b then true else c) ≡ false
not_write true c k t a out merge h = let none : stage_by k t ≡ None = no_stage k (codes "$out") t ((bytes_eq-Decides k (codes "$out")).0 out) refl in absurd cc
not_write false true k t a out merge h = let none : stage_by k t ≡ None = no_stage k (codes "$merge") t ((bytes_eq-Decides k (codes "$merge")).0 merge) refl in absurd cc
not_write false false k t a out merge h = refl

no_write_stage : (stage : Fields) (a : List Stage) → stage_of stage ≡ Some a → is_write_stage stage ≡ false
no_write_stage no_fields a h = refl
no_write_stage (field k t no_fields) a h = not_write (bytes_eq k (codes "$out")) (bytes_eq k (codes "$merge")) k t a refl refl h
no_write_stage (field k t (field l u fs)) a h = absurd cc

then_some : {A B : Type 0} (o : Option A) (f : A → Option B) (y : B) → (o >>= f) ≡ Some y → (x : A) × (o ≡ Some x) × (f x ≡ Some y)
then_some (Some x) f y h = (x, refl, h)
then_some None f y h = absurd cc

-- the first stage of a pipeline that a query has, and those behind it
parted : (stage : Fields) (more : List Fields) (stages : List Stage) → pipeline_of (stage ∷ more) ≡ Some stages
    → (a : List Stage) × (stage_of stage ≡ Some a) × (b : List Stage) × (pipeline_of more ≡ Some b)
parted stage more stages h =
    let first = then_some (stage_of stage) (λ a. pipeline_of more >>= λ b. Some (a ++ b)) stages h in
    let rest = then_some (pipeline_of more) (λ b. Some (first.0 ++ b)) stages first.2 in
    (first.0, first.1, rest.0, rest.1)

-- stages that a query has open no watch
no_watch : (fs : Fields) (pipeline : List Fields) (stages : List Stage) → pipeline_of pipeline ≡ Some stages → watch_from fs pipeline ≡ None
no_watch fs [] stages h = refl
no_watch fs (stage ∷ more) stages h =
    let p = parted stage more stages h in
    ap (option_and_then (λ options. watch_by fs options more)) (no_watch_stage stage p.0 p.1)

-- and the last of them writes nothing
no_write : (b : Bool) (pipeline : List Fields) (stages : List Stage) → b ≡ false → pipeline_of pipeline ≡ Some stages → writes_by b pipeline ≡ false
no_write b [] stages is h = is
no_write b (stage ∷ more) stages is h =
    let p = parted stage more stages h in
    no_write (is_write_stage stage) more p.2 (no_write_stage stage p.0 p.1) p.3

opens_none : (fs : Fields) (pipeline : List Fields) (stages : List Stage) → get (codes "pipeline") fs ≡ Some (array (listed document pipeline)) → pipeline_of pipeline ≡ Some stages → watch_of fs ≡ None
unfolding watch_of
opens_none fs pipeline stages at is = rw (at, documents_listed pipeline) (no_watch fs pipeline stages is)

stages_read : (fs : Fields) (pipeline : List Fields) → get (codes "pipeline") fs ≡ Some (array (listed document pipeline)) → stages_in fs ≡ Some pipeline
stages_read fs pipeline at = rw at (documents_listed pipeline)

sized_query : (fs : Fields) (space : Space) (pipeline : List Fields) (stages : List Stage) (size : Option ℕ) → pipeline_of pipeline ≡ Some stages → batch_size fs ≡ Some size
    → option_map asks_query (piped fs (Some pipeline) space) ≡ Some (asks_query (query_by (of_collection space) false stages size))
sized_query fs space pipeline stages size is sized = rw (is, sized) refl

query_read : (fs : Fields) (space : Space) (pipeline : List Fields) (stages : List Stage) (size : Option ℕ) → has_only pipeline_fields fs ≡ true → space_at (codes "aggregate") fs ≡ Some space
    → stages_in fs ≡ Some pipeline → pipeline_of pipeline ≡ Some stages → batch_size fs ≡ Some size → pipeline_query fs ≡ Some (asks_query (query_by (of_collection space) false stages size))
unfolding pipeline_query
query_read fs space pipeline stages size only at listed is sized =
    rw (only, at) (ap (λ (ps : Option (List Fields)). option_map asks_query (piped fs ps space)) listed ∙ sized_query fs space pipeline stages size is sized)

abbrev aggregated : Space → List Fields → AggregateOptions → Option Session → List Line
aggregated space pipeline o session = aggregate_body (collection space) pipeline o session

aggregate_sized : (space : Space) (pipeline : List Fields) (stages : List Stage) (o : AggregateOptions) (session : Option Session) → first_unfit (aggregated space pipeline o None) ≡ None → pipeline_of pipeline ≡ Some stages
    → batch_size (fields_in (aggregated space pipeline o session)) ≡ Some o.batch_size
aggregate_sized space pipeline stages o session fit is =
    let none = no_write false pipeline stages refl is in
    cursor_read (fields_in (aggregated space pipeline o session)) o.batch_size
    (value_at (codes "cursor") (aggregated space pipeline o) (cursor_of_size (writes_out pipeline) o.batch_size) refl (λ x. refl) session ∙ ap (λ (w : Bool). come_to (cursor_of_size w o.batch_size)) none)
    (ap (λ (w : Bool). unfit_of (cursor_of_size w o.batch_size)) (sym none) ∙ fit_at (codes "cursor") (aggregated space pipeline o None) fit)

aggregate_allowed : (space : Space) (pipeline : List Fields) (o : AggregateOptions) (session : Option Session) → o ≡ askable_aggregate o → has_only pipeline_fields (fields_in (aggregated space pipeline o session)) ≡ true
aggregate_allowed space pipeline o session able =
    ap (λ (x : AggregateOptions). has_only pipeline_fields (fields_in (aggregated space pipeline x session))) able
    ∙ allowed_in pipeline_fields (aggregated space pipeline (askable_aggregate o)) refl (λ x. refl) session

aggregate_placed : (space : Space) (pipeline : List Fields) (o : AggregateOptions) (session : Option Session) → IsNamed space → space_at (codes "aggregate") (fields_in (aggregated space pipeline o session)) ≡ Some space
aggregate_placed space pipeline o session named =
    space_read (codes "aggregate") (fields_in (aggregated space pipeline o session)) space named refl (value_at (codes "$db") (aggregated space pipeline o) (text space.db) refl (λ x. refl) session)

pub aggregate_asks : (command : List ℕ) (space : Space) (pipeline : List Fields) (stages : List Stage) (o : AggregateOptions) (session : Option Session) → IsNamed space → o ≡ askable_aggregate o
    → first_unfit (aggregate_body (collection space) pipeline o None) ≡ None → pipeline_of pipeline ≡ Some stages
    → fields command ≡ fields_in (aggregate_body (collection space) pipeline o session) → asked command ≡ asks_query (aggregate_asked space stages o)
aggregate_asks command space pipeline stages o session named able fit staged is =
    let fs : Fields = fields_in (aggregated space pipeline o session) in
    as_asked command fs (asks_query (aggregate_asked space stages o)) is
    (ap (λ (a : Option Asked). or_asks a (pipeline_query fs)) (opens_none fs pipeline stages refl staged)
    ∙ query_read fs space pipeline stages o.batch_size (aggregate_allowed space pipeline o session able) (aggregate_placed space pipeline o session named) (stages_read fs pipeline refl) staged
    (aggregate_sized space pipeline stages o session fit staged))

-- ---- lists of collections

database_read : (fs : Fields) (db : List ℕ) → as_database db ≡ Some db → get (codes "$db") fs ≡ Some (string db) → database_at fs ≡ Some db
database_read fs db named at = rw at named

collections_read : (fs : Fields) (db : List ℕ) → has_only collections_fields fs ≡ true → database_at fs ≡ Some db → collections_query fs ≡ option_map asks_query (listing_of fs db)
unfolding collections_query
collections_read fs db only at = rw only (ap (λ (d : Option (List ℕ)). option_map asks_query (d >>= listing_of fs)) at)

-- a list by what a server reads of its filter and its size
abbrev listing : Source → Option (List Stage) → Option (Option ℕ) → Option Query
listing source f n = f >>= λ stages. n >>= λ size. Some (query_by source false stages size)

pub collections_ask : (command db : List ℕ) (name_only : Bool) (o : ListCollectionsOptions) (session : Option Session) → as_database db ≡ Some db → first_unfit (list_collections_body db name_only o None) ≡ None
    → fields command ≡ fields_in (list_collections_body db name_only o session) → asked command ≡ asked_query (collections_asked db o)
collections_ask command db name_only o session named fit is =
    let ls : Option Session → List Line = list_collections_body db name_only o in
    let fs : Fields = fields_in (ls session) in
    asks_as command fs (collections_asked db o) is
    (collections_read fs db (allowed_in collections_fields ls refl (λ x. refl) session) (database_read fs db named (value_at (codes "$db") ls (text db) refl (λ x. refl) session))
    ∙ ap₂ (λ a n. option_map asks_query (listing (of_database db) (stages_by selecting a) n))
    (value_at (codes "filter") ls (inner o.filter) refl (λ x. refl) session ∙ document_read o.filter)
    (list_size fs o.batch_size (value_at (codes "cursor") ls (cursor o.batch_size) refl (λ x. refl) session) (fit_at (codes "cursor") (ls None) fit)))

-- ---- lists of indexes

indexes_read : (fs : Fields) (space : Space) → has_only indexes_fields fs ≡ true → space_at (codes "listIndexes") fs ≡ Some space → indexes_query fs ≡ option_map asks_query (indexes_listed fs space)
unfolding indexes_query
indexes_read fs space only at = rw (only, at) refl

pub indexes_ask : (command : List ℕ) (space : Space) (o : ListIndexesOptions) (session : Option Session) → IsNamed space → first_unfit (list_indexes_body space o None) ≡ None
    → fields command ≡ fields_in (list_indexes_body space o session) → asked command ≡ asks_query (indexes_asked space o)
indexes_ask command space o session named fit is =
    let ls : Option Session → List Line = list_indexes_body space o in
    let fs : Fields = fields_in (ls session) in
    as_asked command fs (asks_query (indexes_asked space o)) is
    (indexes_read fs space (allowed_in indexes_fields ls refl (λ x. refl) session) (space_read (codes "listIndexes") fs space named refl (value_at (codes "$db") ls (text space.db) refl (λ x. refl) session))
    ∙ ap (λ (n : Option (Option ℕ)). option_map asks_query (listing (of_indexes space) (Some []) n))
    (list_size fs o.batch_size (value_at (codes "cursor") ls (cursor o.batch_size) refl (λ x. refl) session) (fit_at (codes "cursor") (ls None) fit)))
