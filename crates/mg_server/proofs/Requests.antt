-- What the store reads as a request is what the command asks for.
use Rattle.std.proofs.Common.{◌≡◌, ◌<◌, ℕ, zero, suc, ℤ, pos, negsuc, Bool, true, false, List, [], ◌∷◌, length, Option, Some, None, Result, Ok, Err, refl, sym, ap, ap₂, ◌∙◌, subst, inl, inr, ◌++◌, arith}
use Rattle.std.specs.Prelude.{if◌then◌else◌, nat_lt, nat_le, ◌&&◌, option_and_then, option_map, unwrap_or, is_some, codes}
use Rattle.std.specs.Ordering.{int_eq}
use Rattle.std.specs.Str.{bytes_eq}
use Rattle.std.proofs.lemmas.Bool.{cases_Bool, and_parts}
use Rattle.std.proofs.lemmas.Slice.Eq.{bytes_eq-Decides}
use Rattle.mg_bson.specs.Tree.{Tree, document, int32, int64, Fields, no_fields, field, Items, no_items, item}
use Rattle.mg_bson.specs.Raw.{fields}
use Rattle.mg_bson.specs.Reading.{◌>>=◌}
use Rattle.mg_bson.specs.Find.{get, as_string, as_boolean, as_document}
use Rattle.mg_link.specs.Namespace.{Space, Target, database, collection, cluster, has_dot, as_database, as_collection}
use Rattle.mg_server.specs.Filter.{Condition}
use Rattle.mg_server.specs.State.{Start, Index}
use Rattle.mg_link.specs.Numbers.{as_integer, count_of}
use Rattle.mg_server.specs.Commands.{Asked, asks_insert, asks_watch, asks_more, asks_kill, asks_other, asked_by, asked, text_of, database_at, space_at, documents_in, integers_in, flag_or, insert_of, filter_stages, start_of, whole_target, target_by, target_of, watch_from, watch_of, more_of, kill_of, or_asks, pipeline_query, has_only, optional_count, batch_size, pipeline_fields, stages_in, asks_create, asks_indexes, create_fields, create_of, indexing_fields, indexing_of, indexes_in, further_by, asks_query, find_fields, find_stages, find_query, find_of, query_by, pipeline_of, piped, stage_by, stage_of, watch_by, watch_stage_options, asks_update, asks_delete, update_fields, update_of, update_parts, update_by, delete_fields, delete_of, delete_parts, delete_by, one_at, filter_at, modification_of, many_by, begin_without_dollar, may_set, setting, asks_drop, drop_fields, drop_of, collections_fields, collections_query, listing_of, indexes_fields, indexes_query, indexes_listed, optional_size, stages_by, selecting, KeepsId}
use Rattle.mg_server.specs.Rules.{Request, insert, watch, more, kill, max_name, as_name, name_at, without_dot, named_space, as_id, id_of, array_at, insert_request, watch_options, behind_first, named_database, target_at, option_names, watch_with, watch_request, watch_space, size_of, some_size, more_request, ids_in, kill_request, bad_request, unknown_command, or_code, request_of, create_collection, create_indexes, create_request, indexes_request, find, find_request, query_space, pipeline_request, or_request, aggregate_request, update, delete, update_request, delete_request, drop_collection, drop_request, list_collections_request, list_indexes_request}
use Rattle.mg_server.specs.Query.{Query, Source, of_collection, Stage, of_database, of_indexes}
use Rattle.mg_server.specs.Write.{Modification, sets, puts}

-- ---- steps that gave something

pub then_some : {A B : Type 0} (o : Option A) (f : A → Option B) (y : B) → (o >>= f) ≡ Some y → (x : A) × (o ≡ Some x) × (f x ≡ Some y)
then_some (Some x) f y h = (x, refl, h)
then_some None f y h = absurd cc

pub and_then_some : {A B : Type 0} (f : A → Option B) (o : Option A) (y : B) → option_and_then f o ≡ Some y → (x : A) × (o ≡ Some x) × (f x ≡ Some y)
and_then_some f (Some x) y h = (x, refl, h)
and_then_some f None y h = absurd cc

pub when_some : {A : Type 0} (b : Bool) (o : Option A) (y : A) → (if b then o else None) ≡ Some y → (b ≡ true) × (o ≡ Some y)
when_some true o y h = (refl, h)
when_some false o y h = absurd cc

as_id-same : (a id : ℤ) → as_id a ≡ Some id → Some a ≡ Some id
as_id-same (pos n) id h = h
as_id-same (negsuc n) id h = absurd cc

code_some : (code : ℤ) (o : Option Request) (r : Request) → or_code code o ≡ Ok r → o ≡ Some r
code_some code (Some x) r h = cc
code_some code None r h = absurd cc

-- ---- names

-- a collection whose full name is read as it
pub record IsNamed (space : Space) : Type 0 where
  pub db_there : nat_lt 0 (length space.db) ≡ true
  pub coll_there : nat_lt 0 (length space.coll) ≡ true
  pub no_dot : has_dot space.db ≡ false

pub name_some : (k : List ℕ) (fs : Fields) (s : List ℕ) → name_at k fs ≡ Some s → (text_of k fs ≡ Some s) × (nat_lt 0 (length s) ≡ true)
name_some k fs s h =
    let t = and_then_some as_name (text_of k fs) s h in
    let w = when_some (nat_lt 0 (length t.0) && nat_le (length t.0) max_name) (Some t.0) s t.2 in
    let e : t.0 ≡ s = cc in
    (t.1 ∙ ap Some e, subst (λ (n : List ℕ). nat_lt 0 (length n) ≡ true) e (and_parts _ _ w.0).0)

undotted_some : (s db : List ℕ) → without_dot s ≡ Some db → (s ≡ db) × (has_dot db ≡ false)
undotted_some s db h =
    elim (cases_Bool (has_dot s)) [
      | inl dotted ↦ let e : None ≡ Some db = sym (ap (λ (b : Bool). if b then None else Some s) dotted) ∙ h in absurd cc
      | inr undotted ↦
          let e : Some s ≡ Some db = sym (ap (λ (b : Bool). if b then None else Some s) undotted) ∙ h in
          let f : s ≡ db = cc in
          (f, subst (λ (n : List ℕ). has_dot n ≡ false) f undotted)
    ]

pub as_collection-some : (s : List ℕ) → nat_lt 0 (length s) ≡ true → as_collection s ≡ Some s
as_collection-some [] h = absurd cc
as_collection-some (b ∷ bs) h = refl

as_database-some : (s : List ℕ) → nat_lt 0 (length s) ≡ true → has_dot s ≡ false → as_database s ≡ Some s
as_database-some [] h e = absurd cc
as_database-some (b ∷ bs) h e = ap (λ (d : Bool). if d then None else Some (b ∷ bs)) e

-- the collection that a command names
pub record NamesSpace (at : List ℕ) (fs : Fields) (space : Space) : Type 0 where
  pub here : space_at at fs ≡ Some space
  pub db_is : database_at fs ≡ Some space.db
  pub text_is : text_of at fs ≡ Some space.coll
  pub coll_is : as_collection space.coll ≡ Some space.coll
  pub named : IsNamed space

pub space_some : (at : List ℕ) (fs : Fields) (space : Space) → named_space at fs ≡ Some space → NamesSpace at fs space
unfolding named_space space_at
space_some at fs space h =
    let a = then_some (name_at (codes "$db") fs) (λ (name : List ℕ). without_dot name >>= λ db. name_at at fs >>= λ coll. Some (record { db = db; coll = coll })) space h in
    let b = then_some (without_dot a.0) (λ (db : List ℕ). name_at at fs >>= λ coll. Some (record { db = db; coll = coll })) space a.2 in
    let c = then_some (name_at at fs) (λ (coll : List ℕ). Some (record { db = b.0; coll = coll })) space b.2 in
    let made : record { db = b.0; coll = c.0 } ≡ space = cc in
    let name = name_some (codes "$db") fs a.0 a.1 in
    let db = undotted_some a.0 b.0 b.1 in
    let coll = name_some at fs c.0 c.1 in
    let there : nat_lt 0 (length b.0) ≡ true = subst (λ (n : List ℕ). nat_lt 0 (length n) ≡ true) db.0 name.1 in
    let db_at : option_and_then as_database (text_of (codes "$db") fs) ≡ Some b.0 = ap (option_and_then as_database) (name.0 ∙ ap Some db.0) ∙ as_database-some b.0 there db.1 in
    let coll_is = as_collection-some c.0 coll.1 in
    let coll_at : option_and_then as_collection (text_of at fs) ≡ Some c.0 = ap (option_and_then as_collection) coll.0 ∙ coll_is in
    subst (NamesSpace at fs) made (record {
      here = rw (db_at, coll_at) refl;
      db_is = db_at;
      text_is = coll.0;
      coll_is = coll_is;
      named = record { db_there = there; coll_there = coll.1; no_dot = db.1 };
    })

-- ---- what a request asks for

abbrev pub asks_of : Request → Asked
asks_of (insert space documents ordered) = asks_insert space documents ordered
asks_of (find q) = asks_query q
asks_of (watch w start resumes size) = asks_watch w start
asks_of (more id space size) = asks_more id space
asks_of (kill ids) = asks_kill ids
asks_of (create_collection space) = asks_create space
asks_of (create_indexes space indexes) = asks_indexes space indexes
asks_of (update space conditions m many) = asks_update space conditions m many
asks_of (delete space conditions many) = asks_delete space conditions many
asks_of (drop_collection space) = asks_drop space

-- what else is known of a request that was read
abbrev pub HasName : Request → Type 0
HasName (insert space documents ordered) = IsNamed space
HasName (find q) = IsNamed (query_space q.source)
HasName (watch w start resumes size) = IsNamed (watch_space w.target)
HasName (more id space size) = IsNamed space × (0 < size_of size)
HasName (kill ids) = Unit {0}
HasName (create_collection space) = IsNamed space
HasName (create_indexes space indexes) = IsNamed space
HasName (update space conditions m many) = IsNamed space × KeepsId m
HasName (delete space conditions many) = IsNamed space
HasName (drop_collection space) = IsNamed space

-- the command asks for the request
pub record Reads (o : Option Asked) (r : Request) : Type 0 where
  pub asks : o ≡ Some (asks_of r)
  pub named : HasName r

reads_as : (o : Option Asked) (q r : Request) → Some q ≡ Some r → o ≡ Some (asks_of q) → HasName q → Reads o r
reads_as o q r e asks named = let f : q ≡ r = cc in record { asks = asks ∙ ap (λ (x : Request). Some (asks_of x)) f; named = subst HasName f named }

abbrev insert_flagged : Fields → Space → List Fields → Option Request
insert_flagged fs space ds = flag_or true (get (codes "ordered") fs) >>= λ ordered. Some (insert space ds ordered)

abbrev insert_listed : Fields → Space → Items → Option Request
insert_listed fs space items = documents_in items >>= insert_flagged fs space

abbrev insert_into : Fields → Space → Option Request
insert_into fs space = array_at (codes "documents") fs >>= insert_listed fs space

insert_asks : (fs : Fields) (space : Space) (items : Items) (ds : List Fields) (ordered : Bool) → space_at (codes "insert") fs ≡ Some space → array_at (codes "documents") fs ≡ Some items
    → documents_in items ≡ Some ds → flag_or true (get (codes "ordered") fs) ≡ Some ordered → insert_of fs ≡ Some (asks_insert space ds ordered)
unfolding insert_of
insert_asks fs space items ds ordered a b c d = rw (a, b, c, d) refl

insert_reads : (fs : Fields) (r : Request) → insert_request fs ≡ Some r → Reads (insert_of fs) r
unfolding insert_request
insert_reads fs r h =
    let w = when_some (has_only (codes "insert" ∷ codes "documents" ∷ codes "ordered" ∷ []) fs) (named_space (codes "insert") fs >>= insert_into fs) r h in
    let a = then_some (named_space (codes "insert") fs) (insert_into fs) r w.1 in
    let b = then_some (array_at (codes "documents") fs) (insert_listed fs a.0) r a.2 in
    let c = then_some (documents_in b.0) (insert_flagged fs a.0) r b.2 in
    let d = then_some (flag_or true (get (codes "ordered") fs)) (λ (ordered : Bool). Some (insert a.0 c.0 ordered)) r c.2 in
    let space = space_some (codes "insert") fs a.0 a.1 in
    let asks = insert_asks fs a.0 b.0 c.0 d.0 space.here b.1 c.1 d.1 in
    reads_as (insert_of fs) (insert a.0 c.0 d.0) r d.2 asks space.named

-- a find is of the collection that it names
find_source : (fs : Fields) (space : Space) (q : Query) → find_query fs space ≡ Some q → q.source ≡ of_collection space
find_source fs space q h =
    let a = then_some (find_stages fs) (λ (stages : List Stage). flag_or false (get (codes "singleBatch") fs) >>= λ single. optional_count (get (codes "batchSize") fs) >>= λ size. Some (query_by (of_collection space) single stages size)) q h in
    let b = then_some (flag_or false (get (codes "singleBatch") fs)) (λ (single : Bool). optional_count (get (codes "batchSize") fs) >>= λ size. Some (query_by (of_collection space) single a.0 size)) q a.2 in
    let c = then_some (optional_count (get (codes "batchSize") fs)) (λ (size : Option ℕ). Some (query_by (of_collection space) b.0 a.0 size)) q b.2 in
    let e : query_by (of_collection space) b.0 a.0 c.0 ≡ q = cc in
    sym (ap (λ (x : Query). x.source) e)

find_asks : (fs : Fields) (space : Space) (q : Query) → has_only find_fields fs ≡ true → space_at (codes "find") fs ≡ Some space → find_query fs space ≡ Some q → find_of fs ≡ Some (asks_query q)
unfolding find_of
find_asks fs space q a b c = rw (a, b, c) refl

find_reads : (fs : Fields) (r : Request) → find_request fs ≡ Some r → Reads (find_of fs) r
unfolding find_request
find_reads fs r h =
    let w = when_some (has_only find_fields fs) (named_space (codes "find") fs >>= find_query fs >>= λ q. Some (find q)) r h in
    let a = then_some (named_space (codes "find") fs >>= find_query fs) (λ (q : Query). Some (find q)) r w.1 in
    let b = then_some (named_space (codes "find") fs) (find_query fs) a.0 a.1 in
    let space = space_some (codes "find") fs b.0 b.1 in
    let named : IsNamed (query_space a.0.source) = subst (λ (x : Source). IsNamed (query_space x)) (sym (find_source fs b.0 a.0 b.2)) space.named in
    reads_as (find_of fs) (find a.0) r a.2 (find_asks fs b.0 a.0 w.0 space.here b.2) named

-- ---- watches

-- the database that a command names
record NamesDatabase (fs : Fields) (db : List ℕ) : Type 0 where
  here : database_at fs ≡ Some db
  there : nat_lt 0 (length db) ≡ true
  no_dot : has_dot db ≡ false

database_some : (fs : Fields) (db : List ℕ) → named_database fs ≡ Some db → NamesDatabase fs db
database_some fs db h =
    let a = then_some (name_at (codes "$db") fs) without_dot db h in
    let name = name_some (codes "$db") fs a.0 a.1 in
    let whole = undotted_some a.0 db a.2 in
    let there : nat_lt 0 (length db) ≡ true = subst (λ (n : List ℕ). nat_lt 0 (length n) ≡ true) whole.0 name.1 in
    record {
      here = ap (option_and_then as_database) (name.0 ∙ ap Some whole.0) ∙ as_database-some db there whole.1;
      there = there;
      no_dot = whole.1;
    }

whole_named : (all : Bool) (db : List ℕ) (t : Target) → nat_lt 0 (length db) ≡ true → has_dot db ≡ false → whole_target all db ≡ Some t → IsNamed (watch_space t)
whole_named true db t there dot e =
    let a = when_some (bytes_eq db (codes "admin")) (Some cluster) t e in
    let f : cluster ≡ t = cc in
    subst (λ (x : Target). IsNamed (watch_space x)) f (record { db_there = refl; coll_there = refl; no_dot = refl })
whole_named false db t there dot e =
    let f : database db ≡ t = cc in
    subst (λ (x : Target). IsNamed (watch_space x)) f (record { db_there = there; coll_there = refl; no_dot = dot })

int_no_text : (found : Option Tree) (n : ℤ) → option_and_then as_integer found ≡ Some n → option_and_then as_string found ≡ None
int_no_text None n h = refl
int_no_text (Some (int32 z)) n h = refl
int_no_text (Some (int64 z)) n h = refl
int_no_text (Some t) n h = absurd cc

-- what a watch is aimed at, and that its cursor has a name
record Aims (all : Bool) (db : List ℕ) (text : Option (List ℕ)) (number : Option ℤ) (t : Target) : Type 0 where
  here : target_by all db text number ≡ Some t
  named : IsNamed (watch_space t)

aims_by : (all : Bool) (fs : Fields) (db : List ℕ) (t : Target) (name : Option (List ℕ)) (number : Option ℤ) → nat_lt 0 (length db) ≡ true → has_dot db ≡ false → name_at (codes "aggregate") fs ≡ name → option_and_then as_integer (get (codes "aggregate") fs) ≡ number
    → target_by all db name number ≡ Some t → Aims all db (text_of (codes "aggregate") fs) number t
aims_by all fs db t (Some name) number there dot is whole e =
    let text = name_some (codes "aggregate") fs name is in
    let coll = as_collection-some name text.1 in
    let f : Some (collection (record { db = db; coll = name })) ≡ Some t = sym (ap (option_map (λ (coll : List ℕ). collection (record { db = db; coll = coll }))) coll) ∙ e in
    let g : collection (record { db = db; coll = name }) ≡ t = cc in
    record {
      here = ap (λ (o : Option (List ℕ)). target_by all db o number) text.0 ∙ e;
      named = subst (λ (x : Target). IsNamed (watch_space x)) g (record { db_there = there; coll_there = text.1; no_dot = dot });
    }
aims_by all fs db t None None there dot is whole e = absurd cc
aims_by all fs db t None (Some n) there dot is whole e =
    let a = when_some (int_eq n (pos 1)) (whole_target all db) t e in
    record {
      here = ap (λ (o : Option (List ℕ)). target_by all db o (Some n)) (int_no_text (get (codes "aggregate") fs) n whole) ∙ e;
      named = whole_named all db t there dot a.1;
    }

cluster_is : (found : Option Tree) (all : Bool) → flag_or false found ≡ Some all → unwrap_or (option_and_then as_boolean found) false ≡ all
cluster_is None all h = cc
cluster_is (Some t) all h = ap (λ (o : Option Bool). unwrap_or o false) h

record AimsAt (options fs : Fields) (t : Target) : Type 0 where
  here : target_of options fs ≡ Some t
  named : IsNamed (watch_space t)

target_some : (options fs : Fields) (all : Bool) (t : Target) → flag_or false (get (codes "allChangesForCluster") options) ≡ Some all → target_at fs all ≡ Some t → AimsAt options fs t
target_some options fs all t flag h =
    let number : Option ℤ = option_and_then as_integer (get (codes "aggregate") fs) in
    let a = then_some (named_database fs) (λ (db : List ℕ). target_by all db (name_at (codes "aggregate") fs) number) t h in
    let db = database_some fs a.0 a.1 in
    let aims = aims_by all fs a.0 t (name_at (codes "aggregate") fs) number db.there db.no_dot refl refl a.2 in
    record {
      here = ap₂ (λ (b : Bool) (o : Option (List ℕ)). option_and_then (λ db. target_by b db (text_of (codes "aggregate") fs) number) o) (cluster_is (get (codes "allChangesForCluster") options) all flag) db.here ∙ aims.here;
      named = aims.named;
    }

stages_read : (fs : Fields) (stages : List Fields) (options : Fields) (filter : List Condition) (start : Start) (t : Target) → watch_options stages ≡ Some options → filter_stages (behind_first stages) ≡ Some filter → start_of options ≡ Some start
    → target_of options fs ≡ Some t → watch_from fs stages ≡ Some (asks_watch (record { target = t; filter = filter }) start)
stages_read fs [] options filter start t o f s at = absurd cc
stages_read fs (stage ∷ stages) options filter start t o f s at = rw (o, f, s, at) refl

abbrev watch_sized : Fields → Fields → List Condition → Target → Start → Option Request
watch_sized fs options filter target start = batch_size fs >>= λ size. Some (watch (record { target = target; filter = filter }) start (is_some (get (codes "resumeAfter") options)) size)

abbrev watch_started : Fields → Fields → List Condition → Target → Option Request
watch_started fs options filter target = start_of options >>= watch_sized fs options filter target

abbrev watch_aimed : Fields → Fields → List Condition → Bool → Option Request
watch_aimed fs options filter all = target_at fs all >>= watch_started fs options filter

abbrev watch_filtered : Fields → List Fields → Fields → Option Request
watch_filtered fs stages options = filter_stages (behind_first stages) >>= watch_with fs options

abbrev watch_staged : Fields → List Fields → Option Request
watch_staged fs stages = watch_options stages >>= watch_filtered fs stages

watch_asks : (fs : Fields) (stages : List Fields) (asks : Asked) → stages_in fs ≡ Some stages → watch_from fs stages ≡ Some asks → watch_of fs ≡ Some asks
unfolding watch_of
watch_asks fs stages asks a b = ap (option_and_then (watch_from fs)) a ∙ b

watch_reads : (fs : Fields) (r : Request) → watch_request fs ≡ Some r → Reads (watch_of fs) r
unfolding watch_request
watch_reads fs r h =
    let w = when_some (has_only pipeline_fields fs) (stages_in fs >>= watch_staged fs) r h in
    let a = then_some (stages_in fs) (watch_staged fs) r w.1 in
    let b = then_some (watch_options a.0) (watch_filtered fs a.0) r a.2 in
    let c = then_some (filter_stages (behind_first a.0)) (watch_with fs b.0) r b.2 in
    let d = when_some (has_only option_names b.0) (flag_or false (get (codes "allChangesForCluster") b.0) >>= watch_aimed fs b.0 c.0) r c.2 in
    let e = then_some (flag_or false (get (codes "allChangesForCluster") b.0)) (watch_aimed fs b.0 c.0) r d.1 in
    let f = then_some (target_at fs e.0) (watch_started fs b.0 c.0) r e.2 in
    let g = then_some (start_of b.0) (watch_sized fs b.0 c.0 f.0) r f.2 in
    let k = then_some (batch_size fs) (λ (size : Option ℕ). Some (watch (record { target = f.0; filter = c.0 }) g.0 (is_some (get (codes "resumeAfter") b.0)) size)) r g.2 in
    let aims = target_some b.0 fs e.0 f.0 e.1 f.1 in
    let stages = stages_read fs a.0 b.0 c.0 g.0 f.0 b.1 c.1 g.1 aims.here in
    let asks = watch_asks fs a.0 (asks_watch (record { target = f.0; filter = c.0 }) g.0) a.1 stages in
    reads_as (watch_of fs) (watch (record { target = f.0; filter = c.0 }) g.0 (is_some (get (codes "resumeAfter") b.0)) k.0) r k.2 asks aims.named

id_some : (id : ℤ) (t : Tree) → id_of t ≡ Some id → as_integer t ≡ Some id
id_some id t h =
    let a = and_then_some as_id (as_integer t) id h in
    a.1 ∙ as_id-same a.0 id a.2

abbrev more_sized : Fields → ℤ → Space → Option Request
more_sized fs id space = optional_count (get (codes "batchSize") fs) >>= λ size. Some (more id space (some_size size))

abbrev more_on : Fields → ℤ → Option Request
more_on fs id = named_space (codes "collection") fs >>= more_sized fs id

-- a getMore asks for a document or more
some_sized : (size : Option ℕ) → 0 < size_of (some_size size)
some_sized None = let none : size_of (some_size None) ≡ 101 = refl in omega (arith, none)
some_sized (Some zero) = let none : size_of (some_size (Some zero)) ≡ 101 = refl in omega (arith, none)
some_sized (Some (suc n)) = let given : size_of (some_size (Some (suc n))) ≡ suc n = refl in omega (arith, given)

more_reads : (fs : Fields) (r : Request) → more_request fs ≡ Some r → Reads (more_of fs) r
unfolding more_request more_of
more_reads fs r h =
    let w = when_some (has_only (codes "getMore" ∷ codes "collection" ∷ codes "batchSize" ∷ []) fs) (option_and_then id_of (get (codes "getMore") fs) >>= more_on fs) r h in
    let a = then_some (option_and_then id_of (get (codes "getMore") fs)) (more_on fs) r w.1 in
    let t = and_then_some id_of (get (codes "getMore") fs) a.0 a.1 in
    let b = then_some (named_space (codes "collection") fs) (more_sized fs a.0) r a.2 in
    let c = then_some (optional_count (get (codes "batchSize") fs)) (λ (size : Option ℕ). Some (more a.0 b.0 (some_size size))) r b.2 in
    let space = space_some (codes "collection") fs b.0 b.1 in
    let id : option_and_then as_integer (get (codes "getMore") fs) ≡ Some a.0 = ap (option_and_then as_integer) t.1 ∙ id_some a.0 t.0 t.2 in
    let asks : more_of fs ≡ Some (asks_more a.0 b.0) = rw (id, space.here) refl in
    reads_as (more_of fs) (more a.0 b.0 (some_size c.0)) r c.2 asks (space.named, some_sized c.0)

ids_read : (items : Items) (ids : List ℤ) → ids_in items ≡ Some ids → integers_in items ≡ Some ids
ids_read no_items ids h = h
ids_read (item t ts) ids h =
    let a = then_some (id_of t) (λ (id : ℤ). ids_in ts >>= λ ids. Some (id ∷ ids)) ids h in
    let b = then_some (ids_in ts) (λ (more : List ℤ). Some (a.0 ∷ more)) ids a.2 in
    let z = id_some a.0 t a.1 in
    let zs = ids_read ts b.0 b.1 in
    rw (z, zs) b.2

abbrev kill_listed : Items → Option Request
kill_listed items = ids_in items >>= λ ids. Some (kill ids)

kill_asks : (fs : Fields) (items : Items) (ids : List ℤ) → array_at (codes "cursors") fs ≡ Some items → integers_in items ≡ Some ids → kill_of fs ≡ Some (asks_kill ids)
unfolding kill_of
kill_asks fs items ids a b = rw (a, b) refl

kill_reads : (fs : Fields) (r : Request) → kill_request fs ≡ Some r → Reads (kill_of fs) r
unfolding kill_request
kill_reads fs r h =
    let w = when_some (has_only (codes "killCursors" ∷ codes "cursors" ∷ []) fs) (named_space (codes "killCursors") fs >>= λ space. array_at (codes "cursors") fs >>= kill_listed) r h in
    let a = then_some (named_space (codes "killCursors") fs) (λ (space : Space). array_at (codes "cursors") fs >>= kill_listed) r w.1 in
    let b = then_some (array_at (codes "cursors") fs) kill_listed r a.2 in
    let c = then_some (ids_in b.0) (λ (ids : List ℤ). Some (kill ids)) r b.2 in
    let ids = ids_read b.0 c.0 c.1 in
    let asks = kill_asks fs b.0 c.0 b.1 ids in
    reads_as (kill_of fs) (kill c.0) r c.2 asks tt

create_asks : (fs : Fields) (space : Space) → has_only create_fields fs ≡ true → space_at (codes "create") fs ≡ Some space → create_of fs ≡ Some (asks_create space)
unfolding create_of
create_asks fs space a b = rw (a, b) refl

create_reads : (fs : Fields) (r : Request) → create_request fs ≡ Some r → Reads (create_of fs) r
unfolding create_request
create_reads fs r h =
    let w = when_some (has_only create_fields fs) (named_space (codes "create") fs >>= λ space. Some (create_collection space)) r h in
    let a = then_some (named_space (codes "create") fs) (λ (space : Space). Some (create_collection space)) r w.1 in
    let space = space_some (codes "create") fs a.0 a.1 in
    reads_as (create_of fs) (create_collection a.0) r a.2 (create_asks fs a.0 w.0 space.here) space.named

indexes_ask : (fs : Fields) (space : Space) (indexes : List Index) → has_only indexing_fields fs ≡ true → space_at (codes "createIndexes") fs ≡ Some space → indexes_in fs ≡ Some indexes → indexing_of fs ≡ Some (asks_indexes space indexes)
unfolding indexing_of
indexes_ask fs space indexes a b c = rw (a, b, c) refl

indexes_read : (fs : Fields) (r : Request) → indexes_request fs ≡ Some r → Reads (indexing_of fs) r
unfolding indexes_request
indexes_read fs r h =
    let w = when_some (has_only indexing_fields fs) (named_space (codes "createIndexes") fs >>= λ space. indexes_in fs >>= λ indexes. Some (create_indexes space indexes)) r h in
    let a = then_some (named_space (codes "createIndexes") fs) (λ (space : Space). indexes_in fs >>= λ indexes. Some (create_indexes space indexes)) r w.1 in
    let b = then_some (indexes_in fs) (λ (indexes : List Index). Some (create_indexes a.0 indexes)) r a.2 in
    let space = space_some (codes "createIndexes") fs a.0 a.1 in
    reads_as (indexing_of fs) (create_indexes a.0 b.0) r b.2 (indexes_ask fs a.0 b.0 w.0 space.here b.1) space.named

-- ---- updates and deletes

set_keeps : (t : Tree) (m : Modification) → setting t ≡ Some m → KeepsId m
set_keeps (document fs) m h =
    let w = when_some (may_set fs) (Some (sets fs)) m h in
    let e : sets fs ≡ m = cc in
    subst KeepsId e w.0
set_keeps t m h = absurd cc

put_keeps : (d : Fields) (b : Bool) (m : Modification) → (if b then Some (puts d) else None) ≡ Some m → KeepsId m
put_keeps d true m h = let e : puts d ≡ m = cc in subst KeepsId e tt
put_keeps d false m h = absurd cc

-- no update that is read sets an `_id`
modification_keeps : (d : Fields) (m : Modification) → modification_of d ≡ Some m → KeepsId m
modification_keeps no_fields m h = put_keeps no_fields true m h
modification_keeps (field k t no_fields) m h =
    elim (cases_Bool (bytes_eq k (codes "$set"))) [
      | inl same ↦ set_keeps t m (sym (ap (λ (b : Bool). if b then setting t else (if begin_without_dollar (field k t no_fields) then Some (puts (field k t no_fields)) else None)) same) ∙ h)
      | inr differs ↦
          put_keeps (field k t no_fields) (begin_without_dollar (field k t no_fields)) m
          (sym (ap (λ (b : Bool). if b then setting t else (if begin_without_dollar (field k t no_fields) then Some (puts (field k t no_fields)) else None)) differs) ∙ h)
    ]
modification_keeps (field k t (field l u fs)) m h =
    elim (cases_Bool (bytes_eq k (codes "$set"))) [
      | inl same ↦
          let e : None ≡ Some m = sym (ap (λ (b : Bool). if b then None else (if begin_without_dollar (field k t (field l u fs)) then Some (puts (field k t (field l u fs))) else None)) same) ∙ h in
          absurd cc
      | inr differs ↦
          put_keeps (field k t (field l u fs)) (begin_without_dollar (field k t (field l u fs))) m
          (sym (ap (λ (b : Bool). if b then None else (if begin_without_dollar (field k t (field l u fs)) then Some (puts (field k t (field l u fs))) else None)) differs) ∙ h)
    ]

-- the parts of an update
record UpdateParts (u : Fields) : Type 0 where
  conditions : List Condition
  modification : Modification
  many : Bool
  keeps : KeepsId modification
  asks : (space : Space) → update_by (asks_update space) u ≡ Some (asks_update space conditions modification many)

update_asks : (space : Space) (u : Fields) (conditions : List Condition) (d : Fields) (m : Modification) (many : Bool) → has_only update_parts u ≡ true → filter_at (codes "q") u ≡ Some conditions
    → option_and_then as_document (get (codes "u") u) ≡ Some d → modification_of d ≡ Some m → flag_or false (get (codes "multi") u) ≡ Some many → update_by (asks_update space) u ≡ Some (asks_update space conditions m many)
update_asks space u conditions d m many w a b c e = rw (w, a, b, c, e) refl

-- what was made of an update was made of its parts
update_parted : {A : Type 0} (make : List Condition → Modification → Bool → A) (u : Fields) (x : A) → update_by make u ≡ Some x → (p : UpdateParts u) × (Some (make p.conditions p.modification p.many) ≡ Some x)
update_parted {A = A} make u x h =
    let w = when_some (has_only update_parts u) (filter_at (codes "q") u >>= λ conditions. option_and_then as_document (get (codes "u") u) >>= λ d. modification_of d >>= λ m. flag_or false (get (codes "multi") u) >>= λ many. Some (make conditions m many)) x h in
    let a = then_some (filter_at (codes "q") u) (λ (conditions : List Condition). option_and_then as_document (get (codes "u") u) >>= λ d. modification_of d >>= λ m. flag_or false (get (codes "multi") u) >>= λ many. Some (make conditions m many)) x w.1 in
    let b = then_some (option_and_then as_document (get (codes "u") u)) (λ (d : Fields). modification_of d >>= λ m. flag_or false (get (codes "multi") u) >>= λ many. Some (make a.0 m many)) x a.2 in
    let c = then_some (modification_of b.0) (λ (m : Modification). flag_or false (get (codes "multi") u) >>= λ many. Some (make a.0 m many)) x b.2 in
    let d = then_some (flag_or false (get (codes "multi") u)) (λ (many : Bool). Some (make a.0 c.0 many)) x c.2 in
    (record { conditions = a.0; modification = c.0; many = d.0; keeps = modification_keeps b.0 c.0 c.1; asks = λ space. update_asks space u a.0 b.0 c.0 d.0 w.0 a.1 b.1 c.1 d.1 }, d.2)

-- the parts of a delete
record DeleteParts (d : Fields) : Type 0 where
  conditions : List Condition
  many : Bool
  asks : (space : Space) → delete_by (asks_delete space) d ≡ Some (asks_delete space conditions many)

delete_asks : (space : Space) (d : Fields) (conditions : List Condition) (many : Bool) → has_only delete_parts d ≡ true → filter_at (codes "q") d ≡ Some conditions → (option_and_then count_of (get (codes "limit") d) >>= many_by) ≡ Some many
    → delete_by (asks_delete space) d ≡ Some (asks_delete space conditions many)
delete_asks space d conditions many w a b = rw (w, a, b) refl

delete_parted : {A : Type 0} (make : List Condition → Bool → A) (d : Fields) (x : A) → delete_by make d ≡ Some x → (p : DeleteParts d) × (Some (make p.conditions p.many) ≡ Some x)
delete_parted {A = A} make d x h =
    let w = when_some (has_only delete_parts d) (filter_at (codes "q") d >>= λ conditions. option_and_then count_of (get (codes "limit") d) >>= many_by >>= λ many. Some (make conditions many)) x h in
    let a = then_some (filter_at (codes "q") d) (λ (conditions : List Condition). option_and_then count_of (get (codes "limit") d) >>= many_by >>= λ many. Some (make conditions many)) x w.1 in
    let b = then_some (option_and_then count_of (get (codes "limit") d) >>= many_by) (λ (many : Bool). Some (make a.0 many)) x a.2 in
    (record { conditions = a.0; many = b.0; asks = λ space. delete_asks space d a.0 b.0 w.0 a.1 b.1 }, b.2)

update_asked : (fs : Fields) (space : Space) (u : Fields) (asks : Asked) → has_only update_fields fs ≡ true → space_at (codes "update") fs ≡ Some space → one_at (codes "updates") fs ≡ Some u → update_by (asks_update space) u ≡ Some asks → update_of fs ≡ Some asks
unfolding update_of
update_asked fs space u asks a b c d = rw (a, b, c) d

update_reads : (fs : Fields) (r : Request) → update_request fs ≡ Some r → Reads (update_of fs) r
unfolding update_request
update_reads fs r h =
    let w = when_some (has_only update_fields fs) (named_space (codes "update") fs >>= λ space. one_at (codes "updates") fs >>= update_by (update space)) r h in
    let a = then_some (named_space (codes "update") fs) (λ (space : Space). one_at (codes "updates") fs >>= update_by (update space)) r w.1 in
    let b = then_some (one_at (codes "updates") fs) (update_by (update a.0)) r a.2 in
    let p = update_parted (update a.0) b.0 r b.2 in
    let space = space_some (codes "update") fs a.0 a.1 in
    let q : Request = update a.0 p.0.conditions p.0.modification p.0.many in
    reads_as (update_of fs) q r p.1 (update_asked fs a.0 b.0 (asks_of q) w.0 space.here b.1 (p.0.asks a.0)) (space.named, p.0.keeps)

delete_asked : (fs : Fields) (space : Space) (d : Fields) (asks : Asked) → has_only delete_fields fs ≡ true → space_at (codes "delete") fs ≡ Some space → one_at (codes "deletes") fs ≡ Some d → delete_by (asks_delete space) d ≡ Some asks → delete_of fs ≡ Some asks
unfolding delete_of
delete_asked fs space d asks a b c e = rw (a, b, c) e

delete_reads : (fs : Fields) (r : Request) → delete_request fs ≡ Some r → Reads (delete_of fs) r
unfolding delete_request
delete_reads fs r h =
    let w = when_some (has_only delete_fields fs) (named_space (codes "delete") fs >>= λ space. one_at (codes "deletes") fs >>= delete_by (delete space)) r h in
    let a = then_some (named_space (codes "delete") fs) (λ (space : Space). one_at (codes "deletes") fs >>= delete_by (delete space)) r w.1 in
    let b = then_some (one_at (codes "deletes") fs) (delete_by (delete a.0)) r a.2 in
    let p = delete_parted (delete a.0) b.0 r b.2 in
    let space = space_some (codes "delete") fs a.0 a.1 in
    let q : Request = delete a.0 p.0.conditions p.0.many in
    reads_as (delete_of fs) q r p.1 (delete_asked fs a.0 b.0 (asks_of q) w.0 space.here b.1 (p.0.asks a.0)) space.named

drop_asks : (fs : Fields) (space : Space) → has_only drop_fields fs ≡ true → space_at (codes "drop") fs ≡ Some space → drop_of fs ≡ Some (asks_drop space)
unfolding drop_of
drop_asks fs space a b = rw (a, b) refl

drop_reads : (fs : Fields) (r : Request) → drop_request fs ≡ Some r → Reads (drop_of fs) r
unfolding drop_request
drop_reads fs r h =
    let w = when_some (has_only drop_fields fs) (named_space (codes "drop") fs >>= λ space. Some (drop_collection space)) r h in
    let a = then_some (named_space (codes "drop") fs) (λ (space : Space). Some (drop_collection space)) r w.1 in
    let space = space_some (codes "drop") fs a.0 a.1 in
    reads_as (drop_of fs) (drop_collection a.0) r a.2 (drop_asks fs a.0 w.0 space.here) space.named

-- ---- lists

-- a list is of the collections of the database that it names
listing_source : (fs : Fields) (db : List ℕ) (q : Query) → listing_of fs db ≡ Some q → q.source ≡ of_database db
listing_source fs db q h =
    let a = then_some (stages_by selecting (get (codes "filter") fs)) (λ (stages : List Stage). optional_size fs >>= λ size. Some (query_by (of_database db) false stages size)) q h in
    let b = then_some (optional_size fs) (λ (size : Option ℕ). Some (query_by (of_database db) false a.0 size)) q a.2 in
    let e : query_by (of_database db) false a.0 b.0 ≡ q = cc in
    sym (ap (λ (x : Query). x.source) e)

listing_asks : (fs : Fields) (db : List ℕ) (q : Query) → has_only collections_fields fs ≡ true → database_at fs ≡ Some db → listing_of fs db ≡ Some q → collections_query fs ≡ Some (asks_query q)
unfolding collections_query
listing_asks fs db q a b c = rw (a, b, c) refl

listing_reads : (fs : Fields) (r : Request) → list_collections_request fs ≡ Some r → Reads (collections_query fs) r
unfolding list_collections_request
listing_reads fs r h =
    let w = when_some (has_only collections_fields fs) (named_database fs >>= listing_of fs >>= λ q. Some (find q)) r h in
    let a = then_some (named_database fs >>= listing_of fs) (λ (q : Query). Some (find q)) r w.1 in
    let b = then_some (named_database fs) (listing_of fs) a.0 a.1 in
    let db = database_some fs b.0 b.1 in
    let named : IsNamed (query_space a.0.source) = subst (λ (x : Source). IsNamed (query_space x)) (sym (listing_source fs b.0 a.0 b.2)) (record { db_there = db.there; coll_there = refl; no_dot = db.no_dot }) in
    reads_as (collections_query fs) (find a.0) r a.2 (listing_asks fs b.0 a.0 w.0 db.here b.2) named

-- a list is of the indexes of the collection that it names
indexes_source : (fs : Fields) (space : Space) (q : Query) → indexes_listed fs space ≡ Some q → q.source ≡ of_indexes space
indexes_source fs space q h =
    let a = then_some (optional_size fs) (λ (size : Option ℕ). Some (query_by (of_indexes space) false [] size)) q h in
    let e : query_by (of_indexes space) false [] a.0 ≡ q = cc in
    sym (ap (λ (x : Query). x.source) e)

listed_asks : (fs : Fields) (space : Space) (q : Query) → has_only indexes_fields fs ≡ true → space_at (codes "listIndexes") fs ≡ Some space → indexes_listed fs space ≡ Some q → indexes_query fs ≡ Some (asks_query q)
unfolding indexes_query
listed_asks fs space q a b c = rw (a, b, c) refl

listed_reads : (fs : Fields) (r : Request) → list_indexes_request fs ≡ Some r → Reads (indexes_query fs) r
unfolding list_indexes_request
listed_reads fs r h =
    let w = when_some (has_only indexes_fields fs) (named_space (codes "listIndexes") fs >>= indexes_listed fs >>= λ q. Some (find q)) r h in
    let a = then_some (named_space (codes "listIndexes") fs >>= indexes_listed fs) (λ (q : Query). Some (find q)) r w.1 in
    let b = then_some (named_space (codes "listIndexes") fs) (indexes_listed fs) a.0 a.1 in
    let space = space_some (codes "listIndexes") fs b.0 b.1 in
    let named : IsNamed (query_space a.0.source) = subst (λ (x : Source). IsNamed (query_space x)) (sym (indexes_source fs b.0 a.0 b.2)) space.named in
    reads_as (indexes_query fs) (find a.0) r a.2 (listed_asks fs b.0 a.0 w.0 space.here b.2) named

-- ---- aggregates

-- a stage of a query opens no watch
stage_by_none : (k : List ℕ) (t : Tree) (a : List Stage) → stage_by k t ≡ Some a → bytes_eq k (codes "$changeStream") ≡ true → ⊥
stage_by_none k t a h same =
    let e : stage_by (codes "$changeStream") t ≡ Some a = subst (λ (n : List ℕ). stage_by n t ≡ Some a) ((bytes_eq-Decides k (codes "$changeStream")).0 same) h in
    none_some a e
  where
    none_some : (a : List Stage) → ◌≡◌ {A = Option (List Stage)} None (Some a) → ⊥
    none_some a e = absurd cc

no_watch_stage : (stage : Fields) (a : List Stage) → stage_of stage ≡ Some a → watch_stage_options stage ≡ None
no_watch_stage no_fields a h = refl
no_watch_stage (field k t no_fields) a h =
    elim (cases_Bool (bytes_eq k (codes "$changeStream"))) [
      | inl same ↦ absurd (stage_by_none k t a h same)
      | inr differs ↦ ap (λ (b : Bool). if b then as_document t else None) differs
    ]
no_watch_stage (field k t (field l u fs)) a h = refl

no_watch : (fs : Fields) (stages : List Fields) (a : List Stage) → pipeline_of stages ≡ Some a → watch_from fs stages ≡ None
no_watch fs [] a h = refl
no_watch fs (stage ∷ stages) a h =
    let first = then_some (stage_of stage) (λ (x : List Stage). pipeline_of stages >>= λ y. Some (x ++ y)) a h in
    ap (option_and_then (λ (options : Fields). watch_by fs options stages)) (no_watch_stage stage first.0 first.1)

watch_none : (fs : Fields) (stages : List Fields) → stages_in fs ≡ Some stages → watch_from fs stages ≡ None → watch_of fs ≡ None
unfolding watch_of
watch_none fs stages a b = ap (option_and_then (watch_from fs)) a ∙ b

abbrev piped_sized : Fields → Space → List Stage → Option Query
piped_sized fs space stages = batch_size fs >>= λ size. Some (query_by (of_collection space) false stages size)

pipeline_asks : (fs : Fields) (space : Space) (q : Query) → has_only pipeline_fields fs ≡ true → space_at (codes "aggregate") fs ≡ Some space → piped fs (stages_in fs) space ≡ Some q → pipeline_query fs ≡ Some (asks_query q)
unfolding pipeline_query
pipeline_asks fs space q a b c = rw (a, b, c) refl

reads_second : (o p : Option Asked) (r : Request) → o ≡ None → Reads p r → Reads (or_asks o p) r
reads_second o p r none h = record { asks = ap (λ (x : Option Asked). or_asks x p) none ∙ h.asks; named = h.named }

pipeline_reads : (fs : Fields) (r : Request) → pipeline_request fs ≡ Some r → Reads (or_asks (watch_of fs) (pipeline_query fs)) r
unfolding pipeline_request
pipeline_reads fs r h =
    let w = when_some (has_only pipeline_fields fs) (named_space (codes "aggregate") fs >>= piped fs (stages_in fs) >>= λ q. Some (find q)) r h in
    let a = then_some (named_space (codes "aggregate") fs >>= piped fs (stages_in fs)) (λ (q : Query). Some (find q)) r w.1 in
    let b = then_some (named_space (codes "aggregate") fs) (piped fs (stages_in fs)) a.0 a.1 in
    let c = then_some (stages_in fs >>= pipeline_of) (piped_sized fs b.0) a.0 b.2 in
    let d = then_some (stages_in fs) pipeline_of c.0 c.1 in
    let e = then_some (batch_size fs) (λ (size : Option ℕ). Some (query_by (of_collection b.0) false c.0 size)) a.0 c.2 in
    let made : query_by (of_collection b.0) false c.0 e.0 ≡ a.0 = cc in
    let space = space_some (codes "aggregate") fs b.0 b.1 in
    let named : IsNamed (query_space a.0.source) = subst (λ (x : Query). IsNamed (query_space x.source)) made space.named in
    reads_second (watch_of fs) (pipeline_query fs) r (watch_none fs d.0 d.1 (no_watch fs d.0 c.0 d.2))
    (reads_as (pipeline_query fs) (find a.0) r a.2 (pipeline_asks fs b.0 a.0 w.0 space.here b.2) named)

-- ---- any request

by_name : (b : Bool) (o : Option Request) (rest : Result Request ℤ) (u v : Option Asked) (r : Request) → (o ≡ Some r → Reads u r) → (rest ≡ Ok r → Reads v r) → (if b then or_code bad_request o else rest) ≡ Ok r → Reads (if b then u else v) r
by_name true o rest u v r f g h = f (code_some bad_request o r h)
by_name false o rest u v r f g h = g h

-- a command of the further ones is read by its name
by_further : (b : Bool) (o : Option Request) (rest : Result Request ℤ) (u v : Option Asked) (r : Request) → (b ≡ true → v ≡ u) → (o ≡ Some r → Reads u r) → (rest ≡ Ok r → Reads v r) → (if b then or_code bad_request o else rest) ≡ Ok r → Reads v r
by_further true o rest u v r same f g h = subst (λ (x : Option Asked). Reads x r) (sym (same refl)) (f (code_some bad_request o r h))
by_further false o rest u v r same f g h = g h

finds : (k : List ℕ) (fs : Fields) → bytes_eq k (codes "find") ≡ true → further_by k fs ≡ find_of fs
finds k fs same = ap (λ (n : List ℕ). further_by n fs) ((bytes_eq-Decides k (codes "find")).0 same)

creates : (k : List ℕ) (fs : Fields) → bytes_eq k (codes "create") ≡ true → further_by k fs ≡ create_of fs
creates k fs same = ap (λ (n : List ℕ). further_by n fs) ((bytes_eq-Decides k (codes "create")).0 same)

indexes : (k : List ℕ) (fs : Fields) → bytes_eq k (codes "createIndexes") ≡ true → further_by k fs ≡ indexing_of fs
indexes k fs same = ap (λ (n : List ℕ). further_by n fs) ((bytes_eq-Decides k (codes "createIndexes")).0 same)

updates : (k : List ℕ) (fs : Fields) → bytes_eq k (codes "update") ≡ true → further_by k fs ≡ update_of fs
updates k fs same = ap (λ (n : List ℕ). further_by n fs) ((bytes_eq-Decides k (codes "update")).0 same)

deletes : (k : List ℕ) (fs : Fields) → bytes_eq k (codes "delete") ≡ true → further_by k fs ≡ delete_of fs
deletes k fs same = ap (λ (n : List ℕ). further_by n fs) ((bytes_eq-Decides k (codes "delete")).0 same)

drops : (k : List ℕ) (fs : Fields) → bytes_eq k (codes "drop") ≡ true → further_by k fs ≡ drop_of fs
drops k fs same = ap (λ (n : List ℕ). further_by n fs) ((bytes_eq-Decides k (codes "drop")).0 same)

lists : (k : List ℕ) (fs : Fields) → bytes_eq k (codes "listCollections") ≡ true → further_by k fs ≡ collections_query fs
lists k fs same = ap (λ (n : List ℕ). further_by n fs) ((bytes_eq-Decides k (codes "listCollections")).0 same)

lists_indexes : (k : List ℕ) (fs : Fields) → bytes_eq k (codes "listIndexes") ≡ true → further_by k fs ≡ indexes_query fs
lists_indexes k fs same = ap (λ (n : List ℕ). further_by n fs) ((bytes_eq-Decides k (codes "listIndexes")).0 same)

reads_first : (o p : Option Asked) (r : Request) → Reads o r → Reads (or_asks o p) r
reads_first o p r h = record { asks = ap (λ (x : Option Asked). or_asks x p) h.asks; named = h.named }

aggregate_by : (o p : Option Request) (fs : Fields) (r : Request) → (o ≡ Some r → Reads (watch_of fs) r) → (p ≡ Some r → Reads (or_asks (watch_of fs) (pipeline_query fs)) r) → or_request o p ≡ Some r → Reads (or_asks (watch_of fs) (pipeline_query fs)) r
aggregate_by (Some q) p fs r f g h = reads_first (watch_of fs) (pipeline_query fs) r (f h)
aggregate_by None p fs r f g h = g h

aggregate_reads : (fs : Fields) (r : Request) → aggregate_request fs ≡ Some r → Reads (or_asks (watch_of fs) (pipeline_query fs)) r
aggregate_reads fs r h = aggregate_by (watch_request fs) (pipeline_request fs) fs r (watch_reads fs r) (pipeline_reads fs r) h

-- what the store reads as a request is what the command asks for
pub request_reads : (fs : Fields) (r : Request) → request_of fs ≡ Ok r → Reads (asked_by fs) r
request_reads no_fields r h = absurd cc
request_reads (field k t fs) r h =
    by_name (bytes_eq k (codes "insert")) (insert_request (field k t fs)) _ (insert_of (field k t fs)) _ r (insert_reads (field k t fs) r)
    (by_name (bytes_eq k (codes "aggregate")) (aggregate_request (field k t fs)) _ (or_asks (watch_of (field k t fs)) (pipeline_query (field k t fs))) _ r (λ e. aggregate_reads (field k t fs) r e)
    (by_name (bytes_eq k (codes "getMore")) (more_request (field k t fs)) _ (more_of (field k t fs)) _ r (more_reads (field k t fs) r)
    (by_name (bytes_eq k (codes "killCursors")) (kill_request (field k t fs)) _ (kill_of (field k t fs)) (further_by k (field k t fs)) r (kill_reads (field k t fs) r)
    (by_further (bytes_eq k (codes "find")) (find_request (field k t fs)) _ (find_of (field k t fs)) (further_by k (field k t fs)) r (finds k (field k t fs)) (find_reads (field k t fs) r)
    (by_further (bytes_eq k (codes "create")) (create_request (field k t fs)) _ (create_of (field k t fs)) (further_by k (field k t fs)) r (creates k (field k t fs)) (create_reads (field k t fs) r)
    (by_further (bytes_eq k (codes "createIndexes")) (indexes_request (field k t fs)) _ (indexing_of (field k t fs)) (further_by k (field k t fs)) r (indexes k (field k t fs)) (indexes_read (field k t fs) r)
    (by_further (bytes_eq k (codes "update")) (update_request (field k t fs)) _ (update_of (field k t fs)) (further_by k (field k t fs)) r (updates k (field k t fs)) (update_reads (field k t fs) r)
    (by_further (bytes_eq k (codes "delete")) (delete_request (field k t fs)) _ (delete_of (field k t fs)) (further_by k (field k t fs)) r (deletes k (field k t fs)) (delete_reads (field k t fs) r)
    (by_further (bytes_eq k (codes "drop")) (drop_request (field k t fs)) _ (drop_of (field k t fs)) (further_by k (field k t fs)) r (drops k (field k t fs)) (drop_reads (field k t fs) r)
    (by_further (bytes_eq k (codes "listCollections")) (list_collections_request (field k t fs)) _ (collections_query (field k t fs)) (further_by k (field k t fs)) r (lists k (field k t fs)) (listing_reads (field k t fs) r)
    (by_further (bytes_eq k (codes "listIndexes")) (list_indexes_request (field k t fs)) (Err unknown_command) (indexes_query (field k t fs)) (further_by k (field k t fs)) r (lists_indexes k (field k t fs)) (listed_reads (field k t fs) r) (λ e. absurd cc)))))))))))) h

pub asked_is : (command : List ℕ) (r : Request) → request_of (fields command) ≡ Ok r → asked command ≡ asks_of r
unfolding asked
asked_is command r h = ap (λ (o : Option Asked). unwrap_or o asks_other) (request_reads (fields command) r h).asks
