-- What queries ask for, and what they give (find, aggregate, enumerating collections and enumerating indexes specifications).
use Rattle.std.specs.Prelude.{ℕ, pos, Bool, true, false, Option, Some, None, option_map, option_and_then, is_some, unwrap_or, ◌&&◌, List, [], ◌∷◌, take, drop, map, codes, if◌then◌else◌}
use Rattle.std.specs.List.{filter}
use Rattle.std.specs.Cmp.Lexicographic.{slice_cmp}
use Rattle.std.specs.Ordering.{int_cmp, is_lt, nat_cmp, ordering_then}
use Rattle.std.specs.Str.{bytes_eq}
use Rattle.std.specs.declared.cmp.Ordering.{Ordering}
use Rattle.std.specs.declared.cmp.Ordering.TheVariants.{Less, Equal, Greater}
use Rattle.mg_bson.specs.Tree.{Tree, string, document, object_id, date_time, int32, int64, Fields}
use Rattle.mg_bson.specs.Find.{get, without}
use Rattle.mg_bson.specs.Literal.{◌⇒◌⨾◌, empty, word}
use Rattle.mg_link.specs.Namespace.{Space}
use Rattle.mg_server.specs.Filter.{Condition, matches}
use Rattle.mg_server.specs.State.{Collection, Index, State, collection_in, documents_at}

-- what is read: documents, the collections of a database, or the indexes of a collection
pub data Source : Type 0 where
  of_collection : (space : Space) → Source
  of_database : (db : List ℕ) → Source
  of_indexes : (space : Space) → Source

-- a name to sort by, from the lowest value or from the highest
pub record Key : Type 0 where
  pub name : List ℕ
  pub rising : Bool

-- what is done with the documents of a source
pub data Stage : Type 0 where
  selects : (filter : List Condition) → Stage
  sorts : (keys : List Key) → Stage
  skips : (n : ℕ) → Stage
  limits : (n : ℕ) → Stage
  shows_id : Stage
  hides_id : Stage

pub record Query : Type 0 where
  pub source : Source
  pub stages : List Stage
  -- one batch is asked for
  pub single : Bool
  pub size : Option ℕ

-- ---- sources

abbrev pub collection_listed : Collection → Fields
collection_listed c = "name" ⇒ string c.space.coll ⨾ "type" ⇒ word "collection" ⨾ empty

abbrev pub index_listed : Index → Fields
index_listed i = "v" ⇒ int32 (pos 2) ⨾ "key" ⇒ document i.key ⨾ "name" ⇒ string i.name ⨾ empty

-- the index that each collection has (indexes: each collection is made with an index on `_id`)
abbrev pub id_index : Index
id_index = record { name = codes "_id_"; key = "_id" ⇒ int32 (pos 1) ⨾ empty }

-- the indexes of a collection that is not there are not either
abbrev pub read : State → Source → Option (List Fields)
read s (of_collection space) = Some (unwrap_or (documents_at s space) [])
read s (of_database db) = Some (map collection_listed (filter (λ (c : Collection). bytes_eq db c.space.db) s.collections))
read s (of_indexes space) = option_map (λ (c : Collection). map index_listed (id_index ∷ c.indexes)) (collection_in s.collections space)

-- ---- sorting

-- values of one of these kinds have an order
abbrev pub order_of : Tree → Tree → Option Ordering
order_of (int32 a) (int32 b) = Some (int_cmp a b)
order_of (int64 a) (int64 b) = Some (int_cmp a b)
order_of (date_time a) (date_time b) = Some (int_cmp a b)
order_of (string a) (string b) = Some (slice_cmp nat_cmp a b)
order_of (object_id a) (object_id b) = Some (slice_cmp nat_cmp a b)
order_of t u = None

abbrev pub turned : Bool → Ordering → Ordering
turned true o = o
turned false Less = Greater
turned false Equal = Equal
turned false Greater = Less

abbrev pub order_at : Key → Fields → Fields → Option Ordering
order_at k d e = option_map (turned k.rising) (option_and_then (λ t. option_and_then (order_of t) (get k.name e)) (get k.name d))

-- the order of two documents by the keys, the first one first; both have each name, with values that have an order
abbrev pub order_by : List Key → Fields → Fields → Option Ordering
order_by [] d e = Some Equal
order_by (k ∷ ks) d e = option_and_then (λ o. option_map (ordering_then o) (order_by ks d e)) (order_at k d e)

abbrev pub comes_first : Option Ordering → Bool
comes_first None = false
comes_first (Some o) = is_lt o

-- the document in front of the first that does not come before it
abbrev pub sorted_in : List Key → Fields → List Fields → List Fields
sorted_in keys d [] = d ∷ []
sorted_in keys d (e ∷ es) = if comes_first (order_by keys e d) then e ∷ sorted_in keys d es else d ∷ e ∷ es

-- equal ones keep their order (sort: documents with equal values may come in any order; here they keep theirs)
abbrev pub sorted : List Key → List Fields → List Fields
sorted keys [] = []
sorted keys (d ∷ ds) = sorted_in keys d (sorted keys ds)

-- each of the documents has an order with this one
abbrev pub have_order : List Key → Fields → List Fields → Bool
have_order keys d [] = true
have_order keys d (e ∷ es) = is_some (order_by keys d e) && have_order keys d es

-- documents can be sorted where their values at each key are of one kind
abbrev pub can_sort : List Key → List Fields → Bool
can_sort keys [] = true
can_sort keys (d ∷ ds) = have_order keys d (d ∷ ds)

-- ---- results

-- a document with its `_id` alone
abbrev pub id_alone : Option Tree → Fields
id_alone None = empty
id_alone (Some id) = "_id" ⇒ id ⨾ empty

-- what a stage makes of documents, none where it cannot sort them
abbrev pub staged : Stage → List Fields → Option (List Fields)
staged (selects conditions) ds = Some (filter (matches conditions) ds)
staged (sorts keys) ds = if can_sort keys ds then Some (sorted keys ds) else None
staged (skips n) ds = Some (drop n ds)
staged (limits n) ds = Some (take n ds)
staged shows_id ds = Some (map (λ d. id_alone (get (codes "_id") d)) ds)
staged hides_id ds = Some (map (without (codes "_id")) ds)

abbrev pub through : List Stage → List Fields → Option (List Fields)
through [] ds = Some ds
through (stage ∷ stages) ds = option_and_then (through stages) (staged stage ds)

-- the result of a query, fixed as the command takes effect
unfoldable pub result : State → Query → Option (List Fields)
result s q = option_and_then (through q.stages) (read s q.source)
