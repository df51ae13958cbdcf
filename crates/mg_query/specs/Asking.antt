-- What a command asks for, as the store's readers hold it.
use Rattle.std.specs.Prelude.{ℕ, ℤ, Bool, false, true, ◌||◌, ◌&&◌, List, [], ◌∷◌, map, Option, Some, None, string_bytes, if◌then◌else◌}
use Rattle.std.specs.Str.{bytes_eq}
use Rattle.mg_bson.specs.Tree.{Tree, Fields, no_fields, field, Items, no_items, item}
use Rattle.mg_bson.specs.Find.{as_document, get}
use Rattle.mg_link.specs.Namespace.{Space, Target, database, collection, cluster}
use Rattle.mg_server.specs.Filter as filter
use Rattle.mg_server.specs.Filter.{begins_with_dollar, key}
use Rattle.mg_server.specs.Rules.{id_of}
use Rattle.mg_query.specs.declared.reading.LentSpace.{LentSpace}
use Rattle.mg_query.specs.declared.reading.LentTarget.{LentTarget}
use Rattle.mg_query.specs.declared.reading.LentTarget.TheVariants as lent
use Rattle.mg_query.specs.declared.filter.Condition.{Condition}

-- the namespace that is lent
abbrev pub lent_space : LentSpace → Space
lent_space s = record { db = s.db.now; coll = s.coll.now }

-- the target that is lent
abbrev pub lent_target : LentTarget → Target
lent_target (lent.Collection s) = collection (lent_space s)
lent_target (lent.Database db) = database db.now
lent_target lent.Cluster = cluster

abbrev pub ahead : {A : Type 0} → Option A → List A → List A
ahead None xs = xs
ahead (Some x) xs = x ∷ xs

-- the documents among the values
abbrev pub documents_among : Items → List Fields
documents_among no_items = []
documents_among (item t ts) = ahead (as_document t) (documents_among ts)

-- the ids among the values
abbrev pub ids_among : Items → List ℤ
ids_among no_items = []
ids_among (item t ts) = ahead (id_of t) (ids_among ts)

-- there is just one field
abbrev pub is_single : Fields → Bool
is_single no_fields = false
is_single (field k t no_fields) = true
is_single (field k t (field l u fs)) = false

-- the document of the only field, where that has the name
abbrev pub only_document : List ℕ → Fields → Option Fields
only_document name no_fields = None
only_document name (field k t no_fields) = if bytes_eq k name then as_document t else None
only_document name (field k t (field l u fs)) = None

-- ---- filters

-- the first name is that of an operator
abbrev pub begins_operator : Fields → Bool
begins_operator no_fields = false
begins_operator (field k t fs) = begins_with_dollar k

-- a condition, whose values are held as encodings
pub record Keyed : Type 0 where
  pub name : List ℕ
  pub keys : List (List ℕ)

abbrev pub keys_of : Items → List (List ℕ)
keys_of no_items = []
keys_of (item t ts) = key t ∷ keys_of ts

abbrev pub keyed : filter.Condition → Keyed
keyed c = record { name = c.name; keys = keys_of c.values }

-- the condition that the code holds
abbrev pub held : Condition → Keyed
held c = record { name = string_bytes c.name; keys = map (λ k. k.items) c.keys.items }

-- the encoding is one of these
abbrev pub is_key_among : List ℕ → List (List ℕ) → Bool
is_key_among k [] = false
is_key_among k (l ∷ ls) = bytes_eq l k || is_key_among k ls

abbrev pub has_key : List (List ℕ) → Option Tree → Bool
has_key keys None = false
has_key keys (Some t) = is_key_among (key t) keys

abbrev pub meets_keys : Keyed → Fields → Bool
meets_keys c d = has_key c.keys (get c.name d)

-- a document meets each condition
abbrev pub matches_keys : List Keyed → Fields → Bool
matches_keys [] d = true
matches_keys (c ∷ cs) d = meets_keys c d && matches_keys cs d
