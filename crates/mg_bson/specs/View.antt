-- What the types of the code stand for.
use Rattle.std.specs.Prelude.{ℕ, suc, List, [], ◌∷◌, string_bytes, Option, Some, None, option_map, if◌then◌else◌}
use Rattle.std.specs.Str.{bytes_eq}
use Rattle.mg_bson.specs.Tree.{Tree, double, string, document, array, binary, undefined, object_id, boolean, date_time, null, regex, db_pointer, script, symbol, scoped, int32, timestamp, int64, decimal128, min_key, max_key, Fields, no_fields, field, Items, no_items, item}
use Rattle.mg_bson.specs.declared.tree.Bson.{Bson}
use Rattle.mg_bson.specs.declared.tree.Bson.TheVariants as bson
use Rattle.mg_bson.specs.declared.tree.Field.{Field}

-- the value of a `Bson`
abbrev pub tree : Bson → Tree
tree (bson.Double v) = double v
tree (bson.String s) = string (string_bytes s)
tree (bson.Document fs) = document fs
tree (bson.Array ts) = array ts
tree (bson.Binary b) = binary b.subtype b.bytes.items
tree bson.Undefined = undefined
tree (bson.ObjectId o) = object_id o.0
tree (bson.Boolean b) = boolean b
tree (bson.DateTime d) = date_time d.millis
tree bson.Null = null
tree (bson.Regex r) = regex (string_bytes r.value.pattern) (string_bytes r.value.options)
tree (bson.DbPointer p) = db_pointer (string_bytes p.value.namespace) p.value.id.0
tree (bson.Code s) = script (string_bytes s)
tree (bson.Symbol s) = symbol (string_bytes s)
tree (bson.CodeWithScope c) = scoped (string_bytes c.value.code) c.value.scope
tree (bson.Int32 z) = int32 z
tree (bson.Timestamp t) = timestamp t.time t.increment
tree (bson.Int64 z) = int64 z
tree (bson.Decimal128 v) = decimal128 v
tree bson.MinKey = min_key
tree bson.MaxKey = max_key

-- the document of its fields
abbrev pub fields_of : List Field → Fields
fields_of [] = no_fields
fields_of (f ∷ fs) = field f.name (tree f.value) (fields_of fs)

-- the array of its values
abbrev pub items_of : List Bson → Items
items_of [] = no_items
items_of (t ∷ ts) = item (tree t) (items_of ts)

-- where the first field of the name stands
abbrev pub place : List ℕ → List Field → Option ℕ
place k [] = None
place k (f ∷ fs) = if bytes_eq f.name k then Some 0 else option_map suc (place k fs)
