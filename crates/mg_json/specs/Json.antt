-- The JSON that a value prints as.
use Rattle.std.specs.Prelude.{ℕ, ℤ, ◌==◌, List, true, codes, if◌then◌else◌}
use Rattle.std.specs.Fmt.{signed_decimal}
use Rattle.hex.specs.Hex.{encode_lower}
use Rattle.serde_json.specs.Data.{unsigned, Data, null, boolean, number, string, array, object, Items, no_items, item, Members, no_members, member, put}
use Rattle.serde_json.specs.Find.{of_integer}
use Rattle.serde_json.specs.Written.{compact_text}
use Rattle.mg_bson.specs.Tree as bson

-- an object of one field
abbrev pub tagged : List ℕ → Data → Data
tagged name d = object (member name d no_members)

-- an object of two fields, named in order
abbrev pub pair : List ℕ → Data → List ℕ → Data → Data
pair first d second e = object (member first d (member second e no_members))

-- bytes as lower-case hexadecimal digits
abbrev pub hex_json : List ℕ → List ℕ → Data
hex_json name bytes = tagged name (string (encode_lower bytes))

abbrev pub text_json : List ℕ → List ℕ → Data
text_json name text = tagged name (string text)

abbrev pub flag_json : List ℕ → Data
flag_json name = tagged name (boolean true)

abbrev pub int64_json : ℤ → Data
int64_json z = text_json (codes "$int64") (signed_decimal z)

-- bytes of subtype 0, and bytes of another
abbrev pub binary_json : ℕ → List ℕ → Data
binary_json subtype bytes = if subtype == 0 then hex_json (codes "$bytes") bytes
    else tagged (codes "$binary") (pair (codes "bytes") (string (encode_lower bytes)) (codes "subtype") (number (unsigned subtype)))

abbrev pub regex_json : List ℕ → List ℕ → Data
regex_json pattern options = tagged (codes "$regex") (pair (codes "options") (string options) (codes "pattern") (string pattern))

abbrev pub pointer_json : List ℕ → List ℕ → Data
pointer_json namespace id = tagged (codes "$dbPointer") (pair (codes "id") (string (encode_lower id)) (codes "ref") (string namespace))

-- seconds, and the number within the second
abbrev pub timestamp_json : ℕ → ℕ → Data
timestamp_json time increment = tagged (codes "$timestamp") (pair (codes "i") (number (unsigned increment)) (codes "t") (number (unsigned time)))

abbrev pub scoped_json : List ℕ → Members → Data
scoped_json text scope = tagged (codes "$codeScope") (pair (codes "code") (string text) (codes "scope") (object scope))

-- The fields of a document go in one after another, so they stand in the order of their names, and of two with one name the later stays.
abbrev mutual
  pub json_of : bson.Tree → Data
  json_of (bson.double bs) = hex_json (codes "$double") bs
  json_of (bson.string s) = string s
  json_of (bson.document fs) = object (fields_json fs no_members)
  json_of (bson.array ts) = array (items_json ts)
  json_of (bson.binary n bs) = binary_json n bs
  json_of bson.undefined = flag_json (codes "$undefined")
  json_of (bson.object_id bs) = hex_json (codes "$oid") bs
  json_of (bson.boolean b) = boolean b
  json_of (bson.date_time z) = tagged (codes "$date") (number (of_integer z))
  json_of bson.null = null
  json_of (bson.regex p o) = regex_json p o
  json_of (bson.db_pointer s bs) = pointer_json s bs
  json_of (bson.script s) = text_json (codes "$code") s
  json_of (bson.symbol s) = text_json (codes "$symbol") s
  json_of (bson.scoped s fs) = scoped_json s (fields_json fs no_members)
  json_of (bson.int32 z) = number (of_integer z)
  json_of (bson.timestamp t i) = timestamp_json t i
  json_of (bson.int64 z) = int64_json z
  json_of (bson.decimal128 bs) = hex_json (codes "$decimal") bs
  json_of bson.min_key = flag_json (codes "$minKey")
  json_of bson.max_key = flag_json (codes "$maxKey")

  pub items_json : bson.Items → Items
  items_json bson.no_items = no_items
  items_json (bson.item t ts) = item (json_of t) (items_json ts)

  pub fields_json : bson.Fields → Members → Members
  fields_json bson.no_fields found = found
  fields_json (bson.field k t fs) found = fields_json fs (put k (json_of t) found)

-- the compact text of a value (RFC 8259)
abbrev pub value_text : bson.Tree → List ℕ
value_text t = compact_text (json_of t)
