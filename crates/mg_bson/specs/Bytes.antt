-- The bytes of a document (BSON: document).
use Rattle.std.specs.Prelude.{ℕ, suc, ◌+◌, max, List, [], ◌∷◌, ◌++◌, length, if◌then◌else◌, decimal}
use Rattle.std.specs.Int.{w32, w64, to_le_bytes, cast_unsigned}
use Rattle.mg_bson.specs.Tree.{Tree, double, string, document, array, binary, undefined, object_id, boolean, date_time, null, regex, db_pointer, script, symbol, scoped, int32, timestamp, int64, decimal128, min_key, max_key, Fields, no_fields, field, Items, no_items, item}
use Rattle.mg_bson.specs.declared.kind.Kind.{Kind}
use Rattle.mg_bson.specs.declared.kind.Kind.TheVariants as kind
use Rattle.mg_bson.specs.Kind.{kind_byte}

-- the four bytes of a whole number, the lowest first (BSON: int32)
unfoldable pub le32 : ℕ → List ℕ
le32 n = to_le_bytes w32 n

-- the eight bytes of a whole number, the lowest first (BSON: int64)
unfoldable pub le64 : ℕ → List ℕ
le64 n = to_le_bytes w64 n

-- the kind of a value
abbrev pub kind_of : Tree → Kind
kind_of (double a) = kind.Double
kind_of (string a) = kind.String
kind_of (document a) = kind.Document
kind_of (array a) = kind.Array
kind_of (binary a b) = kind.Binary
kind_of undefined = kind.Undefined
kind_of (object_id a) = kind.ObjectId
kind_of (boolean a) = kind.Boolean
kind_of (date_time a) = kind.DateTime
kind_of null = kind.Null
kind_of (regex a b) = kind.Regex
kind_of (db_pointer a b) = kind.DbPointer
kind_of (script a) = kind.Code
kind_of (symbol a) = kind.Symbol
kind_of (scoped a b) = kind.CodeWithScope
kind_of (int32 a) = kind.Int32
kind_of (timestamp a b) = kind.Timestamp
kind_of (int64 a) = kind.Int64
kind_of (decimal128 a) = kind.Decimal128
kind_of min_key = kind.MinKey
kind_of max_key = kind.MaxKey

-- the total length, the elements and the last byte (BSON: document)
abbrev pub framed : List ℕ → List ℕ
framed body = le32 (length body + 5) ++ (body ++ 0 ∷ [])

-- the length with the last byte, the text, and a 0 (BSON: string)
abbrev pub text_bytes : List ℕ → List ℕ
text_bytes s = le32 (length s + 1) ++ (s ++ 0 ∷ [])

-- a kind and a name before a value and what follows it (BSON: element, e_name, cstring)
abbrev pub element : Kind → List ℕ → List ℕ → List ℕ
element k name value = kind_byte k ∷ (name ++ 0 ∷ value)

-- the length of all, itself included, before what is measured (BSON: code_w_s)
abbrev pub measured : List ℕ → List ℕ
measured bs = le32 (length bs + 4) ++ bs

-- the bytes of a value, of the elements of a document, and of those of an array, whose names are numbers from n on
abbrev mutual
  pub value_bytes : Tree → List ℕ
  value_bytes (double a) = a
  value_bytes (string a) = text_bytes a
  value_bytes (document a) = framed (fields_bytes a)
  value_bytes (array a) = framed (items_bytes 0 a)
  value_bytes (binary a b) = le32 (length b) ++ a ∷ b
  value_bytes undefined = []
  value_bytes (object_id a) = a
  value_bytes (boolean a) = (if a then 1 else 0) ∷ []
  value_bytes (date_time a) = le64 (cast_unsigned w64 a)
  value_bytes null = []
  value_bytes (regex a b) = a ++ 0 ∷ (b ++ 0 ∷ [])
  value_bytes (db_pointer a b) = text_bytes a ++ b
  value_bytes (script a) = text_bytes a
  value_bytes (symbol a) = text_bytes a
  value_bytes (scoped a b) = measured (text_bytes a ++ framed (fields_bytes b))
  value_bytes (int32 a) = le32 (cast_unsigned w32 a)
  value_bytes (timestamp a b) = le32 b ++ le32 a
  value_bytes (int64 a) = le64 (cast_unsigned w64 a)
  value_bytes (decimal128 a) = a
  value_bytes min_key = []
  value_bytes max_key = []

  pub fields_bytes : Fields → List ℕ
  fields_bytes no_fields = []
  fields_bytes (field k t fs) = element (kind_of t) k (value_bytes t ++ fields_bytes fs)

  pub items_bytes : ℕ → Items → List ℕ
  items_bytes n no_items = []
  items_bytes n (item t ts) = element (kind_of t) (decimal n) (value_bytes t ++ items_bytes (suc n) ts)

-- the encoding of a document
abbrev pub bytes : Fields → List ℕ
bytes fs = framed (fields_bytes fs)

-- how many levels lie inside: each document, array or scope adds one
abbrev mutual
  pub tree_depth : Tree → ℕ
  tree_depth (double a) = 0
  tree_depth (string a) = 0
  tree_depth (document a) = suc (fields_depth a)
  tree_depth (array a) = suc (items_depth a)
  tree_depth (binary a b) = 0
  tree_depth undefined = 0
  tree_depth (object_id a) = 0
  tree_depth (boolean a) = 0
  tree_depth (date_time a) = 0
  tree_depth null = 0
  tree_depth (regex a b) = 0
  tree_depth (db_pointer a b) = 0
  tree_depth (script a) = 0
  tree_depth (symbol a) = 0
  tree_depth (scoped a b) = suc (fields_depth b)
  tree_depth (int32 a) = 0
  tree_depth (timestamp a b) = 0
  tree_depth (int64 a) = 0
  tree_depth (decimal128 a) = 0
  tree_depth min_key = 0
  tree_depth max_key = 0

  pub fields_depth : Fields → ℕ
  fields_depth no_fields = 0
  fields_depth (field k t fs) = max (tree_depth t) (fields_depth fs)

  pub items_depth : Items → ℕ
  items_depth no_items = 0
  items_depth (item t ts) = max (tree_depth t) (items_depth ts)

-- how many levels a document has, itself included
abbrev pub levels : Fields → ℕ
levels fs = suc (fields_depth fs)
