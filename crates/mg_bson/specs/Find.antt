-- What is looked up in documents and values.
use Rattle.std.specs.Prelude.{ℕ, zero, suc, ℤ, List, [], ◌∷◌, Bool, true, false, Option, Some, None, if◌then◌else◌}
use Rattle.std.specs.Str.{bytes_eq}
use Rattle.mg_bson.specs.Tree.{Tree, double, string, document, array, binary, object_id, boolean, date_time, null, int32, timestamp, int64, decimal128, Fields, no_fields, field, Items, no_items, item}

-- the first value of the name
abbrev pub get : List ℕ → Fields → Option Tree
get k no_fields = None
get k (field l t fs) = if bytes_eq l k then Some t else get k fs

-- the bytes of a floating point number
abbrev pub as_double : Tree → Option (List ℕ)
as_double (double bs) = Some bs
as_double _ = None

-- the text of a string
abbrev pub as_string : Tree → Option (List ℕ)
as_string (string s) = Some s
as_string _ = None

-- the document inside
abbrev pub as_document : Tree → Option Fields
as_document (document fs) = Some fs
as_document _ = None

-- the values of an array
abbrev pub as_array : Tree → Option Items
as_array (array ts) = Some ts
as_array _ = None

-- the number of 32 bits
abbrev pub as_int32 : Tree → Option ℤ
as_int32 (int32 z) = Some z
as_int32 _ = None

-- the number of 64 bits
abbrev pub as_int64 : Tree → Option ℤ
as_int64 (int64 z) = Some z
as_int64 _ = None

-- the seconds and the increment
abbrev pub as_timestamp : Tree → Option (ℕ × ℕ)
as_timestamp (timestamp t i) = Some (t, i)
as_timestamp _ = None

-- the subtype and the bytes
abbrev pub as_binary : Tree → Option (ℕ × List ℕ)
as_binary (binary n bs) = Some (n, bs)
as_binary _ = None

-- the bytes of an object id
abbrev pub as_object_id : Tree → Option (List ℕ)
as_object_id (object_id bs) = Some bs
as_object_id _ = None

-- the milliseconds of a time
abbrev pub as_date_time : Tree → Option ℤ
as_date_time (date_time z) = Some z
as_date_time _ = None

-- the bytes of a decimal floating point number
abbrev pub as_decimal128 : Tree → Option (List ℕ)
as_decimal128 (decimal128 bs) = Some bs
as_decimal128 _ = None

-- whether the value is null
abbrev pub is_null : Tree → Bool
is_null null = true
is_null _ = false

-- the truth value
abbrev pub as_boolean : Tree → Option Bool
as_boolean (boolean b) = Some b
as_boolean _ = None

-- the document with the value in place of the first of that name, or at the end
abbrev pub put : List ℕ → Tree → Fields → Fields
put k t no_fields = field k t no_fields
put k t (field l u fs) = if bytes_eq l k then field l t fs else field l u (put k t fs)

-- the document without the first pair of that name
abbrev pub without : List ℕ → Fields → Fields
without k no_fields = no_fields
without k (field l u fs) = if bytes_eq l k then fs else field l u (without k fs)

-- how many pairs there are
abbrev pub fields_length : Fields → ℕ
fields_length no_fields = 0
fields_length (field l u fs) = suc (fields_length fs)

-- the array with the value at the end
abbrev pub with_item : Items → Tree → Items
with_item no_items t = item t no_items
with_item (item u ts) t = item u (with_item ts t)

-- the document with the pair at the end
abbrev pub with_field : Fields → List ℕ → Tree → Fields
with_field no_fields k t = field k t no_fields
with_field (field l u fs) k t = field l u (with_field fs k t)

-- one document behind another
abbrev pub joined : Fields → Fields → Fields
joined no_fields gs = gs
joined (field k t fs) gs = field k t (joined fs gs)

-- one array behind another
abbrev pub items_joined : Items → Items → Items
items_joined no_items us = us
items_joined (item t ts) us = item t (items_joined ts us)

-- the names, in order
abbrev pub names : Fields → List (List ℕ)
names no_fields = []
names (field k t fs) = k ∷ names fs

-- the value at the index, from 0
abbrev pub item_at : ℕ → Items → Option Tree
item_at n no_items = None
item_at zero (item t ts) = Some t
item_at (suc n) (item t ts) = item_at n ts

-- how many values there are
abbrev pub items_length : Items → ℕ
items_length no_items = 0
items_length (item t ts) = suc (items_length ts)
