-- What checked bytes are, and what they spell: a document, the elements that are left of one, and a value.
use Rattle.std.specs.Prelude.{◌≡◌, ℕ, List, true, is_some, unwrap_or}
use Rattle.mg_bson.specs.Tree.{Tree, null, Fields, no_fields, Items}
use Rattle.mg_bson.specs.declared.kind.Kind.{Kind}
use Rattle.mg_bson.specs.Reading.{value_at, values, fields_at, doc_at, doc}

-- a value's kind, and its bytes
pub record Spelled : Type 0 where
  pub kind : Kind
  pub bytes : List ℕ

-- the bytes are a document
abbrev pub IsDocument : List ℕ → Type 0
IsDocument bs = is_some (doc bs) ≡ true

-- the bytes are elements of a document, inside which there are at most 99 levels
abbrev pub AreFields : List ℕ → Type 0
AreFields bs = is_some (fields_at (doc_at 99) bs) ≡ true

-- the bytes are a value of the kind
abbrev pub IsValue : Spelled → Type 0
IsValue v = is_some (value_at (doc_at 99) v.kind v.bytes) ≡ true

-- the fields of a document
unfoldable pub fields : List ℕ → Fields
fields bs = unwrap_or (doc bs) no_fields

-- the fields of the elements that are left
unfoldable pub fields_left : List ℕ → Fields
fields_left bs = unwrap_or (fields_at (doc_at 99) bs) no_fields

-- the value of the kind
unfoldable pub spelled : Spelled → Tree
spelled v = unwrap_or (value_at (doc_at 99) v.kind v.bytes) null

-- the values of an array, and of what is left of one
abbrev pub items : List ℕ → Items
items bs = values (fields bs)

abbrev pub items_left : List ℕ → Items
items_left bs = values (fields_left bs)
