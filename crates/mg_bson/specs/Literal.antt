-- Documents and arrays written out, as `"find" ⇒ string coll ⨾ "limit" ⇒ int64 (pos 5) ⨾ empty` and `word "a" ⨟ boolean true ⨟ no_items`.
use Rattle.std.specs.Prelude.{codes}
use Prim.Native.String.{String}
use Rattle.mg_bson.specs.Tree.{Tree, string, Fields, no_fields, field, Items, item}

-- a pair, and the document behind it
infixr 10 ◌⇒◌⨾◌
abbrev pub ◌⇒◌⨾◌ : String → Tree → Fields → Fields
k ⇒ t ⨾ fs = field (codes k) t fs

-- the document of no pair
abbrev pub empty : Fields
empty = no_fields

-- a text that is written out
abbrev pub word : String → Tree
word s = string (codes s)

-- a value, and the array behind it
infixr 10 ◌⨟◌
abbrev pub ◌⨟◌ : Tree → Items → Items
t ⨟ ts = item t ts
