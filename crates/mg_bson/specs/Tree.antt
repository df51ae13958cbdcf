-- What a document is: a list of pairs of a name and a value (BSON: document, element). Texts are lists of their UTF-8 bytes.
use Rattle.std.specs.Prelude.{ℕ, suc, ◌+◌, ℤ, List, Bool}

mutual
  -- a value: one case for each kind of element (BSON: element)
  pub data Tree : Type 0 where
    double : List ℕ → Tree  -- eight bytes
    string : List ℕ → Tree  -- a text
    document : Fields → Tree
    array : Items → Tree
    binary : ℕ → List ℕ → Tree  -- a subtype, and bytes
    undefined : Tree
    object_id : List ℕ → Tree  -- twelve bytes
    boolean : Bool → Tree
    date_time : ℤ → Tree  -- milliseconds
    null : Tree
    regex : List ℕ → List ℕ → Tree  -- a pattern, and options
    db_pointer : List ℕ → List ℕ → Tree  -- a namespace, and twelve bytes
    script : List ℕ → Tree  -- JavaScript code
    symbol : List ℕ → Tree  -- a text
    scoped : List ℕ → Fields → Tree  -- JavaScript code, and its scope
    int32 : ℤ → Tree
    timestamp : ℕ → ℕ → Tree  -- seconds, and an increment
    int64 : ℤ → Tree
    decimal128 : List ℕ → Tree  -- sixteen bytes
    min_key : Tree
    max_key : Tree

  -- the pairs of a document, in order (BSON: e_list)
  pub data Fields : Type 0 where
    no_fields : Fields
    field : List ℕ → Tree → Fields → Fields

  -- the values of an array, in order (BSON: array)
  pub data Items : Type 0 where
    no_items : Items
    item : Tree → Items → Items

-- how many values lie inside, by which a recursion over a value, a document or an array ends
abbrev mutual
  pub tree_size : Tree → ℕ
  tree_size (double a) = 0
  tree_size (string a) = 0
  tree_size (document a) = suc (fields_size a)
  tree_size (array a) = suc (items_size a)
  tree_size (binary a b) = 0
  tree_size undefined = 0
  tree_size (object_id a) = 0
  tree_size (boolean a) = 0
  tree_size (date_time a) = 0
  tree_size null = 0
  tree_size (regex a b) = 0
  tree_size (db_pointer a b) = 0
  tree_size (script a) = 0
  tree_size (symbol a) = 0
  tree_size (scoped a b) = suc (fields_size b)
  tree_size (int32 a) = 0
  tree_size (timestamp a b) = 0
  tree_size (int64 a) = 0
  tree_size (decimal128 a) = 0
  tree_size min_key = 0
  tree_size max_key = 0

  pub fields_size : Fields → ℕ
  fields_size no_fields = 0
  fields_size (field k t fs) = tree_size t + suc (fields_size fs)

  pub items_size : Items → ℕ
  items_size no_items = 0
  items_size (item t ts) = tree_size t + suc (items_size ts)
