-- Filters, and the documents that they match (find specification: equality, `$eq`, `$in`).
use Rattle.std.specs.Prelude.{ℕ, List, [], ◌∷◌, Bool, true, false, ◌&&◌, ◌||◌, ◌==◌, Option, Some, None, option_map, option_and_then, codes, if◌then◌else◌}
use Rattle.std.specs.Str.{bytes_eq}
use Rattle.mg_bson.specs.Tree.{Tree, double, string, document, array, binary, undefined, object_id, boolean, date_time, null, regex, db_pointer, script, symbol, scoped, int32, timestamp, int64, decimal128, min_key, max_key, Fields, no_fields, field, Items, no_items, item}
use Rattle.mg_bson.specs.Bytes.{bytes}
use Rattle.mg_bson.specs.Find.{get, as_array}
use Rattle.mg_link.specs.Namespace.{has_dot}

-- a value's encoding, its kind included: that of the document which holds it under an empty name
abbrev pub key : Tree → List ℕ
key t = bytes (field [] t no_fields)

-- kind and encoded bytes of two values are equal
abbrev pub is_same : Tree → Tree → Bool
is_same t u = bytes_eq (key t) (key u)

-- one of the values is the same
abbrev pub is_among : Items → Tree → Bool
is_among no_items t = false
is_among (item u us) t = is_same u t || is_among us t

-- one name of a filter, and the values of which a document has one there
pub record Condition : Type 0 where
  pub name : List ℕ
  pub values : Items

abbrev pub one_of : Items → Option Tree → Bool
one_of values None = false
one_of values (Some t) = is_among values t

-- the document has the name, with one of the values
abbrev pub meets : Condition → Fields → Bool
meets c d = one_of c.values (get c.name d)

-- a document matches a filter where it meets each condition (query predicates: `$eq` selects documents where the field equals the value, `$in` those where it equals any of the values)
abbrev pub matches : List Condition → Fields → Bool
matches [] d = true
matches (c ∷ cs) d = meets c d && matches cs d

-- ---- the filters that have a meaning here

abbrev pub begins_with_dollar : List ℕ → Bool
begins_with_dollar [] = false
begins_with_dollar (b ∷ bs) = b == 36

-- a name at the top of a document: it has no dot and is no operator
abbrev pub is_top_name : List ℕ → Bool
is_top_name k = if begins_with_dollar k then false else (if has_dot k then false else true)

-- the values of `{ $eq: v }` and of `{ $in: [values] }`; no other operator has a meaning
abbrev pub operator_values : List ℕ → Tree → Option Items
operator_values k t = if bytes_eq k (codes "$eq") then Some (item t no_items) else (if bytes_eq k (codes "$in") then as_array t else None)

-- the values that a document in a filter stands for
abbrev pub document_values : Fields → Option Items
document_values no_fields = Some (item (document no_fields) no_items)
document_values (field k t no_fields) = if begins_with_dollar k then operator_values k t else Some (item (document (field k t no_fields)) no_items)
document_values (field k t (field l u fs)) = if begins_with_dollar k then None else Some (item (document (field k t (field l u fs))) no_items)

-- the values that a value in a filter stands for: each but a document stands for itself
abbrev pub values_of : Tree → Option Items
values_of (document fs) = document_values fs
values_of (double a) = Some (item (double a) no_items)
values_of (string a) = Some (item (string a) no_items)
values_of (array a) = Some (item (array a) no_items)
values_of (binary a b) = Some (item (binary a b) no_items)
values_of undefined = Some (item undefined no_items)
values_of (object_id a) = Some (item (object_id a) no_items)
values_of (boolean a) = Some (item (boolean a) no_items)
values_of (date_time a) = Some (item (date_time a) no_items)
values_of null = Some (item null no_items)
values_of (regex a b) = Some (item (regex a b) no_items)
values_of (db_pointer a b) = Some (item (db_pointer a b) no_items)
values_of (script a) = Some (item (script a) no_items)
values_of (symbol a) = Some (item (symbol a) no_items)
values_of (scoped a b) = Some (item (scoped a b) no_items)
values_of (int32 a) = Some (item (int32 a) no_items)
values_of (timestamp a b) = Some (item (timestamp a b) no_items)
values_of (int64 a) = Some (item (int64 a) no_items)
values_of (decimal128 a) = Some (item (decimal128 a) no_items)
values_of min_key = Some (item min_key no_items)
values_of max_key = Some (item max_key no_items)

abbrev pub condition_of : List ℕ → Tree → Option Condition
condition_of k t = if is_top_name k then option_map (λ vs. record { name = k; values = vs }) (values_of t) else None

-- the conditions of a filter, where each of its names has one
abbrev pub conditions_of : Fields → Option (List Condition)
conditions_of no_fields = Some []
conditions_of (field k t fs) = option_and_then (λ c. option_map (λ cs. c ∷ cs) (conditions_of fs)) (condition_of k t)
