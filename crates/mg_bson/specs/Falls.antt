-- A document inside another has fewer values, so that a recursion over documents ends.
use Rattle.std.specs.Prelude.{◌≤◌, max, List, [], ◌∷◌}
use Rattle.std.proofs.Common.{arith}
use denote.Param.Weighed.{most}
use Rattle.mg_bson.specs.Tree.{tree_size, fields_size, items_size}
use Rattle.mg_bson.specs.View.{tree, fields_of, items_of}
use Rattle.mg_bson.specs.declared.tree.Bson.{Bson}
use Rattle.mg_bson.specs.declared.tree.Bson.TheVariants as bson
use Rattle.mg_bson.specs.declared.tree.Field.{Field}
use Rattle.mg_bson.specs.declared.tree.Array.TheDeep.{deep-Bson, deep-Field}

-- a value is no deeper than it has values
pub value_falls : (t : Bson) → deep-Bson t ≤ tree_size (tree t)
value_falls (bson.Double v) = omega arith
value_falls (bson.String s) = omega arith
value_falls (bson.Document fs) = omega arith
value_falls (bson.Array ts) = omega arith
value_falls (bson.Binary b) = omega arith
value_falls bson.Undefined = omega arith
value_falls (bson.ObjectId o) = omega arith
value_falls (bson.Boolean b) = omega arith
value_falls (bson.DateTime d) = omega arith
value_falls bson.Null = omega arith
value_falls (bson.Regex r) = omega arith
value_falls (bson.DbPointer p) = omega arith
value_falls (bson.Code s) = omega arith
value_falls (bson.Symbol s) = omega arith
value_falls (bson.CodeWithScope c) = omega arith
value_falls (bson.Int32 z) = omega arith
value_falls (bson.Timestamp t) = omega arith
value_falls (bson.Int64 z) = omega arith
value_falls (bson.Decimal128 v) = omega arith
value_falls bson.MinKey = omega arith
value_falls bson.MaxKey = omega arith

-- nor is an array
pub items_fall : (ts : List Bson) → max (most deep-Bson ts) 0 ≤ items_size (items_of ts)
items_fall [] = omega arith
items_fall (t ∷ ts) = omega (arith, value_falls t, items_fall ts)

-- nor is a document
pub fields_fall : (fs : List Field) → max (most deep-Field fs) 0 ≤ fields_size (fields_of fs)
fields_fall [] = omega arith
fields_fall (f ∷ fs) = omega (arith, value_falls f.value, fields_fall fs)
