-- Values that hold no other values.
use Rattle.std.proofs.Common.{◌≡◌, ℕ, true, Box, refl, sym, arith, le-leb}
use Rattle.std.specs.declared.alloc.Global.{Global}
use Rattle.std.specs.Prelude.{nat_le}
use Rattle.mg_bson.specs.Tree.{Tree, double, string, document, array, binary, undefined, object_id, boolean, date_time, null, regex, db_pointer, script, symbol, scoped, int32, timestamp, int64, decimal128, min_key, max_key, Fields, Items}
use Rattle.mg_bson.specs.View.{tree}
use Rattle.mg_bson.specs.Bytes.{tree_depth}
use Rattle.mg_bson.specs.Plain.{is_plain}
use Rattle.mg_bson.specs.declared.tree.Bson.{Bson}
use Rattle.mg_bson.specs.declared.tree.Bson.TheVariants as bson
use Rattle.mg_bson.specs.declared.tree.CodeWithScope.{CodeWithScope}

-- what is neither of the three kinds that hold others
pub plain : (v : Bson) → ((d : Fields) → v ≡ bson.Document d → ⊥) → ((a : Items) → v ≡ bson.Array a → ⊥) → ((c : Box CodeWithScope Global) → v ≡ bson.CodeWithScope c → ⊥) → is_plain (tree v) ≡ true
plain (bson.Double v) d a c = refl
plain (bson.String v) d a c = refl
plain (bson.Document v) d a c = absurd (d v refl)
plain (bson.Array v) d a c = absurd (a v refl)
plain (bson.Binary v) d a c = refl
plain bson.Undefined d a c = refl
plain (bson.ObjectId v) d a c = refl
plain (bson.Boolean v) d a c = refl
plain (bson.DateTime v) d a c = refl
plain bson.Null d a c = refl
plain (bson.Regex v) d a c = refl
plain (bson.DbPointer v) d a c = refl
plain (bson.Code v) d a c = refl
plain (bson.Symbol v) d a c = refl
plain (bson.CodeWithScope v) d a c = absurd (c v refl)
plain (bson.Int32 v) d a c = refl
plain (bson.Timestamp v) d a c = refl
plain (bson.Int64 v) d a c = refl
plain (bson.Decimal128 v) d a c = refl
plain bson.MinKey d a c = refl
plain bson.MaxKey d a c = refl

pub plain_depth : (t : Tree) → is_plain t ≡ true → tree_depth t ≡ 0
plain_depth (double a) h = refl
plain_depth (string a) h = refl
plain_depth (document a) h = absurd cc
plain_depth (array a) h = absurd cc
plain_depth (binary a b) h = refl
plain_depth undefined h = refl
plain_depth (object_id a) h = refl
plain_depth (boolean a) h = refl
plain_depth (date_time a) h = refl
plain_depth null h = refl
plain_depth (regex a b) h = refl
plain_depth (db_pointer a b) h = refl
plain_depth (script a) h = refl
plain_depth (symbol a) h = refl
plain_depth (scoped a b) h = absurd cc
plain_depth (int32 a) h = refl
plain_depth (timestamp a b) h = refl
plain_depth (int64 a) h = refl
plain_depth (decimal128 a) h = refl
plain_depth min_key h = refl
plain_depth max_key h = refl

-- it is within any levels
pub plain_within : (t : Tree) (n : ℕ) → is_plain t ≡ true → true ≡ nat_le (tree_depth t) n
plain_within t n h = sym (le-leb (tree_depth t) n (omega (arith, plain_depth t h)))
