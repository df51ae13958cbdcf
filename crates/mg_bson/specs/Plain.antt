-- Values that hold no other values.
use Rattle.std.specs.Prelude.{Bool, true, false}
use Rattle.mg_bson.specs.Tree.{Tree, document, array, scoped}

-- the value is no document, no array and no scope
abbrev pub is_plain : Tree → Bool
is_plain (document a) = false
is_plain (array a) = false
is_plain (scoped a b) = false
is_plain _ = true
