-- Whole numbers in commands, replies and records.
use Rattle.std.specs.Prelude.{ℕ, ℤ, pos, Option, Some, None, option_and_then, List}
use Rattle.mg_bson.specs.Tree.{Tree, Fields, int32, int64}
use Rattle.mg_bson.specs.Find.{as_int32, get}

-- a whole number, in 32 or 64 bits
abbrev pub as_integer : Tree → Option ℤ
as_integer (int32 z) = Some z
as_integer (int64 z) = Some z
as_integer _ = None

-- a number that is not negative
abbrev pub as_count : ℤ → Option ℕ
as_count (pos n) = Some n
as_count _ = None

abbrev pub count_of : Tree → Option ℕ
count_of t = option_and_then as_count (as_integer t)

-- the 32-bit number under a name
abbrev pub number_at : List ℕ → Fields → Option ℤ
number_at name d = option_and_then as_int32 (get name d)
