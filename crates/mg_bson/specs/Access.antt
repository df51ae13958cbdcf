-- The first value of a name, read as one kind.
use Rattle.std.specs.Prelude.{ℕ, List, Bool, false, Option, Some, None, option_map, unwrap_or, Result, Err, ok_or}
use Rattle.mg_bson.specs.Tree.{Tree, Fields}
use Rattle.mg_bson.specs.Find.{get, is_null}
use Rattle.mg_bson.specs.declared.access.ValueAccessError.{ValueAccessError}
use Rattle.mg_bson.specs.declared.access.ValueAccessError.TheVariants.{NotPresent, UnexpectedType}

-- what the reader of a kind finds, or why there is nothing
abbrev pub found_as : {A : Type 0} → (Tree → Option A) → Option Tree → Result A ValueAccessError
found_as read None = Err NotPresent
found_as read (Some t) = ok_or (read t) UnexpectedType

-- the first value of the name, by the reader of a kind, or why there is none
abbrev pub get_as : {A : Type 0} → (Tree → Option A) → List ℕ → Fields → Result A ValueAccessError
get_as read k d = found_as read (get k d)

-- whether the first value of the name is null
abbrev pub has_null : List ℕ → Fields → Bool
has_null k d = unwrap_or (option_map is_null (get k d)) false
