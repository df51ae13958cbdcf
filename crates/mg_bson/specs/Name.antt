-- What the name of a field is kept as. No public clause cites this module.
use Rattle.std.specs.Prelude.{ℕ, ◌≤◌, List, take, string_bytes, IsUtf8}
use Rattle.mg_bson.specs.declared.name.Letters.{Letters}
use Rattle.mg_bson.specs.declared.name.Letters.TheVariants.{Short, Long}

-- the bytes of a name
abbrev pub letters_of : Letters → List ℕ
letters_of (Short n bs) = take n bs
letters_of (Long s) = string_bytes s

-- those of a short one are a text
abbrev pub IsText : Letters → Type 0
IsText (Short n bs) = (n ≤ 23) × ∥ IsUtf8 (take n bs) ∥₁
IsText (Long s) = Unit {0}
