-- The labels of an error.
use Rattle.std.specs.Prelude.{ℕ, List, [], Bool, map, string_bytes, Option, Some, None, String}
use Rattle.std.specs.Global.{Vec, Global}
use Rattle.std.specs.List.{list_any}
use Rattle.std.specs.Str.{bytes_eq}

-- the words of a list that is kept only where it has one
abbrev pub words_of : Option (Vec (String Global)) → List (List ℕ)
words_of None = []
words_of (Some words) = map string_bytes words.items

-- the label is among them
abbrev pub has_label : List ℕ → List (List ℕ) → Bool
has_label label labels = list_any (bytes_eq label) labels
