-- What may be sent.
use Rattle.std.specs.Prelude.{◌≡◌, ◌⊎◌, ◌<◌, ◌≤◌, ◌^◌, ℕ, List, [], ◌∷◌, length, true, Option, Some, None}
use Rattle.mg_bson.specs.Tree.{Fields}
use Rattle.mg_bson.specs.Bytes.{bytes, levels}
use Rattle.mg_bson.specs.Writable.{IsWritable, fields_have_bad_name, max_levels}

-- the most bytes of a stored document
abbrev pub max_stored : ℕ
max_stored = 16777216

-- the most documents of one insert command
abbrev pub max_documents : ℕ
max_documents = 100000

-- why a document of at most so many bytes cannot be sent: it is too large or too deep, or a name or a text of a regular expression holds a 0
abbrev pub PassesLimit : ℕ → Fields → Type 0
PassesLimit most d = (most < length (bytes d)) ⊎ (max_levels < levels d) ⊎ (fields_have_bad_name d ≡ true)

-- a document may be stored
pub record IsStorable (d : Fields) : Type 0 where
  pub writable : IsWritable d
  pub short : length (bytes d) ≤ max_stored

abbrev pub AreStorable : List Fields → Type 0
AreStorable [] = Unit {0}
AreStorable (d ∷ ds) = IsStorable d × AreStorable ds

-- some document may not be stored
abbrev pub SomePassLimit : List Fields → Type 0
SomePassLimit [] = ⊥
SomePassLimit (d ∷ ds) = PassesLimit max_stored d ⊎ SomePassLimit ds

-- the size of a batch that the server takes
abbrev pub SizeFits : Option ℕ → Type 0
SizeFits None = Unit {0}
SizeFits (Some n) = n < 2 ^ 31

abbrev pub SizePasses : Option ℕ → Type 0
SizePasses None = ⊥
SizePasses (Some n) = 2 ^ 31 ≤ n

-- the documents of one insert command
pub record MayInsert (documents : List Fields) : Type 0 where
  pub some : 1 ≤ length documents
  pub few : length documents ≤ max_documents
  pub storable : AreStorable documents
