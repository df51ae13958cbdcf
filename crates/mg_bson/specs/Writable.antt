-- Which documents may be encoded, and why others are not.
use Rattle.std.specs.Prelude.{◌≡◌, ℕ, zero, suc, ◌^◌, ◌<◌, ◌≤◌, List, [], ◌∷◌, length, Bool, true, false, ◌||◌, FitsSigned}
use Rattle.std.specs.Int.{w32, w64}
use Rattle.std.specs.Str.{IsUtf8}
use Rattle.mg_bson.specs.Tree.{Tree, double, string, document, array, binary, undefined, object_id, boolean, date_time, null, regex, db_pointer, script, symbol, scoped, int32, timestamp, int64, decimal128, min_key, max_key, Fields, no_fields, field, Items, no_items, item}
use Rattle.mg_bson.specs.Bytes.{bytes, levels}
use Rattle.mg_bson.specs.declared.error.BsonError.{BsonError}
use Rattle.mg_bson.specs.declared.error.BsonError.TheVariants.{OutOfMemory, Malformed, TooLarge, TooDeep, BadName}

-- some byte is 0
abbrev pub has_zero : List ℕ → Bool
has_zero [] = false
has_zero (zero ∷ bs) = true
has_zero (suc b ∷ bs) = has_zero bs

-- a text without a 0, which can be a name (BSON: cstring)
pub record IsName (k : List ℕ) : Type 0 where
  pub text : IsUtf8 k
  pub no_zero : has_zero k ≡ false

-- texts are UTF-8, numbers fit their types, and names hold no 0
abbrev mutual
  pub IsSound : Tree → Type 0
  IsSound (double a) = length a ≡ 8
  IsSound (string a) = IsUtf8 a
  IsSound (document a) = AreSound a
  IsSound (array a) = AreSoundItems a
  IsSound (binary a b) = Unit {0}
  IsSound undefined = Unit {0}
  IsSound (object_id a) = length a ≡ 12
  IsSound (boolean a) = Unit {0}
  IsSound (date_time a) = FitsSigned w64 a
  IsSound null = Unit {0}
  IsSound (regex a b) = IsName a × IsName b
  IsSound (db_pointer a b) = IsUtf8 a × (length b ≡ 12)
  IsSound (script a) = IsUtf8 a
  IsSound (symbol a) = IsUtf8 a
  IsSound (scoped a b) = IsUtf8 a × AreSound b
  IsSound (int32 a) = FitsSigned w32 a
  IsSound (timestamp a b) = (a < 2 ^ 32) × (b < 2 ^ 32)
  IsSound (int64 a) = FitsSigned w64 a
  IsSound (decimal128 a) = length a ≡ 16
  IsSound min_key = Unit {0}
  IsSound max_key = Unit {0}

  pub AreSound : Fields → Type 0
  AreSound no_fields = Unit {0}
  AreSound (field k t fs) = IsName k × IsSound t × AreSound fs

  pub AreSoundItems : Items → Type 0
  AreSoundItems no_items = Unit {0}
  AreSoundItems (item t ts) = IsSound t × AreSoundItems ts

-- some name, or text of a regular expression, holds a 0
abbrev mutual
  pub has_bad_name : Tree → Bool
  has_bad_name (double a) = false
  has_bad_name (string a) = false
  has_bad_name (document a) = fields_have_bad_name a
  has_bad_name (array a) = items_have_bad_name a
  has_bad_name (binary a b) = false
  has_bad_name undefined = false
  has_bad_name (object_id a) = false
  has_bad_name (boolean a) = false
  has_bad_name (date_time a) = false
  has_bad_name null = false
  has_bad_name (regex a b) = has_zero a || has_zero b
  has_bad_name (db_pointer a b) = false
  has_bad_name (script a) = false
  has_bad_name (symbol a) = false
  has_bad_name (scoped a b) = fields_have_bad_name b
  has_bad_name (int32 a) = false
  has_bad_name (timestamp a b) = false
  has_bad_name (int64 a) = false
  has_bad_name (decimal128 a) = false
  has_bad_name min_key = false
  has_bad_name max_key = false

  pub fields_have_bad_name : Fields → Bool
  fields_have_bad_name no_fields = false
  fields_have_bad_name (field k t fs) = has_zero k || (has_bad_name t || fields_have_bad_name fs)

  pub items_have_bad_name : Items → Bool
  items_have_bad_name no_items = false
  items_have_bad_name (item t ts) = has_bad_name t || items_have_bad_name ts

-- the most bytes of a document
abbrev pub max_len : ℕ
max_len = 48000000

-- the most levels of a document
abbrev pub max_levels : ℕ
max_levels = 100

-- the document may be encoded: it is well formed and within the limits
pub record IsWritable (d : Fields) : Type 0 where
  pub sound : AreSound d
  pub shallow : levels d ≤ max_levels
  pub short : length (bytes d) ≤ max_len

-- why a document is not encoded
abbrev pub Refuses : BsonError → Fields → Type 0
Refuses OutOfMemory d = Unit {0}
Refuses Malformed d = ⊥
Refuses TooLarge d = max_len < length (bytes d)
Refuses TooDeep d = max_levels < levels d
Refuses BadName d = fields_have_bad_name d ≡ true
