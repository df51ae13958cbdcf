-- Numbers of documents under encodings: that of the file, and that followed by that of the number in the file.
use Rattle.std.specs.declared.alloc.Global.{Global}
use Rattle.std.specs.Prelude.{◌≡◌, ℕ, ◌<◌, Bool, true, false, ◌&&◌, List, [], ◌∷◌, ◌++◌, map, Option, Some, None, option_map, codes, Vec}
use Rattle.std.specs.List.{AllByRecursion, list_any}
use Rattle.std.specs.Ordering.{is_eq, nat_cmp}
use Rattle.std.specs.Str.{bytes_eq}
use Rattle.mg_bson.specs.Tree.{Tree, Fields}
use Rattle.mg_bson.specs.Find.{get}
use Rattle.mg_bson.specs.Raw.{fields}
use Rattle.mg_server.specs.Filter.{key}
use Rattle.mg_query.specs.declared.groups.Groups.{Groups}

-- the encoding is this, and the number too
abbrev pub is_member : List ℕ → ℕ → Vec ℕ Global × ℕ → Bool
is_member k n p = bytes_eq p.0.items k && is_eq (nat_cmp p.1 n)

-- the number stands under the encoding
abbrev pub stands : Groups → List ℕ → ℕ → Bool
stands ps k n = list_any (is_member k n) ps.numbers.keys

-- the encoding of the file of a document
abbrev pub file_key : Fields → Option (List ℕ)
file_key d = option_map key (get (codes "files_id") d)

abbrev pub followed : Option (List ℕ) → Option Tree → Option (List ℕ)
followed None n = None
followed (Some file) None = None
followed (Some file) (Some n) = Some (file ++ key n)

-- that followed by the encoding of its number in the file
abbrev pub chunk_key : Fields → Option (List ℕ)
chunk_key d = followed (file_key d) (get (codes "n") d)

abbrev pub StandsAt : Groups → ℕ → Option (List ℕ) → Type 0
StandsAt ps n None = Unit {0}
StandsAt ps n (Some k) = stands ps k n ≡ true

-- the number of a document stands under both
abbrev pub IsGrouped : Groups → ℕ → Fields → Type 0
IsGrouped ps n d = StandsAt ps n (file_key d) × StandsAt ps n (chunk_key d)

-- each of the first followed by each of the second
abbrev pub paired : List (Vec ℕ Global) → List (Vec ℕ Global) → List (List ℕ)
paired [] ns = []
paired (f ∷ fs) ns = map (λ (n : Vec ℕ Global). f.items ++ n.items) ns ++ paired fs ns

-- where none is missing each document stands there
abbrev pub AreGrouped : Groups → List (ℕ × List ℕ) → Type 0
AreGrouped ps es = ps.is_whole ≡ true → AllByRecursion (λ (e : ℕ × List ℕ). IsGrouped ps e.0 (fields e.1)) es

-- what stood there still does
pub record KeepsGroups (old new : Groups) : Type 0 where
  pub whole : new.is_whole ≡ old.is_whole
  pub stay : (k : List ℕ) (n : ℕ) → stands old k n ≡ true → stands new k n ≡ true

-- but for this number
pub record KeepsOthers (m : ℕ) (old new : Groups) : Type 0 where
  pub whole : new.is_whole ≡ true → old.is_whole ≡ true
  pub stay : (k : List ℕ) (n : ℕ) → is_eq (nat_cmp m n) ≡ false → stands old k n ≡ true → stands new k n ≡ true

-- but for the numbers from this on
pub record KeepsBelow (m : ℕ) (old new : Groups) : Type 0 where
  pub whole : new.is_whole ≡ old.is_whole
  pub stay : (k : List ℕ) (n : ℕ) → n < m → stands old k n ≡ true → stands new k n ≡ true
