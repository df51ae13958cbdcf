-- Whether parts of a document have at most so many levels.
use Rattle.std.proofs.Common.{ℕ, ◌≤◌, List, drop}
use Rattle.mg_bson.specs.Bytes.{fields_depth, items_depth}
use Rattle.mg_bson.specs.View.{fields_of, items_of}
use Rattle.mg_bson.specs.declared.tree.Bson.{Bson}
use Rattle.mg_bson.specs.declared.tree.Field.{Field}

-- the fields from the index on are within the levels just where all are
pub record SameFields (n : ℕ) (fs : List Field) (i : ℕ) : Type 0 where
  pub lower : fields_depth (fields_of (drop i fs)) ≤ fields_depth (fields_of fs)
  pub upper : fields_depth (fields_of (drop i fs)) ≤ n → fields_depth (fields_of fs) ≤ n

-- the same of items
pub record SameItems (n : ℕ) (ts : List Bson) (i : ℕ) : Type 0 where
  pub lower : items_depth (items_of (drop i ts)) ≤ items_depth (items_of ts)
  pub upper : items_depth (items_of (drop i ts)) ≤ n → items_depth (items_of ts) ≤ n
