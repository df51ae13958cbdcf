-- The indexes of a bucket (GridFS specification, "Index Creation": one on the files collection by `filename` and `uploadDate`, and one on the chunks collection by `files_id` and `n`; they are equivalent to others regardless of the numeric type of their values).
use Rattle.std.specs.Prelude.{◌&&◌, ◌==◌, ℕ, pos, Bool, false, List, Option, Some, codes}
use Rattle.std.specs.Ordering.{int_eq}
use Rattle.std.specs.Str.{bytes_eq}
use Rattle.mg_bson.specs.Find.{fields_length, get}
use Rattle.mg_bson.specs.Literal.{◌⇒◌⨾◌, empty}
use Rattle.mg_bson.specs.Tree.{Fields, Tree, double, int32, int64}
use Rattle.mg_link.specs.Namespace.{Space}
use Rattle.mg_link.specs.Reply.{one}
use Rattle.mg_gridfs.specs.Buckets.{ClientBucket}
use Rattle.mg_gridfs.specs.declared.indexes.Place.{Place}
use Rattle.mg_gridfs.specs.declared.indexes.Place.TheVariants as place

-- the collection that an index is kept for
abbrev pub space_in : ClientBucket → Place → Space
space_in b place.Files = b.files
space_in b place.Chunks = b.chunks

-- its keys, each in rising order
abbrev pub keys_of : Place → Fields
keys_of place.Files = "filename" ⇒ int32 (pos 1) ⨾ "uploadDate" ⇒ int32 (pos 1) ⨾ empty
keys_of place.Chunks = "files_id" ⇒ int32 (pos 1) ⨾ "n" ⇒ int32 (pos 1) ⨾ empty

abbrev pub first_key : Place → List ℕ
first_key place.Files = codes "filename"
first_key place.Chunks = codes "files_id"

abbrev pub second_key : Place → List ℕ
second_key place.Files = codes "uploadDate"
second_key place.Chunks = codes "n"

-- a key in rising order, as a number of any kind
abbrev pub rises : Option Tree → Bool
rises (Some (int32 n)) = int_eq n (pos 1)
rises (Some (int64 n)) = int_eq n (pos 1)
rises (Some (double bits)) = bytes_eq bits one
rises _ = false

-- the keys are as many, and each name of the index has an equal value
abbrev pub are_keys : Place → Fields → Bool
are_keys k keys = (fields_length keys == 2) && (rises (get (first_key k) keys) && rises (get (second_key k) keys))
