-- What updates, deletes and indexes do to a collection (CRUD and index management specifications).
use Rattle.std.specs.Prelude.{Bool, true, false, Option, Some, None, List, [], ◌∷◌, ◌++◌, take, codes, if◌then◌else◌}
use Rattle.std.specs.List.{filter, list_any}
use Rattle.std.specs.Str.{bytes_eq}
use Rattle.mg_bson.specs.Tree.{Tree, Fields, no_fields, field}
use Rattle.mg_bson.specs.Bytes.{bytes}
use Rattle.mg_bson.specs.Find.{get, put, without}
use Rattle.mg_server.specs.Filter.{Condition, matches}
use Rattle.mg_server.specs.State.{Change, updates, replaces, Index}
use Rattle.mg_server.specs.Query.{id_index}

-- what an update makes of a document: it sets fields, or puts another document in its place
pub data Modification : Type 0 where
  sets : (fields : Fields) → Modification
  puts : (document : Fields) → Modification

-- each field in place of that of its name, or behind the others (`$set`: the value of a field is replaced, and a field that is not there is added)
abbrev pub with_fields : Fields → Fields → Fields
with_fields no_fields d = d
with_fields (field k t fs) d = with_fields fs (put k t d)

-- the `_id` stays, in front (replacements: the `_id` of a document does not change)
abbrev pub with_id : Option Tree → Fields → Fields
with_id None d = without (codes "_id") d
with_id (Some id) d = field (codes "_id") id (without (codes "_id") d)

abbrev pub modified : Modification → Fields → Fields
modified (sets new) d = with_fields new d
modified (puts document) d = with_id (get (codes "_id") d) document

-- what the entry of a modified document tells of
abbrev pub change_of : Modification → Change
change_of (sets new) = updates
change_of (puts document) = replaces

-- those that a write is for: all that match, or the first (update command: `multi` updates all documents that match, and otherwise one; delete command: `limit`)
abbrev pub chosen : List Condition → Bool → List Fields → List Fields
chosen conditions many ds = if many then filter (matches conditions) ds else take 1 (filter (matches conditions) ds)

abbrev pub differs : Fields → Fields → Bool
differs d e = if bytes_eq (bytes d) (bytes e) then false else true

-- those of them that the update does not leave equal
abbrev pub changing : List Condition → Bool → Modification → List Fields → List Fields
changing conditions many m ds = filter (λ d. differs d (modified m d)) (chosen conditions many ds)

-- the documents behind an update
abbrev pub after_update : List Condition → Bool → Modification → List Fields → List Fields
after_update conditions many m [] = []
after_update conditions many m (d ∷ ds) = if matches conditions d then modified m d ∷ (if many then after_update conditions many m ds else ds) else d ∷ after_update conditions many m ds

-- the documents behind a delete
abbrev pub after_delete : List Condition → Bool → List Fields → List Fields
after_delete conditions many [] = []
after_delete conditions many (d ∷ ds) = if matches conditions d then (if many then after_delete conditions many ds else ds) else d ∷ after_delete conditions many ds

-- an index whose name is there is passed over (createIndexes command: an index that exists is not made again)
abbrev pub with_index : List Index → Index → List Index
with_index there i = if list_any (λ (j : Index). bytes_eq j.name i.name) (id_index ∷ there) then there else there ++ i ∷ []

abbrev pub with_indexes : List Index → List Index → List Index
with_indexes there [] = there
with_indexes there (i ∷ is) = with_indexes (with_index there i) is
