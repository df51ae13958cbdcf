-- Files in a server's collections (GridFS specification: the files collection, the chunks collection).
use Rattle.std.specs.Prelude.{◌≡◌, ◌≤◌, ℕ, suc, ◌+◌, pos, true, false, Some, option_and_then, List, [], ◌∷◌, ◌++◌, length, take, slice_get, Contains, codes}
use Rattle.std.specs.List.{filter}
use Rattle.mg_bson.specs.Tree.{Tree, binary, Fields, no_items, item}
use Rattle.mg_bson.specs.Find.{get}
use Rattle.mg_link.specs.Namespace.{Space}
use Rattle.mg_link.specs.Chunks.{chunked}
use Rattle.mg_server.specs.Filter.{Condition, matches, meets}
use Rattle.mg_server.specs.State.{State, is_space}
use Rattle.mg_link.specs.Numbers.{as_integer, number_at}
use Rattle.mg_server.specs.Commands.{Asked, asks_create, asks_delete, asks_drop, asks_indexes, asks_insert, asks_kill, asks_more, asks_other, asks_query, asks_update, asks_watch}
use Rattle.mg_server.specs.Step.{documents_of}
use Rattle.mg_server.specs.History.{Step, state_of, step_after}
use Rattle.mg_server.specs.Query.{Key, sorted}
use Rattle.mg_server.specs.Write.{modified}

-- ---- the file of an id

pub record Bucket : Type 0 where
  pub db : List ℕ
  pub name : List ℕ

abbrev pub files_space : Bucket → Space
files_space b = record { db = b.db; coll = b.name ++ codes ".files" }

abbrev pub chunks_space : Bucket → Space
chunks_space b = record { db = b.db; coll = b.name ++ codes ".chunks" }

-- a document has this value under the name
abbrev pub has_value : List ℕ → Tree → Condition
has_value name value = record { name = name; values = item value no_items }

-- those of the documents
abbrev pub with_value : List ℕ → Tree → List Fields → List Fields
with_value name value ds = filter (meets (has_value name value)) ds

abbrev pub by_number : List Key
by_number = record { name = codes "n"; rising = true } ∷ []

-- the records that have an id, and the chunks that name it, in the order of their numbers
pub record File : Type 0 where
  pub records : List Fields
  pub chunks : List Fields

unfoldable pub file_of : State → Bucket → Tree → File
file_of s b id = record {
  records = with_value (codes "_id") id (documents_of s (files_space b));
  chunks = sorted by_number (with_value (codes "files_id") id (documents_of s (chunks_space b)));
}

-- ---- whole files

-- a number in 32 bits
pub record IsChunk (n : ℕ) (bytes : List ℕ) (d : Fields) : Type 0 where
  pub number_is : number_at (codes "n") d ≡ Some (pos n)
  pub data_is : get (codes "data") d ≡ Some (binary 0 bytes)

-- the documents are these chunks, numbered from n on
abbrev pub AreChunks : ℕ → List (List ℕ) → List Fields → Type 0
AreChunks n [] [] = Unit {0}
AreChunks n (c ∷ cs) (d ∷ ds) = IsChunk n c d × AreChunks (suc n) cs ds
AreChunks n [] (d ∷ ds) = ⊥
AreChunks n (c ∷ cs) [] = ⊥

-- there is one record with the length of the bytes and the size of the chunks, and the chunks are those of the bytes (GridFS: `length` is the size of the file in bytes, `chunkSize` that of its chunks)
pub record IsWhole (s : State) (b : Bucket) (id : Tree) (bytes : List ℕ) (size : ℕ) : Type 0 where
  pub record_of : Fields
  pub alone : (file_of s b id).records ≡ record_of ∷ []
  pub length_is : option_and_then as_integer (get (codes "length") record_of) ≡ Some (pos (length bytes))
  pub size_is : number_at (codes "chunkSize") record_of ≡ Some (pos size)
  pub chunks_are : AreChunks 0 (chunked size bytes) (file_of s b id).chunks

-- ---- steps of others

-- a step leaves those documents of a collection that meet a condition
abbrev pub LeavesThose : State → Step → Space → Condition → Type 0
LeavesThose s step space c = filter (meets c) (documents_of (step_after s step) space) ≡ filter (meets c) (documents_of s space)

-- a step leaves the file as it was
abbrev pub LeavesFile : State → Step → Bucket → Tree → Type 0
LeavesFile s step b id = file_of (step_after s step) b id ≡ file_of s b id

-- no document of the list meets the condition
abbrev pub NoneMeets : Condition → List Fields → Type 0
NoneMeets c [] = Unit {0}
NoneMeets c (d ∷ ds) = (meets c d ≡ false) × NoneMeets c ds

-- whatever stands there, a command writes, changes and removes no document of the collection that meets the condition
abbrev pub Spares : Asked → Space → Condition → Type 0
Spares (asks_insert space documents ordered) at c = is_space at space ≡ true → NoneMeets c documents
Spares (asks_update space conditions m many) at c = is_space at space ≡ true → (d : Fields) → matches conditions d ≡ true → (meets c d ≡ false) × (meets c (modified m d) ≡ false)
Spares (asks_delete space conditions many) at c = is_space at space ≡ true → (d : Fields) → matches conditions d ≡ true → meets c d ≡ false
Spares (asks_drop space) at c = is_space at space ≡ false
Spares (asks_query query) at c = Unit {0}
Spares (asks_watch watch start) at c = Unit {0}
Spares (asks_more id space) at c = Unit {0}
Spares (asks_kill ids) at c = Unit {0}
Spares (asks_create space) at c = Unit {0}
Spares (asks_indexes space indexes) at c = Unit {0}
Spares asks_other at c = Unit {0}

-- none of the steps from one position to another changes the file, but for those of a list
abbrev pub IsQuiet : List Step → List ℕ → Bucket → Tree → (from upto : ℕ) → Type 0
IsQuiet history own b id from upto = (position : ℕ) (step : Step) → from ≤ position → position ≤ upto → (Contains own position → ⊥) → slice_get history position ≡ Some step → LeavesFile (state_of (take position history)) step b id
