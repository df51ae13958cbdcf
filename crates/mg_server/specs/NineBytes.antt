-- A file of nine bytes in chunks of four, which were not inserted in their order.
use Rattle.std.specs.Prelude.{ℕ, ℤ, pos, List, [], ◌∷◌, codes}
use Rattle.mg_bson.specs.Tree.{Tree, binary, int32, int64, Fields}
use Rattle.mg_bson.specs.Literal.{◌⇒◌⨾◌, empty}
use Rattle.mg_server.specs.State.{State, nothing}
use Rattle.mg_server.specs.Files.{Bucket, chunks_space, files_space}

abbrev pub bucket : Bucket
bucket = record { db = codes "app"; name = codes "fs" }

abbrev pub seven : Tree
seven = int32 (pos 7)

abbrev pub nine_bytes : List ℕ
nine_bytes = 1 ∷ 2 ∷ 3 ∷ 4 ∷ 5 ∷ 6 ∷ 7 ∷ 8 ∷ 9 ∷ []

abbrev pub chunk : ℤ → Tree → ℤ → List ℕ → Fields
chunk id file n bytes = "_id" ⇒ int32 id ⨾ "files_id" ⇒ file ⨾ "n" ⇒ int32 n ⨾ "data" ⇒ binary 0 bytes ⨾ empty

abbrev pub file_record : Fields
file_record = "_id" ⇒ seven ⨾ "length" ⇒ int64 (pos 9) ⨾ "chunkSize" ⇒ int32 (pos 4) ⨾ empty

-- a server with this file, and with a chunk of another
abbrev pub holds_file : State
holds_file = record nothing {
  collections = record {
    space = chunks_space bucket;
    documents = chunk (pos 1) seven (pos 1) (5 ∷ 6 ∷ 7 ∷ 8 ∷ []) ∷ chunk (pos 2) (int32 (pos 8)) (pos 0) (1 ∷ []) ∷ chunk (pos 3) seven (pos 0) (1 ∷ 2 ∷ 3 ∷ 4 ∷ []) ∷ chunk (pos 4) seven (pos 2) (9 ∷ []) ∷ [];
    indexes = [];
  } ∷ record { space = files_space bucket; documents = file_record ∷ []; indexes = [] } ∷ [];
}
