-- What an upload stores, and the commands of uploads and downloads as lists of fields (GridFS specification, "Files collection documents", "Chunks collection documents", "File Upload", "File Download" and "Index Creation").
use Rattle.std.specs.Prelude.{◌≡◌, ◌⊎◌, ℕ, ℤ, pos, negsuc, false, true, Bool, List, [], ◌∷◌, suc, Option, Some, None}
use Rattle.mg_bson.specs.Bytes.{bytes}
use Rattle.mg_bson.specs.Literal.{◌⇒◌⨾◌, empty}
use Rattle.mg_bson.specs.Raw.{fields}
use Rattle.mg_bson.specs.Tree.{Fields, Tree, binary, date_time, document, int32, int64, object_id, string}
use Rattle.mg_link.specs.Exec.{Sending, Stage, unsent, IsFirstTry}
use Rattle.mg_link.specs.Namespace.{Space}
use Rattle.mg_link.specs.declared.concern.ReadConcern.{ReadConcern}
use Rattle.mg_link.specs.declared.concern.WriteConcern.{WriteConcern}
use Rattle.mg_link.specs.declared.error.Error.{Error}
use Rattle.mg_options.specs.Copies.{SameIn, level_of}
use Rattle.mg_options.specs.Fields.{Line, Refuses, fields_in, first_unfit}
use Rattle.mg_options.specs.declared.find.FindOptions.{FindOptions}
use Rattle.mg_options.specs.declared.writes.InsertManyOptions.{InsertManyOptions}
use Rattle.mg_ops.specs.Bodies.{create_body, create_indexes_body, delete_body, find_body, insert_body, list_indexes_body}
use Rattle.mg_ops.specs.Failing.{CannotBeSent, CannotInsert}
use Rattle.mg_ops.specs.Given.{◌⇢◌⨾◌}
use Rattle.mg_ops.specs.Plain.{plain_delete, plain_find, plain_index, plain_indexes, plain_insert}
use Rattle.mg_chunks.specs.Filters.{of_file}
use Rattle.mg_gridfs.specs.Buckets.{ClientBucket}
use Rattle.mg_gridfs.specs.Indexes.{keys_of, space_in}
use Rattle.mg_gridfs.specs.declared.indexes.Place.{Place}

-- ---- documents

-- a chunk: its own id, the file that it is of, its number from 0 on, and its bytes
abbrev pub chunk_document : List ℕ → Tree → ℕ → List ℕ → Fields
chunk_document id file n bytes = "_id" ⇒ object_id id ⨾ "files_id" ⇒ file ⨾ "n" ⇒ int32 (pos n) ⨾ "data" ⇒ binary 0 bytes ⨾ empty

-- Pieces of bytes as chunks of a file, numbered from one on. Their ids are those of a source, from one on.
abbrev pub chunk_documents : (ℕ → List ℕ) → ℕ → Tree → ℕ → List (List ℕ) → List Fields
chunk_documents ids k file n [] = []
chunk_documents ids k file n (bytes ∷ more) = chunk_document (ids k) file n bytes ∷ chunk_documents ids (suc k) file (suc n) more

abbrev pub metadata_value : Option Fields → Option Tree
metadata_value None = None
metadata_value (Some known) = Some (document known)

-- the record of a file, whose length counts its bytes
abbrev pub record_document : Tree → ℕ → ℕ → ℤ → List ℕ → Option Fields → Fields
record_document id length size moment filename metadata =
    "_id" ⇒ id ⨾ "length" ⇒ int64 (pos length) ⨾ "chunkSize" ⇒ int32 (pos size) ⨾ "uploadDate" ⇒ date_time moment ⨾ "filename" ⇒ string filename ⨾ "metadata" ⇢ metadata_value metadata ⨾ empty

-- ---- writes

abbrev pub insert_options : Option WriteConcern → InsertManyOptions
insert_options writes = record plain_insert { write_concern = writes }

-- inserts documents into a collection of the bucket
abbrev pub insertion : ClientBucket → Space → List Fields → List Line
insertion b space documents = insert_body space documents (insert_options b.writes) None

-- inserts chunks
abbrev pub chunks_lines : ClientBucket → List Fields → List Line
chunks_lines b documents = insertion b b.chunks documents

-- inserts the record of a file
abbrev pub record_lines : ClientBucket → Fields → List Line
record_lines b record_of = insertion b b.files (record_of ∷ [])

-- removes all chunks of a file, and nothing else
abbrev pub deletion_lines : ClientBucket → Tree → List Line
deletion_lines b id = delete_body b.chunks (of_file id) true (plain_delete b.writes) None

-- ---- the index check

-- one record with its id alone, from the primary
abbrev pub any_options : Option ReadConcern → FindOptions
any_options reads = record plain_find { limit = Some (negsuc 0); projection = Some ("_id" ⇒ int32 (pos 1) ⨾ empty); read_concern = reads }

-- asks whether the bucket holds a file
abbrev pub any_lines : ClientBucket → List Line
any_lines b = find_body b.files empty (any_options b.reads) None

-- creates one of the collections
abbrev pub creation_lines : ClientBucket → Place → List Line
creation_lines b place = create_body (space_in b place) b.writes None

-- lists its indexes
abbrev pub listing_lines : ClientBucket → Place → List Line
listing_lines b place = list_indexes_body (space_in b place) plain_indexes None

-- creates its index
abbrev pub index_lines : ClientBucket → Place → List Line
index_lines b place = create_indexes_body (space_in b place) (keys_of place) (plain_index b.writes) None

-- ---- downloads

-- what is read, and who may be asked
abbrev pub reading_options : ClientBucket → FindOptions
reading_options b = record plain_find { read_concern = b.reads; selection_criteria = b.asks }

-- the same options, with a copy of what is read
pub record SameReading (o p : FindOptions) : Type 0 where
  pub reads_so : SameIn level_of o.read_concern p.read_concern
  pub rest : p ≡ record o { read_concern = p.read_concern }

-- the record of a file
abbrev pub by_id : Tree → Fields
by_id id = "_id" ⇒ document ("$eq" ⇒ id ⨾ empty) ⨾ empty

-- asks for the record of a file
abbrev pub found_lines : ClientBucket → Tree → List Line
found_lines b id = find_body b.files (by_id id) (record (reading_options b) { limit = Some (negsuc 0) }) None

-- by their numbers
abbrev pub in_order : Fields
in_order = "n" ⇒ int32 (pos 1) ⨾ empty

-- asks for the chunks of a file, in the order of their numbers
abbrev pub listed_lines : ClientBucket → Tree → List Line
listed_lines b id = find_body b.chunks (of_file id) (record (reading_options b) { sort = Some in_order }) None

-- ---- requests

-- why a command is not built: an argument is outside its range, or it cannot be sent
abbrev pub CannotSend : List Line → Error → Type 0
CannotSend lines e = Refuses (first_unfit lines) e ⊎ CannotBeSent (fields_in lines) e

-- why an insert is not built: besides, one of the documents cannot be stored
abbrev pub CannotStore : List Line → List Fields → Error → Type 0
CannotStore lines documents e = CannotInsert (first_unfit lines) documents e ⊎ CannotBeSent (fields_in lines) e

-- a command that was not sent yet, and whether it is sent once more where its first attempt is lost
pub record IsEncoded (command : Fields) (again : Bool) (sending : Sending) : Type 0 where
  pub bytes_are : sending.command ≡ bytes command
  pub command_is : fields sending.command ≡ command
  pub retries_is : sending.retries ≡ again
  pub new : sending.stage ≡ unsent

abbrev pub IsNewRequest : Bool → List Line → Sending → Type 0
IsNewRequest again lines sending = IsEncoded (fields_in lines) again sending

-- a write is at its first attempt
abbrev pub IsTry : Bool → Stage → Type 0
IsTry true stage = Unit {0}
IsTry false stage = IsFirstTry stage

-- a command that is to be sent, or waits for its reply
pub record IsRequest (again : Bool) (lines : List Line) (sending : Sending) : Type 0 where
  pub command_is : fields sending.command ≡ fields_in lines
  pub retries_is : sending.retries ≡ again
  pub at : IsTry again sending.stage
