-- What the answers of an upload are caused by, over all polls of a call.
use Rattle.std.specs.Prelude.{◌≡◌, ◌≢◌, ◌⊎◌, ◌<◌, ◌≤◌, ◌+◌, ◌*◌, ◌^◌, ℕ, ℤ, false, true, List, [], ◌∷◌, length, Option, Some, None}
use Rattle.mg_bson.specs.Raw.{fields}
use Rattle.mg_bson.specs.Tree.{Fields}
use Rattle.mg_server.specs.Calls.{Flies, HeardBy, Keeps, Past, RequestFails, past_of}
use Rattle.mg_link.specs.Errors.{command_code, plain}
use Rattle.mg_link.specs.Exec.{IsSuccess}
use Rattle.mg_link.specs.Chunks.{chunked}
use Rattle.mg_link.specs.Link.{Awaited, LogTold}
use Rattle.mg_link.specs.Log.{Call, reply}
use Rattle.mg_link.specs.declared.error.Error.{Error}
use Rattle.mg_link.specs.declared.error.ErrorKind.TheVariants as kind
use Rattle.mg_options.specs.Fields.{Line, fields_in}
use Rattle.mg_ops.specs.Failing.{CannotBeSent}
use Rattle.mg_ops.specs.InsertCauses.{FitTogether}
use Rattle.mg_ops.specs.Limits.{max_documents}
use Rattle.mg_ops.specs.Writes.{FailedAs, NotInserted, WriteFails, Wrote, count_of}
use Rattle.mg_cursor.specs.Causes.{IsUnderway, TellsNoCursor}
use Rattle.mg_cursor.specs.Documents.{DocumentCursor}
use Rattle.mg_cursor.specs.Seeking.{SeekFails}
use Rattle.mg_records.specs.Readings.{FailsToRead, recorded}
use Rattle.mg_records.specs.Specifications.{index_of}
use Rattle.mg_gridfs.specs.Buckets.{ClientBucket}
use Rattle.mg_gridfs.specs.Calls.{TakesNoClose, TakesNoWrite, stream_closed, write_in_progress}
use Rattle.mg_gridfs.specs.Checks.{ClientCheck, creates, finds, indexes, lists, namespace_exists, reads}
use Rattle.mg_gridfs.specs.Commands.{CannotSend, CannotStore, any_lines, chunk_document, chunk_documents, chunks_lines, creation_lines, deletion_lines, index_lines, listing_lines, record_lines}
use Rattle.mg_gridfs.specs.Steps.{FailsToUndo}
use Rattle.mg_gridfs.specs.Uploads.{Aim, ClientUpload, Doing, Ending, Flight, Phase, begins, busy, by_check, by_command, checks, closed, ends, fills, idle, inserts, lands, lasts, record_of, records, removes, rests, undoes}
use Rattle.mg_gridfs.specs.declared.indexes.Place.{Place}
use Rattle.mg_gridfs.specs.declared.polls.Step2.{Step2}
use Rattle.mg_gridfs.specs.declared.polls.Step2.TheVariants as end
use Rattle.mg_gridfs.specs.declared.polls.WritePoll.{WritePoll}
use Rattle.mg_gridfs.specs.declared.polls.WritePoll.TheVariants as wrote

-- ---- the index check

-- a write lists a failure, or breaks its grammar
abbrev pub ListsFailure : List ℕ → Error → Type 0
ListsFailure bytes e = WriteFails (fields bytes) e

-- one of the commands of a check
pub data IsOfCheck (b : ClientBucket) (lines : List Line) : Type 0 where
  a_find : lines ≡ any_lines b → IsOfCheck b lines
  a_creation : (at : Place) → lines ≡ creation_lines b at → IsOfCheck b lines
  a_listing : (at : Place) → lines ≡ listing_lines b at → IsOfCheck b lines
  an_index : (at : Place) → lines ≡ index_lines b at → IsOfCheck b lines

-- why the check fails
pub data CheckFails (past : Past) (b : ClientBucket) (e : Error) : Type 0 where
  out_of_memory : e.kind ≡ kind.OutOfMemory → CheckFails past b e
  not_built : (lines : List Line) → IsOfCheck b lines → CannotSend lines e → CheckFails past b e
  by_find : RequestFails past (fields_in (any_lines b)) true TellsNoCursor e → CheckFails past b e
  -- that a collection is there is no failure
  by_creation : (at : Place) → RequestFails past (fields_in (creation_lines b at)) false ListsFailure e → command_code e.kind ≢ Some namespace_exists → CheckFails past b e
  by_listing : (at : Place) → RequestFails past (fields_in (listing_lines b at)) true TellsNoCursor e → CheckFails past b e
  -- the list is not read on: a getMore fails, an item is no document, or too many replies in a row came empty
  by_advance : (d : DocumentCursor) → SeekFails past None d e → CheckFails past b e
  -- an item of the list is no index
  no_index : (document : List ℕ) → FailsToRead (recorded (index_of (fields document))) e → CheckFails past b e
  too_many : e ≡ plain kind.TooManyDocuments → CheckFails past b e
  by_index : (at : Place) → RequestFails past (fields_in (index_lines b at)) false ListsFailure e → CheckFails past b e

-- how far a check has come
abbrev pub CheckUnderway : Awaited → Past → ClientBucket → ClientCheck → Type 0
CheckUnderway awaited past b (finds sending) = Flies awaited past (fields_in (any_lines b)) sending.stage
CheckUnderway awaited past b (creates at sending) = Flies awaited past (fields_in (creation_lines b at)) sending.stage
CheckUnderway awaited past b (lists at sending) = Flies awaited past (fields_in (listing_lines b at)) sending.stage
CheckUnderway awaited past b (reads at cursor found count) = IsUnderway awaited past cursor.cursor
CheckUnderway awaited past b (indexes at sending) = Flies awaited past (fields_in (index_lines b at)) sending.stage

-- ---- what an upload fails with first

-- the reply to an insert of these documents lists failures, or breaks its grammar
abbrev pub ListsFor : List Fields → List ℕ → Error → Type 0
ListsFor documents bytes e = NotInserted (length documents) (fields bytes) e

-- full chunks of a file, numbered from one on, as many as one command may hold
pub record ArePortion (aim : Aim) (documents : List Fields) : Type 0 where
  pub ids : ℕ → List ℕ
  pub first : ℕ
  pub count : ℕ
  pub bytes : List ℕ
  pub some : 0 < count
  pub few : count ≤ max_documents
  pub small : first + count ≤ 2 ^ 31
  pub even : length bytes ≡ count * aim.size
  pub these : documents ≡ chunk_documents ids 0 aim.id first (chunked aim.size bytes)
  pub together : FitTogether documents

-- what is left behind the full chunks of a file, as its last one
pub record IsRest (aim : Aim) (document : Fields) : Type 0 where
  pub id : List ℕ
  pub number : ℕ
  pub bytes : List ℕ
  pub some : bytes ≢ []
  pub short : length bytes < aim.size
  pub small : number + 1 ≤ 2 ^ 31
  pub this : document ≡ chunk_document id aim.id number bytes

pub data UploadFails (past : Past) (aim : Aim) (e : Error) : Type 0 where
  out_of_memory : e.kind ≡ kind.OutOfMemory → UploadFails past aim e
  -- the full chunks of a command, one of them, the last chunk, or the record, cannot be stored
  chunks_not_built : (documents : List Fields) → ArePortion aim documents → CannotStore (chunks_lines aim.bucket documents) documents e → UploadFails past aim e
  document_not_built : (id : List ℕ) (number : ℕ) (bytes : List ℕ) → length bytes ≡ aim.size → CannotBeSent (chunk_document id aim.id number bytes) e → UploadFails past aim e
  last_not_built : (document : Fields) → IsRest aim document → CannotStore (chunks_lines aim.bucket (document ∷ [])) (document ∷ []) e → UploadFails past aim e
  record_not_built : (ending : Ending) → CannotStore (record_lines aim.bucket (record_of aim ending)) (record_of aim ending ∷ []) e → UploadFails past aim e
  by_chunks : (documents : List Fields) → RequestFails past (fields_in (chunks_lines aim.bucket documents)) false (ListsFor documents) e → UploadFails past aim e
  by_record : (ending : Ending) → RequestFails past (fields_in (record_lines aim.bucket (record_of aim ending))) false (ListsFor (record_of aim ending ∷ [])) e → UploadFails past aim e
  -- the number of the last of the next chunks of a command passes the greatest
  too_large : (first count : ℕ) → first ≤ 2 ^ 31 → 0 < count → count ≤ max_documents → 2 ^ 31 < first + count → e ≡ plain kind.FileTooLarge → UploadFails past aim e

-- what the chunks are removed for: nothing in an abort
abbrev pub IsCausedFirst : Past → Aim → Option Error → Type 0
IsCausedFirst past aim None = Unit {0}
IsCausedFirst past aim (Some e) = UploadFails past aim e ⊎ (e ≡ write_in_progress)

-- ---- the removal of chunks

abbrev pub ListsFirst : List ℕ → Error → Type 0
ListsFirst bytes e = FailedAs (count_of (fields bytes)) (fields bytes) e

-- why the chunks are not removed
pub data RemovalFails (past : Past) (aim : Aim) (e : Error) : Type 0 where
  out_of_memory : e.kind ≡ kind.OutOfMemory → RemovalFails past aim e
  not_built : CannotSend (deletion_lines aim.bucket aim.id) e → RemovalFails past aim e
  by_deletion : RequestFails past (fields_in (deletion_lines aim.bucket aim.id)) false ListsFirst e → RemovalFails past aim e

-- the call heard that the chunks are removed
pub record HeardRemoved (past : Past) (aim : Aim) : Type 0 where
  pub bytes : List ℕ
  pub heard : HeardBy past (fields_in (deletion_lines aim.bucket aim.id)) (reply bytes)
  pub success : IsSuccess bytes
  pub n : ℕ
  pub wrote_so : Wrote (count_of (fields bytes)) (fields bytes) n

-- ---- how far a call has come

abbrev pub FlightUnderway : Awaited → Past → ClientBucket → Flight → Type 0
FlightUnderway awaited past b (by_check check) = CheckUnderway awaited past b check
FlightUnderway awaited past b (by_command sending) = Flies awaited past (fields sending.command) sending.stage

abbrev pub PhaseUnderway : Awaited → Past → Aim → Phase → Type 0
PhaseUnderway awaited past aim begins = Unit {0}
PhaseUnderway awaited past aim (checks check) = CheckUnderway awaited past aim.bucket check
PhaseUnderway awaited past aim fills = Unit {0}
PhaseUnderway awaited past aim (inserts sending count) = Flies awaited past (fields sending.command) sending.stage
PhaseUnderway awaited past aim (rests moment) = Unit {0}
PhaseUnderway awaited past aim (lasts sending ending) = Flies awaited past (fields sending.command) sending.stage
PhaseUnderway awaited past aim (ends ending) = Unit {0}
PhaseUnderway awaited past aim (records sending ending) = Flies awaited past (fields sending.command) sending.stage
PhaseUnderway awaited past aim (lands flight error) = FlightUnderway awaited past aim.bucket flight × IsCausedFirst past aim error
PhaseUnderway awaited past aim (undoes error) = IsCausedFirst past aim error
PhaseUnderway awaited past aim (removes sending error) = Flies awaited past (fields sending.command) sending.stage × IsCausedFirst past aim error

abbrev pub UnderwayBy : Awaited → Past → Aim → Doing → Type 0
UnderwayBy awaited past aim idle = Unit {0}
UnderwayBy awaited past aim (busy call phase) = PhaseUnderway awaited past aim phase
UnderwayBy awaited past aim closed = Unit {0}

abbrev pub IsUploading : Awaited → Past → ClientUpload → Type 0
IsUploading awaited past u = UnderwayBy awaited past u.aim u.doing

-- ---- answers

-- why a call of an upload fails
pub data CallFails (past : Past) (aim : Aim) (e : Error) : Type 0 where
  -- before the first chunk
  check_fails : CheckFails past aim.bucket e → CallFails past aim e
  -- memory ran out as the bytes of a write were taken
  not_taken : e ≡ plain kind.OutOfMemory → CallFails past aim e
  -- the chunks were removed, and this was the first error
  first_error : IsCausedFirst past aim (Some e) → HeardRemoved past aim → CallFails past aim e
  -- they were not
  not_removed : (original : Option Error) (d : Error) → IsCausedFirst past aim original → RemovalFails past aim d → FailsToUndo original d e → CallFails past aim e

abbrev pub WriteCame : Awaited → Past → ClientUpload → ClientUpload → WritePoll → Type 0
WriteCame awaited past u u' wrote.Pending = IsUploading awaited past u'
WriteCame awaited past u u' (wrote.Wrote n) = Unit {0}
WriteCame awaited past u u' (wrote.Failed e) = (TakesNoWrite u.doing × (e ≡ stream_closed)) ⊎ CallFails past u.aim e

abbrev pub CloseCame : Awaited → Past → ClientUpload → ClientUpload → Step2 → Type 0
CloseCame awaited past u u' end.Pending = IsUploading awaited past u'
CloseCame awaited past u u' end.Done = Unit {0}
CloseCame awaited past u u' (end.Failed e) = (TakesNoClose u.doing × (e ≡ stream_closed)) ⊎ CallFails past u.aim e

-- an abort is done where the server said that the chunks are removed
abbrev pub AbortCame : Awaited → Past → ClientUpload → ClientUpload → Step2 → Type 0
AbortCame awaited past u u' end.Pending = IsUploading awaited past u'
AbortCame awaited past u u' end.Done = HeardRemoved past u.aim
AbortCame awaited past u u' (end.Failed e) = ((u.doing ≡ closed) × (e ≡ stream_closed)) ⊎ ((d : Error) × RemovalFails past u.aim d × FailsToUndo None d e)

-- A poll led on the call that had sent at these places before.
abbrev pub Caused : Awaited → LogTold → LogTold → ℤ → ClientUpload → (Past → Type 0) → Type 0
Caused old log log' wire u Came = (calls : List Call) → log ≡ Some calls → (places : List ℕ) → IsUploading old (past_of places (length calls) calls wire) u
    → (calls' : List Call) × (log' ≡ Some calls') × Keeps calls calls' × Came (past_of places (length calls) calls' wire)

abbrev pub WriteCaused : Awaited → Awaited → LogTold → LogTold → ℤ → ClientUpload → ClientUpload → WritePoll → Type 0
WriteCaused old new log log' wire u u' r = Caused old log log' wire u (λ past. WriteCame new past u u' r)

abbrev pub CloseCaused : Awaited → Awaited → LogTold → LogTold → ℤ → ClientUpload → ClientUpload → Step2 → Type 0
CloseCaused old new log log' wire u u' r = Caused old log log' wire u (λ past. CloseCame new past u u' r)

abbrev pub AbortCaused : Awaited → Awaited → LogTold → LogTold → ℤ → ClientUpload → ClientUpload → Step2 → Type 0
AbortCaused old new log log' wire u u' r = Caused old log log' wire u (λ past. AbortCame new past u u' r)
