-- Why a put fails whose upload was opened.
use Rattle.std.specs.Prelude.{◌≡◌, ◌≢◌, ◌⊎◌, ◌<◌, ◌≤◌, ◌+◌, ◌*◌, ◌^◌, ℕ, ℤ, pos, Bool, false, true, List, [], ◌∷◌, ◌++◌, length, Option, None, Some, Ok, unwrap_or}
use Rattle.mg_bson.specs.Raw.{fields}
use Rattle.mg_bson.specs.Reading.{doc}
use Rattle.mg_bson.specs.Tree.{Fields, Items, no_items}
use Rattle.mg_server.specs.Calls.{Flies, Grows, HeardAt, HeardBy, IsOwn, Past, RequestFails, past_of}
use Rattle.mg_link.specs.Errors.{command_code, plain}
use Rattle.mg_link.specs.Exec.{FailsByReply, IsSuccess, Sending, ticket_of}
use Rattle.mg_link.specs.Link.{Awaited}
use Rattle.mg_link.specs.Log.{reply}
use Rattle.mg_server.specs.Owner.{IsOf}
use Rattle.mg_link.specs.declared.error.Error.{Error}
use Rattle.mg_link.specs.declared.error.ErrorKind.{ErrorKind}
use Rattle.mg_link.specs.declared.error.ErrorKind.TheVariants as kind
use Rattle.mg_link.specs.declared.error.GridFsErrorKind.TheVariants as grid
use Rattle.mg_options.specs.Fields.{Line, fields_in}
use Rattle.mg_ops.specs.Cursors.{Cursor, OpensWith, cursor_of}
use Rattle.mg_ops.specs.Failing.{CannotBeSent}
use Rattle.mg_ops.specs.Writes.{failures_of}
use Rattle.mg_ops.specs.declared.cursor_reply.CursorSpecification.{CursorSpecification}
use Rattle.mg_cursor.specs.Batches.{BreaksBatch, documents_of}
use Rattle.mg_cursor.specs.Causes.{HeardMore, MoreFails, TellsNoCursor}
use Rattle.mg_cursor.specs.Client as client
use Rattle.mg_cursor.specs.Client.{ClientCursor, at_rest, holds, new_client}
use Rattle.mg_cursor.specs.Documents.{DocumentCursor}
use Rattle.mg_cursor.specs.Polling.{CannotAsk}
use Rattle.mg_cursor.specs.Seeking.{most_empty}
use Rattle.mg_records.specs.Readings.{FailsToRead, recorded}
use Rattle.mg_records.specs.Specifications.{ListedIndex, index_of}
use Rattle.mg_gridfs.specs.Buckets.{ClientBucket}
use Rattle.mg_gridfs.specs.Causes.{ArePortion, HeardRemoved, IsRest, ListsFailure, RemovalFails, UploadFails}
use Rattle.mg_gridfs.specs.Checks.{ClientCheck, creates, finds, index_in, indexes, lists, namespace_exists, reads}
use Rattle.mg_gridfs.specs.Commands.{CannotSend, CannotStore, any_lines, chunk_document, chunks_lines, creation_lines, index_lines, listing_lines, record_lines}
use Rattle.mg_gridfs.specs.Indexes.{are_keys}
use Rattle.mg_gridfs.specs.Steps.{FailsToUndo}
use Rattle.mg_gridfs.specs.Uploads.{Aim, Doing, Ending, Phase, begins, busy, checks, closed, ends, fills, idle, inserts, lands, lasts, record_of, records, removes, rests, undoes}
use Rattle.mg_gridfs.specs.declared.indexes.Place.{Place}
use Rattle.mg_gridfs.specs.declared.indexes.Place.TheVariants as place
use Rattle.mg_players.specs.Asking.{FliesLast}
use Rattle.mg_players.specs.InTurn.{AloneBehind, AreInTurn, HasSentAt, NoneBehind, empty_by, empty_taken, empty_with, newest}
use Rattle.mg_players.specs.Puts.{PutTask, put_aim, put_bucket, total}

-- ---- the list of the indexes

-- The call opened this cursor by a list of the indexes of a collection, and heard these replies to its getMores, one behind another.
pub record IsOfList (past : Past) (b : ClientBucket) (c : ClientCursor) : Type 0 where
  pub at : Place
  pub place : ℕ
  pub first : List ℕ
  pub heard : HeardAt past place (fields_in (listing_lines b at)) (reply first)
  pub success : IsSuccess first
  pub out : CursorSpecification
  pub opens : OpensWith None None None first out
  pub replies : List (ℕ × List ℕ)
  pub behind : AreInTurn past (new_client out) place replies (at_rest c)

-- how many documents a batch holds, and so many replies
abbrev pub held_in : List ℕ → ℕ
held_in bytes = length (unwrap_or (documents_of bytes) [])

abbrev pub held_by : List (ℕ × List ℕ) → ℕ
held_by [] = 0
held_by (h ∷ more) = held_in h.1 + held_by more

-- how many the call heard of the list
abbrev pub brought : {past : Past} {b : ClientBucket} {c : ClientCursor} → IsOfList past b c → ℕ
brought l = held_in l.first + held_by l.replies

-- these documents, batch behind batch
abbrev pub batch_documents : List ℕ → List (List ℕ)
batch_documents bytes = unwrap_or (documents_of bytes) []

abbrev pub documents_by : List (ℕ × List ℕ) → List (List ℕ)
documents_by [] = []
documents_by (h ∷ more) = batch_documents h.1 ++ documents_by more

abbrev pub its_documents : {past : Past} {b : ClientBucket} {c : ClientCursor} → IsOfList past b c → List (List ℕ)
its_documents l = batch_documents l.first ++ documents_by l.replies

-- how many of these batches are empty at their end
abbrev pub last_empty : {past : Past} {b : ClientBucket} {c : ClientCursor} → IsOfList past b c → ℕ
last_empty l = empty_by (empty_with 0 (documents_of l.first)) l.replies

-- the documents of the reply in hand
abbrev pub documents_held : client.Doing → List (List ℕ)
documents_held client.rests = []
documents_held (holds bytes) = batch_documents bytes
documents_held (client.asks sending) = []

-- the call heard this batch of such a list
pub data IsListBatch (past : Past) (b : ClientBucket) (bytes : List ℕ) : Type 0 where
  first_batch : (at : Place) → HeardBy past (fields_in (listing_lines b at)) (reply bytes) → IsSuccess bytes → IsListBatch past b bytes
  next_batch : (c : ClientCursor) → IsOfList past b c → HeardMore past c bytes → IsListBatch past b bytes

-- the document stands in such a batch
pub record IsListedIndex (past : Past) (b : ClientBucket) (document : List ℕ) : Type 0 where
  pub bytes : List ℕ
  pub batch : IsListBatch past b bytes
  pub front : List (List ℕ)
  pub after : List (List ℕ)
  pub holds : documents_of bytes ≡ Some (front ++ document ∷ after)

-- so do these, at its end
pub record AreListedIndexes (past : Past) (b : ClientBucket) (documents : List (List ℕ)) : Type 0 where
  pub bytes : List ℕ
  pub batch : IsListBatch past b bytes
  pub front : List (List ℕ)
  pub holds : documents_of bytes ≡ Some (front ++ documents)

-- What the call knows of a list that it reads: which cursor it is, of which collection, that the reply in hand is the first of it, and whence the documents that are left; how
-- many batches in a row came empty, which are not too many; that it was given these documents of those that it heard, the first ones; and that behind all replies nothing of the
-- call stands in the log but its getMore on its way.
pub record ReadsList (awaited : Awaited) (past : Past) (b : ClientBucket) (d : DocumentCursor) (k : Place) (given : List (List ℕ)) : Type 0 where
  pub of_list : IsOfList past b d.cursor
  pub is_at : of_list.at ≡ k
  pub hand : (bytes : List ℕ) → d.cursor.doing ≡ holds bytes → (of_list.first ≡ bytes) × (of_list.replies ≡ [])
  pub left : (d.behind ≡ []) ⊎ (AreListedIndexes past b d.behind × (d.empty ≡ 0))
  pub empties : d.empty ≡ empty_taken d.cursor.doing (last_empty of_list)
  pub few : d.empty < most_empty
  pub all : its_documents of_list ≡ given ++ (d.behind ++ documents_held d.cursor.doing)
  pub within : newest of_list.place of_list.replies < length past.calls
  pub waits : (sending : Sending) (ticket place : ℕ) → d.cursor.doing ≡ client.asks sending → ticket_of sending ≡ Some ticket → awaited ticket ≡ Some place → newest of_list.place of_list.replies < place
  pub alone : AloneBehind awaited past d.cursor (newest of_list.place of_list.replies)

-- the call heard these documents of a list of the indexes of a collection, and read it to its end, at which not too many batches came empty
pub record HeardList (past : Past) (b : ClientBucket) (k : Place) (documents : List (List ℕ)) : Type 0 where
  pub cursor : ClientCursor
  pub of_list : IsOfList past b cursor
  pub is_at : of_list.at ≡ k
  pub over : cursor.id ≡ pos 0
  pub few : last_empty of_list < most_empty
  pub all : its_documents of_list ≡ documents

-- ---- the index of a collection

-- a document of the list is an index with its keys, or one with others
abbrev pub HasKeys : Place → Bool → List ℕ → Type 0
HasKeys k its document = (i : ListedIndex) × index_in document i × (are_keys k i.keys ≡ its)

abbrev pub AllOther : Place → List (List ℕ) → Type 0
AllOther k [] = Unit {0}
AllOther k (document ∷ documents) = HasKeys k false document × AllOther k documents

-- one of these documents is its index, or none is
abbrev pub HasFound : Place → Bool → List (List ℕ) → Type 0
HasFound k true documents = (front : List (List ℕ)) × (document : List ℕ) × (after : List (List ℕ)) × (documents ≡ front ++ document ∷ after) × HasKeys k true document
HasFound k false documents = AllOther k documents

-- the whole list was read, which has no more documents than a list may have, and its index was found among them, or was not
abbrev pub HeardIndexes : Past → ClientBucket → Place → Bool → Type 0
HeardIndexes past b k found = (documents : List (List ℕ)) × HeardList past b k documents × HasFound k found documents × (length documents ≤ 1048576)

-- ---- the creation before a list

-- a reply to its creation: the collection was created, or was there
pub data MakesCollection (wire : ℤ) (bytes : List ℕ) : Type 0 where
  creates_it : IsSuccess bytes → failures_of 0 (fields bytes) ≡ Ok [] → MakesCollection wire bytes
  finds_it : (e : Error) → FailsByReply (doc bytes) wire e → command_code e.kind ≡ Some namespace_exists → MakesCollection wire bytes

-- the call heard, by the reply to its creation, that a collection is there
pub record HeardCreation (past : Past) (b : ClientBucket) (at : Place) : Type 0 where
  pub place : ℕ
  pub bytes : List ℕ
  pub heard : HeardAt past place (fields_in (creation_lines b at)) (reply bytes)
  pub well : MakesCollection past.wire bytes

-- so it is by those commands of the call alone that stand in the log behind this place
pub record HoldsBehind (place : ℕ) (past : Past) (Says : Past → Type 0) : Type 0 where
  pub later : Past
  pub grows : Grows later past
  pub behind : (p : ℕ) → IsOwn later p → place < p
  pub says : Says later

-- What the call knows of a list that it asks for: the creation of the collection was heard, and what is on its way was sent behind that, and behind all else that it sent.
pub record AsksBehind (awaited : Awaited) (past : Past) (b : ClientBucket) (at : Place) (sending : Sending) : Type 0 where
  pub created : HeardCreation past b at
  pub near : List ℕ
  pub own : (p : ℕ) → IsOf near p → IsOwn past p
  pub within : (p : ℕ) → IsOf near p → p < length past.calls
  pub behind : (p : ℕ) → IsOf near p → created.place < p
  pub flies : Flies awaited (past_of near (length past.calls) past.calls past.wire) (fields_in (listing_lines b at)) sending.stage
  pub last : FliesLast awaited (HasSentAt past) sending.stage

-- ---- what comes next in a check

-- the call heard, by the reply to its find, which documents the bucket gave
pub record HeardFind (past : Past) (b : ClientBucket) (Holds : Items → Type 0) : Type 0 where
  pub bytes : List ℕ
  pub heard : HeardBy past (fields_in (any_lines b)) (reply bytes)
  pub success : IsSuccess bytes
  pub said : Cursor
  pub says : cursor_of (fields bytes) ≡ Ok said
  pub holds : Holds said.batch

-- none, so that it holds no file, or some
abbrev pub HeardNone : Past → ClientBucket → Type 0
HeardNone past b = HeardFind past b (λ (batch : Items). batch ≡ no_items)

abbrev pub HeardSome : Past → ClientBucket → Type 0
HeardSome past b = HeardFind past b (λ (batch : Items). batch ≢ no_items)

-- the call heard that its index was created
abbrev pub HeardIndex : Past → ClientBucket → Place → Type 0
HeardIndex past b at = (bytes : List ℕ) × HeardBy past (fields_in (index_lines b at)) (reply bytes) × IsSuccess bytes × (failures_of 0 (fields bytes) ≡ Ok [])

-- What the call heard of a collection that is done: it is there; the list of its indexes was read to its end; and where none of these is its index, that was created.
pub record HeardWhole (past : Past) (b : ClientBucket) (at : Place) (found : Bool) : Type 0 where
  pub created : HeardCreation past b at
  pub listed : HeardIndexes past b at found
  pub made : found ≡ false → HeardIndex past b at

-- The command that a check has to send next, by what its call heard: its find; the creation of the files, where the bucket holds no file; a list of indexes behind
-- the creation of its collection; the creation of an index behind a whole list that has it not; and the creation of the chunks once the files are done.
pub data ComesNext (past : Past) (b : ClientBucket) (lines : List Line) : Type 0 where
  the_find : lines ≡ any_lines b → ComesNext past b lines
  the_files : HeardNone past b → lines ≡ creation_lines b place.Files → ComesNext past b lines
  a_list : (at : Place) → HeardCreation past b at → lines ≡ listing_lines b at → ComesNext past b lines
  an_index : (at : Place) → HeardIndexes past b at false → lines ≡ index_lines b at → ComesNext past b lines
  the_chunks : (found : Bool) → HeardWhole past b place.Files found → lines ≡ creation_lines b place.Chunks → ComesNext past b lines

-- ---- how far it has come

abbrev pub CheckReads : Awaited → Past → ClientBucket → ClientCheck → Type 0
CheckReads awaited past b (finds sending) = Unit {0}
CheckReads awaited past b (creates at sending) = Unit {0}
CheckReads awaited past b (lists at sending) = AsksBehind awaited past b at sending
CheckReads awaited past b (reads at cursor found count) = HeardCreation past b at × (given : List (List ℕ)) × (length given ≡ count) × HasFound at found given × ReadsList awaited past b cursor at given
CheckReads awaited past b (indexes at sending) = HeardCreation past b at × HeardIndexes past b at false

-- ---- the check of the indexes

-- why it fails
pub data PutCheckFails (past : Past) (b : ClientBucket) (e : Error) : Type 0 where
  out_of_memory : e.kind ≡ kind.OutOfMemory → PutCheckFails past b e
  not_built : (lines : List Line) → ComesNext past b lines → CannotSend lines e → PutCheckFails past b e
  by_find : RequestFails past (fields_in (any_lines b)) true TellsNoCursor e → PutCheckFails past b e
  -- that a collection is there is no failure
  by_creation : (at : Place) → RequestFails past (fields_in (creation_lines b at)) false ListsFailure e → command_code e.kind ≢ Some namespace_exists → PutCheckFails past b e
  -- the list was asked for behind the creation of the collection
  by_listing : (at : Place) (created : HeardCreation past b at) → HoldsBehind created.place past (λ p. RequestFails p (fields_in (listing_lines b at)) true TellsNoCursor e) → PutCheckFails past b e
  by_index : (at : Place) → RequestFails past (fields_in (index_lines b at)) false ListsFailure e → PutCheckFails past b e
  -- a getMore of the list is not built, or fails
  not_asked : (c : ClientCursor) → IsOfList past b c → CannotAsk c None e → PutCheckFails past b e
  by_more : (c : ClientCursor) → IsOfList past b c → MoreFails past c e → PutCheckFails past b e
  -- a batch of it holds what is no document; or as many came empty, one behind another up to its last command, as are too many
  broken : (bytes : List ℕ) → IsListBatch past b bytes → BreaksBatch bytes e → PutCheckFails past b e
  stays_empty : (c : ClientCursor) (l : IsOfList past b c) → last_empty l ≡ most_empty → NoneBehind past (newest l.place l.replies) → e ≡ plain kind.EmptyBatches → PutCheckFails past b e
  -- an item of it is no index
  no_index : (document : List ℕ) → IsListedIndex past b document → FailsToRead (recorded (index_of (fields document))) e → PutCheckFails past b e
  -- or it has too many
  too_many : (c : ClientCursor) (l : IsOfList past b c) → 1048576 < brought l → e ≡ plain kind.TooManyDocuments → PutCheckFails past b e

-- ---- errors of a put

-- the pieces have more bytes than so many chunks, and no file has more chunks
abbrev pub HasManyChunks : PutTask → Type 0
HasManyChunks t = 2 ^ 31 * t.chunk < total t.pieces

-- Something that has to be stored is not built: full chunks of one command, or one of them, the last chunk, or the record. The id of a chunk has twelve bytes.
pub data NotBuilt (aim : Aim) (e : Error) : Type 0 where
  full_chunks : (documents : List Fields) (portion : ArePortion aim documents) → ((k : ℕ) → length (portion.ids k) ≡ 12) → CannotStore (chunks_lines aim.bucket documents) documents e → NotBuilt aim e
  one_chunk : (id : List ℕ) (number : ℕ) (bytes : List ℕ) → length id ≡ 12 → length bytes ≡ aim.size → CannotBeSent (chunk_document id aim.id number bytes) e → NotBuilt aim e
  last_chunk : (document : Fields) (rest : IsRest aim document) → length rest.id ≡ 12 → CannotStore (chunks_lines aim.bucket (document ∷ [])) (document ∷ []) e → NotBuilt aim e
  the_record : (ending : Ending) → CannotStore (record_lines aim.bucket (record_of aim ending)) (record_of aim ending ∷ []) e → NotBuilt aim e

-- an error is not that something is not built, nor that a file has too many chunks, nor that it was closed while a write went on
abbrev pub IsCommonKind : ErrorKind → Type 0
IsCommonKind kind.BsonSerialization = ⊥
IsCommonKind (kind.InvalidArgument argument) = ⊥
IsCommonKind (kind.GridFs grid.WriteInProgress) = ⊥
IsCommonKind kind.FileTooLarge = ⊥
IsCommonKind _ = Unit {0}

-- A put closes its upload behind its last write, so that none goes on; and its chunks are too many only where its pieces have so many bytes.
abbrev pub IsPutError : PutTask → Error → Type 0
IsPutError t e = IsCommonKind e.kind ⊎ (NotBuilt (put_aim t) e ⊎ ((e ≡ plain kind.FileTooLarge) × HasManyChunks t))

-- so is an error that is answered once the chunks are removed, where there is one
abbrev pub AnswersPut : PutTask → Option Error → Type 0
AnswersPut t None = Unit {0}
AnswersPut t (Some e) = IsPutError t e

-- what a call of its upload knows that goes on
abbrev pub PhaseReads : Awaited → Past → ClientBucket → Phase → Type 0
PhaseReads awaited past b begins = Unit {0}
PhaseReads awaited past b (checks check) = CheckReads awaited past b check
PhaseReads awaited past b fills = Unit {0}
PhaseReads awaited past b (inserts sending count) = Unit {0}
PhaseReads awaited past b (rests moment) = Unit {0}
PhaseReads awaited past b (lasts sending ending) = Unit {0}
PhaseReads awaited past b (ends ending) = Unit {0}
PhaseReads awaited past b (records sending ending) = Unit {0}
PhaseReads awaited past b (lands flight error) = Unit {0}
PhaseReads awaited past b (undoes error) = Unit {0}
PhaseReads awaited past b (removes sending error) = Unit {0}

abbrev pub PutReads : Awaited → Past → ClientBucket → Doing → Type 0
PutReads awaited past b idle = Unit {0}
PutReads awaited past b (busy call phase) = PhaseReads awaited past b phase
PutReads awaited past b closed = Unit {0}

-- ---- why a put failed

-- why the last call of its upload failed where no chunk was to be removed
pub data FailsEarly (past : Past) (t : PutTask) (e : Error) : Type 0 where
  -- before the first chunk
  check_fails : PutCheckFails past (put_bucket t) e → FailsEarly past t e
  -- memory ran out as the bytes of a piece were taken
  not_taken : e ≡ plain kind.OutOfMemory → FailsEarly past t e

-- An insert of its chunks or of its record was not built or failed with this error, or its chunks were too many: they are to be removed.
pub record FailsFirst (past : Past) (t : PutTask) (original : Error) : Type 0 where
  pub by_upload : UploadFails past (put_aim t) original
  pub of_put : IsPutError t original

-- what it answers then
pub data AnswersFirst (past : Past) (t : PutTask) (original e : Error) : Type 0 where
  -- the chunks were removed
  first_error : HeardRemoved past (put_aim t) → e ≡ original → AnswersFirst past t original e
  -- they were not
  not_removed : (d : Error) → RemovalFails past (put_aim t) d → FailsToUndo (Some original) d e → AnswersFirst past t original e

-- why the last call of its upload failed
pub data PutFails (past : Past) (t : PutTask) (e : Error) : Type 0 where
  early : FailsEarly past t e → PutFails past t e
  late : (original : Error) → FailsFirst past t original → AnswersFirst past t original e → PutFails past t e
