-- What the answers of a download and of its opening are caused by, over all polls of a call.
use Rattle.std.specs.Prelude.{◌≡◌, ◌≢◌, ◌≤◌, ◌+◌, ℕ, ℤ, true, List, [], ◌∷◌, length, Option, Some, None, Ok, Err}
use Rattle.mg_bson.specs.Raw.{IsDocument, fields, items}
use Rattle.mg_bson.specs.Tree.{Items, Tree, no_items}
use Rattle.mg_server.specs.Calls.{Flies, HeardBy, Keeps, Past, RequestFails, past_of}
use Rattle.mg_link.specs.Errors.{plain}
use Rattle.mg_link.specs.Exec.{IsSuccess}
use Rattle.mg_link.specs.Link.{Awaited, LogTold}
use Rattle.mg_link.specs.Log.{Call, reply}
use Rattle.mg_link.specs.declared.error.Error.{Error}
use Rattle.mg_link.specs.declared.error.ErrorKind.TheVariants as kind
use Rattle.mg_options.specs.Fields.{fields_in}
use Rattle.mg_ops.specs.Cursors.{Cursor, batch_at, cursor_of}
use Rattle.mg_cursor.specs.Batches.{NoBatchIn, batch_in}
use Rattle.mg_cursor.specs.Causes.{HeardMore, IsUnderway, MoreFails, TellsNoCursor}
use Rattle.mg_cursor.specs.Client.{ClientCursor, at_rest, behind_reply, holds}
use Rattle.mg_cursor.specs.Polling.{CannotAsk}
use Rattle.mg_cursor.specs.Seeking.{AreHeard, LastBatch}
use Rattle.mg_chunks.specs.Sizes.{chunk_count_of}
use Rattle.mg_records.specs.FileRecords.{FileRecord}
use Rattle.mg_chunks.specs.Broken.{Breaks}
use Rattle.mg_gridfs.specs.Buckets.{ClientBucket}
use Rattle.mg_gridfs.specs.Commands.{CannotSend, found_lines, listed_lines}
use Rattle.mg_chunks.specs.Chunks.{all_judged, missing_chunk}
use Rattle.mg_gridfs.specs.Downloads.{ClientDownload, Doing, ended, idle, reads, sizes_of, spoiled}
use Rattle.mg_gridfs.specs.Findings.{BreaksRecord, ClientFinding, IsNotFound, Looking, Opened, ReadsRecord, fails, finds, lists, opens, starts, waits}
use Rattle.mg_gridfs.specs.declared.polls.ReadPoll.{ReadPoll}
use Rattle.mg_gridfs.specs.declared.polls.ReadPoll.TheVariants as read

-- ---- openings

-- the call heard this reply to its find of the record
pub record HeardRecord (past : Past) (b : ClientBucket) (id : Tree) (found : Option FileRecord) : Type 0 where
  pub bytes : List ℕ
  pub heard : HeardBy past (fields_in (found_lines b id)) (reply bytes)
  pub success : IsSuccess bytes
  pub reads_so : ReadsRecord bytes found

-- the reply gives no record, or one that breaks its grammar
abbrev pub TellsNoRecord : List ℕ → Error → Type 0
TellsNoRecord bytes e = BreaksRecord bytes e

-- why a download is not opened
pub data OpeningFails (past : Past) (b : ClientBucket) (id : Tree) (e : Error) : Type 0 where
  out_of_memory : e.kind ≡ kind.OutOfMemory → OpeningFails past b id e
  find_not_built : CannotSend (found_lines b id) e → OpeningFails past b id e
  by_find : RequestFails past (fields_in (found_lines b id)) true TellsNoRecord e → OpeningFails past b id e
  -- the bucket has no such file
  not_found : HeardRecord past b id None → IsNotFound id e → OpeningFails past b id e
  -- the record says more chunks than are counted
  too_many : (f : FileRecord) → HeardRecord past b id (Some f) → Breaks (chunk_count_of f.length f.chunk_size) e → OpeningFails past b id e
  list_not_built : (f : FileRecord) → HeardRecord past b id (Some f) → CannotSend (listed_lines b f.id) e → OpeningFails past b id e
  by_list : (f : FileRecord) → HeardRecord past b id (Some f) → RequestFails past (fields_in (listed_lines b f.id)) true TellsNoCursor e → OpeningFails past b id e

abbrev pub LookingUnderway : Awaited → Past → ClientBucket → Tree → Looking → Type 0
LookingUnderway awaited past b id starts = Unit {0}
LookingUnderway awaited past b id (finds sending) = Flies awaited past (fields_in (found_lines b id)) sending.stage
LookingUnderway awaited past b id (lists file count sending) = Flies awaited past (fields_in (listed_lines b file.id)) sending.stage × HeardRecord past b id (Some file)

-- how far an opening has come
abbrev pub IsOpening : Awaited → Past → ClientFinding → Type 0
IsOpening awaited past o = (b : ClientBucket) → o.bucket ≡ Some b → LookingUnderway awaited past b o.id o.doing

-- a download is opened by the record that was heard
abbrev pub OpeningCame : Awaited → Past → ClientBucket → Tree → Opened → Type 0
OpeningCame awaited past b id (waits doing) = LookingUnderway awaited past b id doing
OpeningCame awaited past b id (opens d) = HeardRecord past b id (Some d.file)
OpeningCame awaited past b id (fails e) = OpeningFails past b id e

-- A poll led on the opening that had sent at these places before.
abbrev pub OpeningCaused : Awaited → Awaited → LogTold → LogTold → ℤ → ClientFinding → Opened → Type 0
OpeningCaused old new log log' wire o r = (calls : List Call) → log ≡ Some calls → (places : List ℕ) → IsOpening old (past_of places (length calls) calls wire) o
    → (calls' : List Call) × (log' ≡ Some calls') × Keeps calls calls' × ((b : ClientBucket) → o.bucket ≡ Some b → OpeningCame new (past_of places (length calls) calls' wire) b o.id r)

-- ---- reads

-- the cursor of a read that goes on, or is to begin
abbrev pub cursor_in : Doing → Option ClientCursor
cursor_in (idle cursor) = Some cursor
cursor_in (reads cursor missing empty) = Some cursor
cursor_in ended = None
cursor_in spoiled = None

-- a batch that the call took, and the cursor behind it: the one in hand, or that of a reply which it heard
pub data TakesNext (past : Past) (c : ClientCursor) (bytes : List ℕ) (c' : ClientCursor) : Type 0 where
  was_held : c.doing ≡ holds bytes → c' ≡ at_rest c → TakesNext past c bytes c'
  by_reply : (said : Cursor) → HeardMore past c bytes → cursor_of (fields bytes) ≡ Ok said → c' ≡ behind_reply said c → TakesNext past c bytes c'

-- its chunks are in order, numbered from one on
pub record HasInOrder (f : FileRecord) (n : ℕ) (bytes : List ℕ) : Type 0 where
  pub array : List ℕ
  pub is_array : IsDocument array
  pub bytes_are : batch_in bytes ≡ Some array
  pub chunks : List (List ℕ)
  pub in_order : all_judged (sizes_of f) n (items array) ≡ Ok chunks

-- The call took these batches one behind another, whose chunks are numbered from one number on, so that another is the next; and this cursor stands behind them.
abbrev pub TookAll : Past → FileRecord → ClientCursor → List (List ℕ) → (from next : ℕ) → ClientCursor → Type 0
TookAll past f c [] from next at = (next ≡ from) × (at ≡ c)
TookAll past f c (bytes ∷ more) from next at = (b : ClientCursor) × TakesNext past c bytes b × (h : HasInOrder f from bytes) × TookAll past f b more (from + length h.chunks) next at

-- why a read fails that began with this cursor
pub data ReadFails (past : Past) (d : ClientDownload) (c : ClientCursor) (e : Error) : Type 0 where
  out_of_memory : e ≡ plain kind.OutOfMemory → ReadFails past d c e
  -- a getMore cannot be built, or brings no batch
  not_built : (replies : List (List ℕ)) (at : ClientCursor) → AreHeard past c replies at → CannotAsk at None e → ReadFails past d c e
  no_batch : (replies : List (List ℕ)) (at : ClientCursor) → AreHeard past c replies at → MoreFails past at e → ReadFails past d c e
  no_list : (bytes : List ℕ) → LastBatch past c bytes → NoBatchIn (fields bytes) e → ReadFails past d c e
  -- in the batch that was received last a chunk differs first so from the record, which is to have the next number behind all that came before
  differs : (bytes : List ℕ) → LastBatch past c bytes → (batch : Items) → batch_at (fields bytes) ≡ Ok batch → (n : ℕ) → d.taken ≤ n → (before : List (List ℕ)) (at behind : ClientCursor) → TookAll past d.file c before d.taken n at → TakesNext past at bytes behind
      → all_judged (sizes_of d.file) n batch ≡ Err e → ReadFails past d c e
  -- too many empty replies in a row, the last of which is this one
  too_many : (bytes : List ℕ) → LastBatch past c bytes → batch_at (fields bytes) ≡ Ok no_items → e ≡ plain kind.EmptyBatches → ReadFails past d c e
  -- the cursor has ended, and so many chunks came, which are not as many as the record says
  miscounts : (n : ℕ) → d.taken ≤ n → (before : List (List ℕ)) (at : ClientCursor) → TookAll past d.file c before d.taken n at → n ≢ d.count → e ≡ missing_chunk n → ReadFails past d c e

-- how far a read has come
abbrev pub IsFetching : Awaited → Past → ClientDownload → Type 0
IsFetching awaited past d = (c : ClientCursor) → cursor_in d.doing ≡ Some c → IsUnderway awaited past c

abbrev pub ReadCame : Awaited → Past → ClientDownload → ClientDownload → ReadPoll → Type 0
ReadCame awaited past d d' read.Pending = IsFetching awaited past d'
ReadCame awaited past d d' (read.Read n) = Unit {0}
ReadCame awaited past d d' (read.Failed e) = (c : ClientCursor) × (cursor_in d.doing ≡ Some c) × ReadFails past d c e

-- A poll led on the read that had sent at these places before.
abbrev pub ReadCaused : Awaited → Awaited → LogTold → LogTold → ℤ → ClientDownload → ClientDownload → ReadPoll → Type 0
ReadCaused old new log log' wire d d' r = (calls : List Call) → log ≡ Some calls → (places : List ℕ) → IsFetching old (past_of places (length calls) calls wire) d
    → (calls' : List Call) × (log' ≡ Some calls') × Keeps calls calls' × ReadCame new (past_of places (length calls) calls' wire) d d' r
