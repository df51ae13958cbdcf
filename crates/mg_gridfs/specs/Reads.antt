-- What a poll of a read does (GridFS specification, "File Download").
use Rattle.std.specs.Prelude.{◌≡◌, ◌≢◌, ◌⊎◌, ◌<◌, ◌≤◌, ◌++◌, ◌+◌, ◌-◌, ◌^◌, ℕ, zero, suc, ℤ, Bool, List, [], ◌∷◌, length, take, drop, Some, None, Ok, Err}
use Rattle.std.specs.List.{concat}
use Rattle.mg_bson.specs.Raw.{IsDocument, fields, items}
use Rattle.mg_bson.specs.Tree.{Items, no_items}
use Rattle.mg_link.specs.Errors.{plain}
use Rattle.mg_link.specs.Link.{Awaited, SendsNothing, LogTold}
use Rattle.mg_link.specs.Moment.{Ending, pending, finished, failed}
use Rattle.mg_link.specs.declared.error.Error.{Error}
use Rattle.mg_link.specs.declared.error.ErrorKind.TheVariants as kind
use Rattle.mg_ops.specs.Cursors.{batch_at}
use Rattle.mg_cursor.specs.Batches.{NoBatchIn, batch_in}
use Rattle.mg_cursor.specs.Client.{ClientCursor, HasNext}
use Rattle.mg_cursor.specs.Polling.{PollsNext}
use Rattle.mg_cursor.specs.declared.polls.NextPoll.TheVariants as next
use Rattle.mg_chunks.specs.Chunks.{all_judged, missing_chunk}
use Rattle.mg_gridfs.specs.Downloads.{ClientDownload, Doing, ended, ended_at, idle, most_empty, reads, sizes_of, spoiled, spoiled_at}
use Rattle.mg_gridfs.specs.declared.polls.ReadPoll.{ReadPoll}
use Rattle.mg_gridfs.specs.declared.polls.ReadPoll.TheVariants as read

-- how it ended
abbrev pub read_ending : ReadPoll → Ending
read_ending read.Pending = pending
read_ending (read.Read n) = finished
read_ending (read.Failed e) = failed e

-- ---- a batch

-- one of which the chunks are in order is in hand behind those before; an empty one is counted
abbrev pub with_chunks : List (List ℕ) → ClientCursor → (missing empty : ℕ) → ClientDownload → ClientDownload
with_chunks [] cursor missing empty d = record d { doing = reads cursor missing (suc empty) }
with_chunks (c ∷ cs) cursor missing empty d = record d { taken = d.taken + length (c ∷ cs); ahead = d.ahead ++ concat (c ∷ cs); doing = reads cursor (missing - length (concat (c ∷ cs))) 0 }

pub record TakesBatch (cursor : ClientCursor) (missing empty : ℕ) (reply : List ℕ) (d d' : ClientDownload) : Type 0 where
  pub array : List ℕ
  pub is_array : IsDocument array
  pub bytes_are : batch_in reply ≡ Some array
  pub chunks : List (List ℕ)
  pub in_order : all_judged (sizes_of d.file) d.taken (items array) ≡ Ok chunks
  -- an empty one is not one too many
  pub few : chunks ≡ [] → suc empty < most_empty
  pub taken : d' ≡ with_chunks chunks cursor missing empty d
  -- each of those received has a number
  pub numbered : d'.taken ≤ 2 ^ 31

-- why it is not taken, but for want of memory
pub data SpoilsBatch (empty : ℕ) (reply : List ℕ) (d : ClientDownload) (e : Error) : Type 0 where
  no_batch : NoBatchIn (fields reply) e → SpoilsBatch empty reply d e
  -- one of its chunks differs from the record
  differs : (batch : Items) → batch_at (fields reply) ≡ Ok batch → all_judged (sizes_of d.file) d.taken batch ≡ Err e → SpoilsBatch empty reply d e
  -- too many empty replies in a row, the last of which is this one
  too_many : batch_at (fields reply) ≡ Ok no_items → most_empty ≤ suc empty → e ≡ plain kind.EmptyBatches → SpoilsBatch empty reply d e

-- ---- batches up to as many bytes as are missing

pub data Fetched : Type 0 where
  waits : Fetched
  -- as many bytes are in hand, or the cursor has ended
  enough : Fetched
  fails : (e : Error) → Fetched

-- one more batch is taken, behind which the read goes on
pub record TakesOne (old between : Awaited) (log log_between : LogTold) (wire : ℤ) (d d' : ClientDownload) : Type 0 where
  pub cursor : ClientCursor
  pub missing : ℕ
  pub empty : ℕ
  pub at : d.doing ≡ reads cursor missing empty
  pub short : 0 < missing
  pub started : Bool
  pub behind : ClientCursor
  pub reply : List ℕ
  pub polls : PollsNext old between log log_between wire None started cursor behind (next.Batch reply)
  pub takes : TakesBatch behind missing empty reply d d'

-- what ends the taking in this poll
pub data EndsFetch (old new : Awaited) (log log' : LogTold) (wire : ℤ) (d d' : ClientDownload) (r : Fetched) : Type 0 where
  -- as many bytes are in hand
  none_missing : (cursor : ClientCursor) (empty : ℕ) → d.doing ≡ reads cursor 0 empty → SendsNothing old new log log' → d' ≡ record d { doing = idle cursor } → r ≡ enough → EndsFetch old new log log' wire d d' r
  -- the cursor has ended
  over : (cursor : ClientCursor) (missing empty : ℕ) → d.doing ≡ reads cursor missing empty → 0 < missing → (started : Bool) (behind : ClientCursor) → PollsNext old new log log' wire None started cursor behind next.End
      → d' ≡ record d { doing = idle behind } → r ≡ enough → EndsFetch old new log log' wire d d' r
  pends : (cursor : ClientCursor) (missing empty : ℕ) → d.doing ≡ reads cursor missing empty → 0 < missing → (started : Bool) (behind : ClientCursor) → PollsNext old new log log' wire None started cursor behind next.Pending
      → d' ≡ record d { doing = reads behind missing empty } → r ≡ waits → EndsFetch old new log log' wire d d' r
  no_more : (cursor : ClientCursor) (missing empty : ℕ) → d.doing ≡ reads cursor missing empty → 0 < missing → (started : Bool) (behind : ClientCursor) (e : Error) → PollsNext old new log log' wire None started cursor behind (next.Failed e)
      → d' ≡ spoiled_at d → r ≡ fails e → EndsFetch old new log log' wire d d' r
  not_taken : (cursor : ClientCursor) (missing empty : ℕ) → d.doing ≡ reads cursor missing empty → 0 < missing → (started : Bool) (behind : ClientCursor) (reply : List ℕ) (e : Error)
      → PollsNext old new log log' wire None started cursor behind (next.Batch reply) → (e ≡ plain kind.OutOfMemory) ⊎ SpoilsBatch empty reply d e → d' ≡ spoiled_at d → r ≡ fails e → EndsFetch old new log log' wire d d' r

-- So many batches are taken in this poll, behind each of which it goes on.
unfoldable pub Fetches : ℕ → Awaited → Awaited → LogTold → LogTold → ℤ → ClientDownload → ClientDownload → Fetched → Type 0
Fetches zero old new log log' wire d d' r = EndsFetch old new log log' wire d d' r
Fetches (suc n) old new log log' wire d d' r = (between : Awaited) × (log_between : LogTold) × (m : ClientDownload) × TakesOne old between log log_between wire d m × Fetches n between new log_between log' wire m d' r

-- ---- what is given

-- Bytes in hand are given, as many as there is room for. Where none is left and the cursor has no next, the chunks are counted.
pub data HandsOut (room : ℕ) (cursor : ClientCursor) (d d' : ClientDownload) (given : List ℕ) (r : ReadPoll) : Type 0 where
  goes_on : (drop room d.ahead ≢ []) ⊎ HasNext cursor → given ≡ take room d.ahead → d' ≡ record d { ahead = drop room d.ahead; doing = idle cursor } → r ≡ read.Read (length given) → HandsOut room cursor d d' given r
  ends : drop room d.ahead ≡ [] → (HasNext cursor → ⊥) → d.taken ≡ d.count → given ≡ take room d.ahead → d' ≡ ended_at d → r ≡ read.Read (length given) → HandsOut room cursor d d' given r
  -- there are fewer or more than its record says
  miscounts : drop room d.ahead ≡ [] → (HasNext cursor → ⊥) → d.taken ≢ d.count → given ≡ [] → d' ≡ spoiled_at d → r ≡ read.Failed (missing_chunk d.taken) → HandsOut room cursor d d' given r

abbrev pub Concludes : ℕ → Fetched → ClientDownload → ClientDownload → List ℕ → ReadPoll → Type 0
Concludes room waits d d' given r = (d' ≡ d) × (given ≡ []) × (r ≡ read.Pending)
Concludes room enough d d' given r = (cursor : ClientCursor) × (d.doing ≡ idle cursor) × HandsOut room cursor d d' given r
Concludes room (fails e) d d' given r = (d' ≡ d) × (given ≡ []) × (r ≡ read.Failed e)

-- a read from where it stands
pub record Fills (old new : Awaited) (log log' : LogTold) (wire : ℤ) (room : ℕ) (d d' : ClientDownload) (given : List ℕ) (r : ReadPoll) : Type 0 where
  pub batches : ℕ
  pub left : ClientDownload
  pub fetched : Fetched
  pub fetches : Fetches batches old new log log' wire d left fetched
  pub concludes : Concludes room fetched left d' given r

-- nothing is sent, nothing is given, and nothing changes
pub record ReadsNone (old new : Awaited) (log log' : LogTold) (d d' : ClientDownload) (given : List ℕ) (r : ReadPoll) : Type 0 where
  pub quiet : SendsNothing old new log log'
  pub same : d' ≡ d
  pub none_given : given ≡ []
  pub answer : r ≡ read.Read 0

abbrev pub IsOver : Doing → Type 0
IsOver (idle cursor) = ⊥
IsOver (reads cursor missing empty) = ⊥
IsOver ended = Unit {0}
IsOver spoiled = Unit {0}

-- What a poll of a read does that may give so many bytes. As many are awaited as its first poll had room for.
pub data Reads (old new : Awaited) (log log' : LogTold) (wire : ℤ) (room : ℕ) (d d' : ClientDownload) (given : List ℕ) (r : ReadPoll) : Type 0 where
  no_room : room ≡ 0 → ReadsNone old new log log' d d' given r → Reads old new log log' wire room d d' given r
  is_over : 0 < room → IsOver d.doing → ReadsNone old new log log' d d' given r → Reads old new log log' wire room d d' given r
  in_hand : 0 < room → (cursor : ClientCursor) → d.doing ≡ idle cursor → d.ahead ≢ [] → SendsNothing old new log log' → HandsOut room cursor d d' given r → Reads old new log log' wire room d d' given r
  begins : 0 < room → (cursor : ClientCursor) → d.doing ≡ idle cursor → d.ahead ≡ [] → Fills old new log log' wire room (record d { doing = reads cursor room 0 }) d' given r → Reads old new log log' wire room d d' given r
  goes_on : 0 < room → (cursor : ClientCursor) (missing empty : ℕ) → d.doing ≡ reads cursor missing empty → Fills old new log log' wire room d d' given r → Reads old new log log' wire room d d' given r

-- ---- the buffer

-- what is read stands at its front, and what is behind stays; of a read that failed nothing is said
abbrev pub FillsFront : (before now given : List ℕ) → ReadPoll → Type 0
FillsFront before now given read.Pending = now ≡ before
FillsFront before now given (read.Read n) = now ≡ given ++ drop (length given) before
FillsFront before now given (read.Failed e) = length now ≡ length before

-- ---- what stands behind a read

-- behind an error the download has ended
abbrev pub LeavesRead : ClientDownload → ReadPoll → Type 0
LeavesRead d' read.Pending = (cursor : ClientCursor) × (missing : ℕ) × (empty : ℕ) × (d'.doing ≡ reads cursor missing empty)
LeavesRead d' (read.Read n) = Unit {0}
LeavesRead d' (read.Failed e) = d'.doing ≡ spoiled

-- No byte is read into no room, behind an error, and where all bytes of the file were given, and nowhere else.
abbrev pub ReadsNothing : ℕ → ClientDownload → ClientDownload → ReadPoll → Type 0
ReadsNothing room d d' r = r ≡ read.Read 0 → (room ≡ 0) ⊎ ((d.doing ≡ spoiled) ⊎ (d'.doing ≡ ended))

-- no more is read than there is room for
abbrev pub IsWithin : ℕ → ReadPoll → Type 0
IsWithin room read.Pending = Unit {0}
IsWithin room (read.Read n) = n ≤ room
IsWithin room (read.Failed e) = Unit {0}
