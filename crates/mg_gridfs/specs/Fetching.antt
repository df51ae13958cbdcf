-- What the steps of a read do, for private clauses.
use Rattle.std.specs.Prelude.{◌≡◌, ◌≢◌, ◌<◌, ◌≤◌, ◌⊎◌, ◌*◌, ◌+◌, ◌-◌, ◌^◌, ◌++◌, ℕ, suc, ℤ, List, ◌∷◌, length, map, Option, Some, None, Ok, Err}
use Rattle.std.specs.List.{concat}
use Rattle.mg_bson.specs.Raw.{IsDocument, fields, items}
use Rattle.mg_bson.specs.Tree.{Items}
use Rattle.mg_link.specs.Errors.{plain}
use Rattle.mg_link.specs.Link.{Awaited, LogTold}
use Rattle.mg_link.specs.Moment.{Ending, pending, finished, failed}
use Rattle.mg_link.specs.declared.action.Step.{Step}
use Rattle.mg_link.specs.declared.action.Step.TheVariants as step
use Rattle.mg_link.specs.declared.error.Error.{Error}
use Rattle.mg_link.specs.declared.error.ErrorKind.TheVariants as kind
use Rattle.mg_ops.specs.Cursors.{batch_at}
use Rattle.mg_cursor.specs.Batches.{NoBatchIn, batch_in, documents_of}
use Rattle.mg_cursor.specs.Client.{ClientCursor, HasNext, client_ticket}
use Rattle.mg_chunks.specs.Chunks.{all_judged, missing_chunk}
use Rattle.mg_gridfs.specs.Downloads.{ClientDownload, Doing, ended_at, idle, most_empty, reads, sizes_of, spoiled_at}
use Rattle.mg_gridfs.specs.DownloadView.{HaveBytes, data_in, download_of}
use Rattle.mg_gridfs.specs.Reads.{EndsFetch, Fetches, FillsFront, HandsOut, Reads, SpoilsBatch, TakesBatch, TakesOne, enough, fails, waits}
use Rattle.mg_gridfs.specs.declared.download.GridFsDownloadStream.{GridFsDownloadStream}
use Rattle.mg_gridfs.specs.declared.download.Reading.{Reading}
use Rattle.mg_gridfs.specs.declared.download.Turn.{Turn}
use Rattle.mg_gridfs.specs.declared.download.Turn.TheVariants as turn
use Rattle.mg_chunks.specs.declared.judging.ReadPlace.{ReadPlace}
use Rattle.mg_gridfs.specs.declared.polls.ReadPoll.{ReadPoll}
use Rattle.mg_gridfs.specs.declared.polls.ReadPoll.TheVariants as read

-- a download, where it is doing this
abbrev pub fetching_of : GridFsDownloadStream → Doing → ClientDownload
fetching_of s doing = record (download_of s) { doing = doing }

-- a read goes on
abbrev pub reading_of : GridFsDownloadStream → Reading → ClientDownload
reading_of s r = fetching_of s (reads r.cursor r.missing r.empty)

-- ---- tickets and endings

abbrev pub turn_ticket : Turn → Option ℕ
turn_ticket (turn.Goes r) = client_ticket r.cursor
turn_ticket (turn.Waits r) = client_ticket r.cursor
turn_ticket (turn.Ends cursor) = client_ticket cursor
turn_ticket (turn.Fails e) = None

abbrev pub turn_ending : Turn → Ending
turn_ending (turn.Goes r) = finished
turn_ending (turn.Waits r) = pending
turn_ending (turn.Ends cursor) = finished
turn_ending (turn.Fails e) = failed e

abbrev pub fetching_ticket : Step Reading ClientCursor → Option ℕ
fetching_ticket (step.Pending r) = client_ticket r.cursor
fetching_ticket (step.Done cursor) = client_ticket cursor
fetching_ticket (step.Failed e) = None

-- ---- batches

-- one more batch, or what ends the taking
abbrev pub FetchTurns : Awaited → Awaited → LogTold → LogTold → ℤ → ClientDownload → GridFsDownloadStream → Turn → Type 0
FetchTurns old new log log' wire d s (turn.Goes r) = TakesOne old new log log' wire d (reading_of s r)
FetchTurns old new log log' wire d s (turn.Waits r) = EndsFetch old new log log' wire d (reading_of s r) waits
FetchTurns old new log log' wire d s (turn.Ends cursor) = EndsFetch old new log log' wire d (fetching_of s (idle cursor)) enough
FetchTurns old new log log' wire d s (turn.Fails e) = EndsFetch old new log log' wire d (spoiled_at (download_of s)) (fails e)

-- all batches of a poll
abbrev pub FetchesOn : Awaited → Awaited → LogTold → LogTold → ℤ → ClientDownload → GridFsDownloadStream → Step Reading ClientCursor → Type 0
FetchesOn old new log log' wire d s (step.Pending r) = (n : ℕ) × Fetches n old new log log' wire d (reading_of s r) waits
FetchesOn old new log log' wire d s (step.Done cursor) = (n : ℕ) × Fetches n old new log log' wire d (fetching_of s (idle cursor)) enough
FetchesOn old new log log' wire d s (step.Failed e) = (n : ℕ) × Fetches n old new log log' wire d (spoiled_at (download_of s)) (fails e)

-- a batch that came
abbrev pub TakesAs : ClientCursor → (missing empty : ℕ) → List ℕ → ClientDownload → GridFsDownloadStream → Turn → Type 0
TakesAs cursor missing empty reply d s (turn.Goes r) = TakesBatch cursor missing empty reply d (reading_of s r)
TakesAs cursor missing empty reply d s (turn.Waits r) = ⊥
TakesAs cursor missing empty reply d s (turn.Ends c) = ⊥
TakesAs cursor missing empty reply d s (turn.Fails e) = ((e ≡ plain kind.OutOfMemory) ⊎ SpoilsBatch empty reply d e) × (spoiled_at (download_of s) ≡ spoiled_at d)

-- how much is to come: bytes, and empty replies before the next of them
abbrev pub rank : (missing empty : ℕ) → ℕ
rank missing empty = missing * suc most_empty + (most_empty - empty)

-- it gets less
abbrev pub TurnFalls : (missing empty : ℕ) → Turn → Type 0
TurnFalls missing empty (turn.Goes r) = rank r.missing r.empty < rank missing empty
TurnFalls missing empty (turn.Waits r) = Unit {0}
TurnFalls missing empty (turn.Ends cursor) = Unit {0}
TurnFalls missing empty (turn.Fails e) = Unit {0}

-- an empty reply is counted, unless it is one too many
abbrev pub CountsEmpty : ClientCursor → (missing empty : ℕ) → Turn → Type 0
CountsEmpty cursor missing empty (turn.Goes r) = (suc empty < most_empty) × (r.cursor ≡ cursor) × (r.missing ≡ missing) × (r.empty ≡ suc empty)
CountsEmpty cursor missing empty (turn.Waits r) = ⊥
CountsEmpty cursor missing empty (turn.Ends c) = ⊥
CountsEmpty cursor missing empty (turn.Fails e) = (most_empty ≤ suc empty) × (e ≡ plain kind.EmptyBatches)

-- the chunks of the batch are in order
pub record LooksAt (d : ClientDownload) (missing : ℕ) (reply : List ℕ) (p : ReadPlace) : Type 0 where
  pub array : List ℕ
  pub is_array : IsDocument array
  pub bytes_are : batch_in reply ≡ Some array
  pub values_are : batch_at (fields reply) ≡ Ok (items array)
  pub chunks : List (List ℕ)
  pub in_order : all_judged (sizes_of d.file) d.taken (items array) ≡ Ok chunks
  pub taken : p.taken ≡ d.taken + length chunks
  pub few : p.taken ≤ 2 ^ 31
  pub missing_is : p.missing ≡ missing - length (concat chunks)

-- there is no batch, or one of its chunks differs from the record
pub data Differs (d : ClientDownload) (reply : List ℕ) (e : Error) : Type 0 where
  no_batch : NoBatchIn (fields reply) e → Differs d reply e
  differs : (batch : Items) → batch_at (fields reply) ≡ Ok batch → all_judged (sizes_of d.file) d.taken batch ≡ Err e → Differs d reply e

-- its items are documents, each of which holds bytes, and one is there
pub record HasChunks (reply : List ℕ) : Type 0 where
  pub first : List ℕ
  pub more : List (List ℕ)
  pub there : documents_of reply ≡ Some (first ∷ more)
  pub bytes : HaveBytes (first ∷ more)

-- it is in hand behind those before
pub record KeepsBatch (s s' : GridFsDownloadStream) (taken : ℕ) (reply : List ℕ) : Type 0 where
  pub documents : List (List ℕ)
  pub there : documents_of reply ≡ Some documents
  pub behind : download_of s' ≡ record (download_of s) { taken = taken; ahead = (download_of s).ahead ++ concat (map data_in documents) }

-- ---- what is given

-- so many bytes were given, and none is left
pub data PassesOn (cursor : ClientCursor) (d : ClientDownload) (count : ℕ) (d' : ClientDownload) (r : ReadPoll) : Type 0 where
  has_next : HasNext cursor → d' ≡ record d { doing = idle cursor } → r ≡ read.Read count → PassesOn cursor d count d' r
  is_whole : (HasNext cursor → ⊥) → d.taken ≡ d.count → d' ≡ ended_at d → r ≡ read.Read count → PassesOn cursor d count d' r
  other_count : (HasNext cursor → ⊥) → d.taken ≢ d.count → d' ≡ spoiled_at d → r ≡ read.Failed (missing_chunk d.taken) → PassesOn cursor d count d' r

abbrev pub GivesAs : ClientCursor → (before now : List ℕ) → ClientDownload → ClientDownload → ReadPoll → Type 0
GivesAs cursor before now d d' r = (given : List ℕ) × HandsOut (length before) cursor d d' given r × FillsFront before now given r

abbrev pub ReadsAs : Awaited → Awaited → LogTold → LogTold → ℤ → (before now : List ℕ) → ClientDownload → ClientDownload → ReadPoll → Type 0
ReadsAs old new log log' wire before now d d' r = (given : List ℕ) × Reads old new log log' wire (length before) d d' given r × FillsFront before now given r
