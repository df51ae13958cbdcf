-- Laws of files.
use Rattle.std.specs.Prelude.{◌≡◌, ◌⊎◌, ◌<◌, ◌≤◌, ◌*◌, ◌++◌, ℕ, ℤ, codes, false, not, List, [], length, Option, Some, slice_get, take, Ok}
use Rattle.std.specs.List.{filter}
use Rattle.mg_bson.specs.Raw.{fields}
use Rattle.mg_bson.specs.Tree.{Fields, Tree}
use Rattle.mg_server.specs.Calls.{IsOwn, Past, past_of}
use Rattle.mg_server.specs.Commands.{asked, told}
use Rattle.mg_link.specs.Exec.{Sending}
use Rattle.mg_link.specs.Chunks.{chunked}
use Rattle.mg_server.specs.Files.{AreChunks, Bucket, IsWhole, has_value, file_of}
use Rattle.mg_server.specs.Filing.{HasDeleted, HasInserted, IsOwnStep, OthersLeave, part}
use Rattle.mg_server.specs.Follow.{CameAs}
use Rattle.mg_server.specs.Filter.{meets}
use Rattle.mg_server.specs.History.{IsLegal, Step, state_of, step_after, told_at}
use Rattle.mg_link.specs.Link.{Awaited}
use Rattle.mg_link.specs.Log.{Call}
use Rattle.mg_link.specs.Namespace.{Space}
use Rattle.mg_server.specs.Owner.{IsGrown, IsOf, Onward, nobody}
use Rattle.mg_server.specs.Standing.{Stands}
use Rattle.mg_server.specs.State.{State, is_space}
use Rattle.mg_server.specs.Step.{May, documents_of}
use Rattle.mg_options.specs.Fields.{fields_in}
use Rattle.mg_ops.specs.Naming.{IsNamed}
use Rattle.mg_chunks.specs.Sizes.{chunk_count, chunk_length}
use Rattle.mg_records.specs.FileRecords.{file_record_of}
use Rattle.mg_gridfs.specs.Buckets.{ClientBucket, IsAt, IsSize}
use Rattle.mg_gridfs.specs.Commands.{deletion_lines, record_document}
use Rattle.mg_gridfs.specs.Storing.{HasStored, KnowsUpload}
use Rattle.mg_gridfs.specs.Uploads.{Aim, ClientUpload, Ending, IsBetween, busy, close, fresh_upload, idle, records, upload_ticket}

-- ---- chunks

-- Full chunks are cut off by themselves: however bytes are written in pieces, their chunks are the same.
abbrev pub CutsJoin : Type 0
CutsJoin = (n size : ℕ) (a b : List ℕ) → 0 < size → length a ≡ n * size → chunked size (a ++ b) ≡ chunked size a ++ chunked size b

-- the number of chunks is the length divided by their size, rounded up, and each has its expected length
pub record CutsAsCounted (size : ℕ) (bytes : List ℕ) : Type 0 where
  pub count : length (chunked size bytes) ≡ chunk_count (length bytes) size
  pub each : (n : ℕ) (chunk : List ℕ) → slice_get (chunked size bytes) n ≡ Some chunk → length chunk ≡ chunk_length (length bytes) size n

-- ---- records

-- the record that an upload stores is read as that of its file
abbrev pub RecordIsRead : Type 0
RecordIsRead = (id : Tree) (length size : ℕ) (moment : ℤ) (filename : List ℕ) (metadata : Option Fields) → 0 < size
    → file_record_of (record_document id length size moment filename metadata) ≡ Ok (record { id = id; length = length; chunk_size = size; upload_date = moment; filename = Some filename; metadata = metadata })

-- ---- uploads

-- an upload that has taken nothing knows that nothing of its file is there
abbrev pub UploadBegins : Type 0
UploadBegins = (awaited : Awaited) (calls : List Call) (wire : ℤ) (at : Bucket) (aim : Aim) → IsAt aim.bucket at → IsNamed aim.bucket.files → IsNamed aim.bucket.chunks → KnowsUpload awaited (past_of [] (length calls) calls wire) at (fresh_upload aim) []

-- these places are those before, and all from one place up to another
pub record IsSettled (places : List ℕ) (since upto : ℕ) (places' : List ℕ) : Type 0 where
  pub kept : (k : ℕ) → IsOf places k → IsOf places' k
  pub added : (k : ℕ) → since ≤ k → k < upto → IsOf places' k
  pub only : (k : ℕ) → IsOf places' k → IsOf places k ⊎ ((since ≤ k) × (k < upto))

-- what it sent in a poll that has ended counts as sent before
abbrev pub UploadsSettle : Type 0
UploadsSettle = (awaited : Awaited) (calls calls' : List Call) (wire : ℤ) (places places' : List ℕ) (at : Bucket) (u : ClientUpload) (taken : List ℕ) → IsSettled places (length calls) (length calls') places' → KnowsUpload awaited (past_of places (length calls) calls' wire) at u taken → KnowsUpload awaited (past_of places' (length calls') calls' wire) at u taken

-- it goes on knowing while others call, which leave its ticket alone
abbrev pub UploadsGoOn : Type 0
UploadsGoOn = (old new : Awaited) (calls calls' : List Call) (wire : ℤ) (places : List ℕ) (at : Bucket) (u : ClientUpload) (taken : List ℕ) → Onward calls calls' nobody → ((m : ℕ) → upload_ticket u ≡ Some m → new m ≡ old m)
    → KnowsUpload old (past_of places (length calls) calls wire) at u taken → KnowsUpload new (past_of places (length calls') calls' wire) at u taken

-- ---- what this says of a server

-- Between two calls the chunks in the store are those of the bytes taken, up to less than one chunk that is behind; no record is there.
pub record HasPart (history : List Step) (at : Bucket) (u : ClientUpload) (taken : List ℕ) : Type 0 where
  pub stored : List ℕ
  pub parts : taken ≡ stored ++ u.behind
  pub even : length stored ≡ u.sent * u.aim.size
  pub chunks : List Fields
  pub chunks_are : AreChunks 0 (chunked u.aim.size stored) chunks
  pub file_is : file_of (state_of history) at u.aim.id ≡ part chunks

-- in every legal history in which the log stands and nobody else touches the file
pub record UploadStores (awaited : Awaited) (calls : List Call) (wire : ℤ) (places : List ℕ) (at : Bucket) (u : ClientUpload) (taken : List ℕ) : Type 0 where
  pub idle_so : u.doing ≡ idle → KnowsUpload awaited (past_of places (length calls) calls wire) at u taken → (history : List Step) → IsLegal history → Stands calls history → OthersLeave (past_of places (length calls) calls wire) history at u.aim.id → HasPart history at u taken
  -- While the record is on its way: where the server took its insert the file is whole, before the reply has come.
  pub recorded_so : IsBetween u → (sending : Sending) (ending : Ending) → u.doing ≡ busy close (records sending ending) → (ticket : ℕ) → upload_ticket u ≡ Some ticket → KnowsUpload awaited (past_of places (length calls) calls wire) at u taken
      → (history : List Step) → IsLegal history → Stands calls history → OthersLeave (past_of places (length calls) calls wire) history at u.aim.id
      → (position : ℕ) (step : Step) → CameAs calls history (awaited ticket) position step → HasInserted (told (asked sending.command) step.reply) → IsWhole (state_of history) at u.aim.id taken u.aim.size
  pub stored_so : IsSize u.aim.size → HasStored (past_of places (length calls) calls wire) at u taken → (history : List Step) → IsLegal history → Stands calls history → OthersLeave (past_of places (length calls) calls wire) history at u.aim.id → IsWhole (state_of history) at u.aim.id taken u.aim.size

-- ---- behind the record

-- A later log: the calls of the earlier one stand in it, and the same of them are the upload's.
pub record IsLater (past past' : Past) : Type 0 where
  pub grown : IsGrown past.calls past'.calls
  pub own : (place : ℕ) → place < length past.calls → IsOwn past place → IsOwn past' place
  pub only : (place : ℕ) → place < length past.calls → IsOwn past' place → IsOwn past place

-- the step at this position is the upload's newest
pub record IsNewestStep (past : Past) (position : ℕ) : Type 0 where
  pub own : IsOwnStep past position
  pub newest : (other : ℕ) → IsOwnStep past other → other ≤ position

-- behind this position the file is whole, up to the upload's next step
abbrev pub WholeFrom : Past → List Step → Bucket → ClientUpload → List ℕ → ℕ → Type 0
WholeFrom past history at u taken position = (upto : ℕ) → position < upto → ((other : ℕ) → IsOwnStep past other → position < other → upto ≤ other) → IsWhole (state_of (take upto history)) at u.aim.id taken u.aim.size

-- Whatever comes later, in every legal history in which the later log stands and nobody else touches the file, it is whole at each position behind the step of its record.
pub record UploadStaysWhole (awaited : Awaited) (past past' : Past) (at : Bucket) (u : ClientUpload) (taken : List ℕ) : Type 0 where
  -- So it is while the record is on its way, where the server took its insert, until the upload is to remove its chunks.
  pub recorded_so : IsBetween u → (sending : Sending) (ending : Ending) → u.doing ≡ busy close (records sending ending) → (ticket : ℕ) → upload_ticket u ≡ Some ticket → KnowsUpload awaited past at u taken → IsLater past past'
      → (history : List Step) → IsLegal history → Stands past'.calls history → OthersLeave past' history at u.aim.id → (position : ℕ) (step : Step) → CameAs past.calls history (awaited ticket) position step → IsNewestStep past position → HasInserted (told (asked sending.command) step.reply) → WholeFrom past' history at u taken position
  -- Once the close is done its newest step is that of its record.
  pub stored_so : HasStored past at u taken → IsLater past past' → (history : List Step) → IsLegal history → Stands past'.calls history → OthersLeave past' history at u.aim.id → (position : ℕ) → IsNewestStep past position → WholeFrom past' history at u taken position

-- ---- removals

-- a removal takes the chunks of its file and nothing else
pub record RemovesAlone (s : State) (step : Step) (b : ClientBucket) (id : Tree) : Type 0 where
  pub none_left : filter (meets (has_value (codes "files_id") id)) (documents_of (step_after s step) b.chunks) ≡ []
  pub others : filter (λ d. not (meets (has_value (codes "files_id") id) d)) (documents_of (step_after s step) b.chunks) ≡ filter (λ d. not (meets (has_value (codes "files_id") id) d)) (documents_of s b.chunks)
  pub elsewhere : (space : Space) → is_space space b.chunks ≡ false → documents_of (step_after s step) space ≡ documents_of s space

abbrev pub RemovalsAreAlone : Type 0
RemovalsAreAlone = (s : State) (step : Step) (b : ClientBucket) (id : Tree) → IsNamed b.chunks → fields step.command ≡ fields_in (deletion_lines b id) → May s (asked step.command) (told_at step) step.made → HasDeleted (told_at step) → RemovesAlone s step b id
