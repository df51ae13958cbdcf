-- A download as its client keeps it (GridFS specification, "File Download").
use Rattle.std.specs.Prelude.{◌≡◌, ◌≢◌, ◌<◌, ◌≤◌, ◌^◌, ◌+◌, ℕ, zero, suc, true, List, [], length, Option, None, Ok}
use Rattle.mg_link.specs.declared.pinned.PinnedConnection.TheVariants as connection
use Rattle.mg_chunks.specs.declared.sizes.FileSizes.{FileSizes}
use Rattle.mg_cursor.specs.Client as client
use Rattle.mg_cursor.specs.Client.{ClientCursor, IsSound, client_ticket}
use Rattle.mg_chunks.specs.Sizes.{chunk_count_of, chunk_length}
use Rattle.mg_records.specs.FileRecords.{FileRecord}

-- ---- the file

-- the sizes that its record says
abbrev pub sizes_of : FileRecord → FileSizes
sizes_of f = record { length = f.length; chunk_size = f.chunk_size }

-- how many bytes the first chunks of a file have
abbrev pub received : FileRecord → ℕ → ℕ
received f zero = 0
received f (suc n) = received f n + chunk_length f.length f.chunk_size n

-- ---- the download

pub data Doing : Type 0 where
  idle : (cursor : ClientCursor) → Doing
  -- a read goes on, for which so many bytes are missing; the last replies, so many, were empty
  reads : (cursor : ClientCursor) (missing empty : ℕ) → Doing
  -- all bytes of the file were given
  ended : Doing
  -- a read failed
  spoiled : Doing

pub record ClientDownload : Type 0 where
  pub file : FileRecord
  -- how many chunks it is to have, and how many were received
  pub count : ℕ
  pub taken : ℕ
  -- the bytes received and not given
  pub ahead : List ℕ
  pub doing : Doing

-- behind its end
abbrev pub ended_at : ClientDownload → ClientDownload
ended_at d = record d { ahead = []; doing = ended }

-- behind an error
abbrev pub spoiled_at : ClientDownload → ClientDownload
spoiled_at d = record d { ahead = []; doing = spoiled }

-- ---- tickets

abbrev pub ticket_by : Doing → Option ℕ
ticket_by (idle cursor) = client_ticket cursor
ticket_by (reads cursor missing empty) = client_ticket cursor
ticket_by ended = None
ticket_by spoiled = None

-- the ticket that is held
abbrev pub download_ticket : ClientDownload → Option ℕ
download_ticket d = ticket_by d.doing

-- ---- what each download keeps

-- the most empty replies in a row that a read takes
abbrev pub most_empty : ℕ
most_empty = 1000

-- nothing is on its way
abbrev pub IsAtRest : client.Doing → Type 0
IsAtRest client.rests = Unit {0}
IsAtRest (client.holds reply) = Unit {0}
IsAtRest (client.asks sending) = ⊥

abbrev pub IsWaiting : client.Doing → Type 0
IsWaiting client.rests = ⊥
IsWaiting (client.holds reply) = ⊥
IsWaiting (client.asks sending) = Unit {0}

-- the record counts its chunks, and those received have numbers
pub record HasSizes (d : ClientDownload) : Type 0 where
  pub counted : chunk_count_of d.file.length d.file.chunk_size ≡ Ok d.count
  pub few : d.taken ≤ 2 ^ 31
  -- what was given, and what is ahead, are the chunks received
  pub given : ℕ
  pub parts : d.doing ≢ spoiled → given + length d.ahead ≡ received d.file d.taken

-- while a read goes on
pub record IsReading (cursor : ClientCursor) (missing empty : ℕ) : Type 0 where
  pub sound : IsSound true cursor
  pub few : empty < most_empty
  pub rests_so : missing ≡ 0 → cursor.doing ≡ client.rests

-- it is bound to no connection
abbrev pub IsFree : ClientCursor → Type 0
IsFree cursor = cursor.pinned ≡ connection.Unpinned

abbrev pub SoundBy : ClientDownload → Doing → Type 0
SoundBy d (idle cursor) = IsFree cursor × IsSound true cursor × IsAtRest cursor.doing × (d.ahead ≢ [] → cursor.doing ≡ client.rests)
SoundBy d (reads cursor missing empty) = IsFree cursor × IsReading cursor missing empty × (missing ≡ 0 → d.ahead ≢ [])
SoundBy d ended = (d.ahead ≡ []) × (d.taken ≡ d.count)
SoundBy d spoiled = d.ahead ≡ []

-- What is on its way is the next batch of its chunks.
pub record IsSoundDownload (d : ClientDownload) : Type 0 where
  pub sizes : HasSizes d
  pub by : SoundBy d d.doing

-- a read that goes on waits for a reply
abbrev pub RestsBy : Doing → Type 0
RestsBy (idle cursor) = Unit {0}
RestsBy (reads cursor missing empty) = (0 < missing) × IsWaiting cursor.doing
RestsBy ended = Unit {0}
RestsBy spoiled = Unit {0}

pub record IsBetween (d : ClientDownload) : Type 0 where
  pub sound : IsSoundDownload d
  pub rests_so : RestsBy d.doing

-- ---- new downloads

-- a file whose chunks are listed by this cursor
abbrev pub new_download : FileRecord → ℕ → ClientCursor → ClientDownload
new_download f count cursor = record { file = f; count = count; taken = 0; ahead = []; doing = idle cursor }

-- a file without bytes
abbrev pub empty_download : FileRecord → ClientDownload
empty_download f = record { file = f; count = 0; taken = 0; ahead = []; doing = ended }
