-- What an upload knows of its file in every legal history in which the log stands (GridFS specification, "File Upload": the chunks are stored first, and the record of the files collection last).
use Rattle.std.specs.Prelude.{◌≡◌, ◌⊎◌, ◌≤◌, ℕ, ℤ, Option, Some, None, List, [], ◌∷◌, length, slice_get, take}
use Rattle.mg_bson.specs.Tree.{Tree, Fields}
use Rattle.mg_server.specs.Calls.{IsOwn, Past, past_of}
use Rattle.mg_server.specs.Commands.{Told, asked, deleted, inserted, told}
use Rattle.mg_link.specs.Exec.{Stage, first, second, unsent}
use Rattle.mg_server.specs.Files.{Bucket, File, LeavesFile, file_of}
use Rattle.mg_server.specs.Follow.{CameAs}
use Rattle.mg_server.specs.History.{Step, IsLegal, state_of, step_after, told_at}
use Rattle.mg_link.specs.Link as link
use Rattle.mg_link.specs.Link.{Awaited}
use Rattle.mg_link.specs.Log.{Call}
use Rattle.mg_server.specs.Owner.{IsOf}
use Rattle.mg_server.specs.Standing.{Stands}
use Rattle.mg_server.specs.State.{State}
use Rattle.mg_server.specs.Step.{May}

-- ---- files as an upload leaves them

-- these chunks, and no record
abbrev pub part : List Fields → File
part chunks = record { records = []; chunks = chunks }

-- these chunks, and this record alone
abbrev pub whole_with : Fields → List Fields → File
whole_with record_of chunks = record { records = record_of ∷ []; chunks = chunks }

abbrev pub no_file : File
no_file = part []

-- ---- what is known of a file

-- How a file stands; the number is the place in the log of the call that is waited for, where the log is told, and the command is what it sent.
pub data Filing : Type 0 where
  -- it is so
  stays : (file : File) → Filing
  -- an insert is in flight, and once it is done the file is so
  becomes : (place : Option ℕ) (command : List ℕ) (file : File) → Filing
  -- a write failed, and may have come to anything
  unknown : Filing
  -- the deletion of its chunks is in flight, or was done
  clears : (place : Option ℕ) (command : List ℕ) → Filing
  cleared : Filing

-- the call that is waited for
abbrev pub waited : Filing → Option ℕ
waited (stays file) = None
waited (becomes place command file) = place
waited unknown = None
waited (clears place command) = place
waited cleared = None

-- behind an insert that leads from one file to another: as it was, as long as the insert was not sent
abbrev pub insert_at : Awaited → List ℕ → File → File → Stage → Filing
insert_at awaited command file file' unsent = stays file
insert_at awaited command file file' (first ticket) = becomes (awaited ticket) command file'
insert_at awaited command file file' (second ticket) = becomes (awaited ticket) command file'

-- behind a deletion
abbrev pub removal_at : Awaited → List ℕ → Stage → Filing
removal_at awaited command unsent = unknown
removal_at awaited command (first ticket) = clears (awaited ticket) command
removal_at awaited command (second ticket) = clears (awaited ticket) command

-- the reply to an insert lists no failure
abbrev pub HasInserted : Told → Type 0
HasInserted said = (n : ℤ) × (said ≡ inserted n [])

-- the reply to a deletion lists no failure
abbrev pub HasDeleted : Told → Type 0
HasDeleted said = (n : ℤ) × (said ≡ deleted n [])

abbrev pub FileAs : List Call → List Step → Bucket → Tree → Filing → Type 0
FileAs calls history b id (stays file) = file_of (state_of history) b id ≡ file
FileAs calls history b id (becomes place command file) = (position : ℕ) (step : Step) → CameAs calls history place position step → HasInserted (told (asked command) step.reply) → file_of (state_of history) b id ≡ file
FileAs calls history b id unknown = Unit {0}
FileAs calls history b id (clears place command) = (position : ℕ) (step : Step) → CameAs calls history place position step → HasDeleted (told (asked command) step.reply) → (file_of (state_of history) b id).chunks ≡ []
FileAs calls history b id cleared = (file_of (state_of history) b id).chunks ≡ []

-- ---- who writes

-- the step at this position is that of a call which the upload sent
pub record IsOwnStep (past : Past) (position : ℕ) : Type 0 where
  pub place : ℕ
  pub own : IsOwn past place
  pub call : Call
  pub there : slice_get past.calls place ≡ Some call
  pub placed : call.position ≡ Some position

-- From one position on nobody else touches the file: each step that is not the upload's own leaves it as it was. Nothing of it was there, and the upload had no step before.
pub record OthersLeave (past : Past) (history : List Step) (b : Bucket) (id : Tree) : Type 0 where
  pub from : ℕ
  pub nothing : file_of (state_of (take from history)) b id ≡ no_file
  pub later : (position : ℕ) → IsOwnStep past position → from ≤ position
  pub each : (position : ℕ) (step : Step) → from ≤ position → slice_get history position ≡ Some step → IsOwnStep past position ⊎ LeavesFile (state_of (take position history)) step b id

-- ---- what an upload knows

-- nothing of the file is said to be there
abbrev pub SaysNothing : Filing → Type 0
SaysNothing (stays file) = file ≡ no_file
SaysNothing (becomes place command file) = Unit {0}
SaysNothing unknown = Unit {0}
SaysNothing (clears place command) = Unit {0}
SaysNothing cleared = Unit {0}

-- In every legal history in which the log stands and nobody else touches the file, it is as the upload takes it to be.
pub record KnowsFile (past : Past) (b : Bucket) (id : Tree) (filing : Filing) : Type 0 where
  -- the calls that it sent are in the log, and that which it waits for is one of them
  pub in_log : (place : ℕ) → IsOf past.places place → (call : Call) × (slice_get past.calls place ≡ Some call)
  pub room : past.since ≤ length past.calls
  pub flies : (place : ℕ) → waited filing ≡ Some place → IsOwn past place × ((call : Call) × (slice_get past.calls place ≡ Some call))
  pub each : (history : List Step) → IsLegal history → Stands past.calls history → OthersLeave past history b id → FileAs past.calls history b id filing
  -- as long as no call of it took effect
  pub none : (history : List Step) → IsLegal history → Stands past.calls history → ((position : ℕ) → IsOwnStep past position → ⊥) → SaysNothing filing

-- ---- what its commands do

-- where it is done, an insert leads from one file to another
abbrev pub Makes : List ℕ → Bucket → Tree → File → File → Type 0
Makes command b id file file' = (s : State) (step : Step) → step.command ≡ command → May s (asked step.command) (told_at step) step.made → HasInserted (told_at step) → file_of s b id ≡ file → file_of (step_after s step) b id ≡ file'

-- where it is done, a deletion leaves no chunk
abbrev pub Clears : List ℕ → Bucket → Tree → Type 0
Clears command b id = (s : State) (step : Step) → step.command ≡ command → May s (asked step.command) (told_at step) step.made → HasDeleted (told_at step) → (file_of (step_after s step) b id).chunks ≡ []

-- whatever a server replies, a command leaves the file
abbrev pub Leaves : List ℕ → Bucket → Tree → Type 0
Leaves command b id = (s : State) (step : Step) → step.command ≡ command → May s (asked step.command) (told_at step) step.made → LeavesFile s step b id

-- ---- moves

-- An upload went from one log and file to another: it goes on knowing. What it sent at these places before, and what was added to the log, is its own.
abbrev pub FileMoved : link.LogTold → link.LogTold → ℤ → Bucket → Tree → Filing → Filing → Type 0
FileMoved log log' wire b id filing filing' = (calls : List Call) → log ≡ Some calls → (places : List ℕ) → KnowsFile (past_of places (length calls) calls wire) b id filing
    → (calls' : List Call) × (log' ≡ Some calls') × KnowsFile (past_of places (length calls) calls' wire) b id filing'
