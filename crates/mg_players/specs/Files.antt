-- What the answers of puts and gets say of their files, in every legal history in which the log stands (GridFS specification, "File Upload" and "File Download").
use Rattle.std.specs.Prelude.{◌≡◌, ◌⊎◌, ◌<◌, ◌≤◌, ◌++◌, ℕ, suc, List, [], ◌∷◌, length, Some, Ok, slice_get, take}
use Rattle.std.specs.List.{concat}
use Rattle.mg_bson.specs.Tree.{Fields, Tree}
use Rattle.mg_link.specs.Namespace.{as_database}
use Rattle.mg_server.specs.Commands.{asked, asks_query}
use Rattle.mg_server.specs.Files.{Bucket, IsWhole, LeavesFile, chunks_space, file_of, files_space}
use Rattle.mg_server.specs.Filing.{no_file}
use Rattle.mg_server.specs.History.{IsLegal, Step, state_of}
use Rattle.mg_link.specs.Log.{Call}
use Rattle.mg_server.specs.Query.{Query}
use Rattle.mg_server.specs.Standing.{Stands}
use Rattle.mg_link.specs.declared.error.Error.{Error}
use Rattle.mg_link.specs.declared.error.ErrorKind.{ErrorKind}
use Rattle.mg_link.specs.declared.error.ErrorKind.TheVariants as kind
use Rattle.mg_link.specs.declared.error.GridFsErrorKind.TheVariants as grid
use Rattle.mg_link.specs.declared.error.Malformed.TheVariants as malformed
use Rattle.mg_chunks.specs.Sizes.{chunk_count_of}
use Rattle.mg_records.specs.FileRecords.{FileRecord, file_record_of}
use Rattle.mg_chunks.specs.Broken.{Breaks}
use Rattle.mg_gridfs.specs.Downloaded.{AreReceived, chunks_query, record_query}
use Rattle.mg_players.specs.Causes.{Course, SentIn}
use Rattle.mg_players.specs.Reading.{AsksFor, Differ}

-- ---- the steps of a job

-- the step at this position is that of a command which a turn of job i sent
pub record IsStepOf (c : Course) (i : ℕ) (calls : List Call) (position : ℕ) : Type 0 where
  pub done : ℕ
  pub place : ℕ
  pub sent : SentIn c i done place
  pub call : Call
  pub there : slice_get calls place ≡ Some call
  pub placed : call.position ≡ Some position

pub record IsFirstStepOf (c : Course) (i : ℕ) (calls : List Call) (position : ℕ) : Type 0 where
  pub own : IsStepOf c i calls position
  pub first : (other : ℕ) → IsStepOf c i calls other → position ≤ other

pub record IsLastStepOf (c : Course) (i : ℕ) (calls : List Call) (position : ℕ) : Type 0 where
  pub own : IsStepOf c i calls position
  pub last : (other : ℕ) → IsStepOf c i calls other → other ≤ position

-- nobody but job i touches the file by a step from one position on, up to another
abbrev pub OthersLeaveFrom : Course → ℕ → List Call → List Step → Bucket → Tree → (from upto : ℕ) → Type 0
OthersLeaveFrom c i calls history b id from upto = (position : ℕ) (step : Step) → from ≤ position → position < upto → slice_get history position ≡ Some step
    → IsStepOf c i calls position ⊎ LeavesFile (state_of (take position history)) step b id

-- From one position on nobody but job i touches the file. Nothing of it was there, and job i had no step before: so a file may be stored anew behind its deletion.
pub record OthersLeave (c : Course) (i : ℕ) (calls : List Call) (history : List Step) (b : Bucket) (id : Tree) : Type 0 where
  pub from : ℕ
  pub nothing : file_of (state_of (take from history)) b id ≡ no_file
  pub later : (position : ℕ) → IsStepOf c i calls position → from ≤ position
  pub leave : OthersLeaveFrom c i calls history b id from (length history)

-- ---- what they come to

-- Where nobody else touches it, the file is whole right behind the last step of job i, and from then on: its chunks are those of these bytes.
abbrev pub LeftWhole : Course → ℕ → List Call → Bucket → Tree → List ℕ → ℕ → Type 0
LeftWhole c i calls b id bytes size = (history : List Step) → IsLegal history → Stands calls history → OthersLeave c i calls history b id → (last upto : ℕ) → IsLastStepOf c i calls last → last < upto
    → IsWhole (state_of (take upto history)) b id bytes size

-- Where nobody else touches the file, no chunk of it is there right behind the last step of job i, and from then on.
abbrev pub LeftNoChunk : Course → ℕ → List Call → Bucket → Tree → Type 0
LeftNoChunk c i calls b id = (history : List Step) → IsLegal history → Stands calls history → OthersLeave c i calls history b id → (last upto : ℕ) → IsLastStepOf c i calls last → last < upto
    → (file_of (state_of (take upto history)) b id).chunks ≡ []

-- Whatever file was whole before the first step of job i, and was touched by nobody up to its last one, has these bytes.
abbrev pub GaveFile : Course → ℕ → List Call → Bucket → Tree → List ℕ → Type 0
GaveFile c i calls b id bytes = (history : List Step) → IsLegal history → Stands calls history → (first last : ℕ) → IsFirstStepOf c i calls first → IsLastStepOf c i calls last → OthersLeaveFrom c i calls history b id first last
    → (whole : List ℕ) (size : ℕ) → IsWhole (state_of (take first history)) b id whole size → bytes ≡ whole

-- ---- the steps by which a job reads a file

-- the step at this position asks for what a query finds
pub record AsksAt (history : List Step) (position : ℕ) (q : Query) : Type 0 where
  pub step : Step
  pub there : slice_get history position ≡ Some step
  pub asks : asked step.command ≡ asks_query q

-- In this history job i asked by a step of its own for the record of a file; this one stood first there.
pub record FoundFirst (c : Course) (i : ℕ) (calls : List Call) (history : List Step) (b : Bucket) (id : Tree) : Type 0 where
  pub opened : ℕ
  pub found_so : IsStepOf c i calls opened
  pub finds : AsksAt history opened (record_query (files_space b) id)
  pub first : Fields
  pub more : List Fields
  pub stood : (file_of (state_of (take (suc opened) history)) b id).records ≡ first ∷ more

-- In this history job i listed the chunks of the file with this record by a step of its own behind this position; those that stood there are so.
pub record ListedLater (c : Course) (i : ℕ) (calls : List Call) (history : List Step) (b : Bucket) (opened : ℕ) (file : FileRecord) (So : List Fields → Type 0) : Type 0 where
  pub fetched : ℕ
  pub later : opened < fetched
  pub listed_so : IsStepOf c i calls fetched
  pub lists : AsksAt history fetched (chunks_query (chunks_space b) file.id)
  pub chunks_so : So (file_of (state_of (take (suc fetched) history)) b file.id).chunks

-- ---- bytes that were read

-- The first of the chunks that stood, each with its number, from 0 on, and as long as the record says, hold these bytes.
pub record FirstHold (file : FileRecord) (bytes : List ℕ) (stood : List Fields) : Type 0 where
  pub chunks : List (List ℕ)
  pub documents : List Fields
  pub left : List Fields
  pub cut : stood ≡ documents ++ left
  pub received : AreReceived file 0 chunks documents
  pub together : concat chunks ≡ bytes

-- The command at this place asked for the chunks of the file; so are those that stood as it took effect, in each legal history in which the log stands.
pub record ListsSo (calls : List Call) (b : Bucket) (file : FileRecord) (listed : ℕ) (So : List Fields → Type 0) : Type 0 where
  pub asked_so : AsksFor calls listed (chunks_query (chunks_space b) file.id)
  pub each : (history : List Step) → IsLegal history → Stands calls history → (position : ℕ) × (asked_so.call.position ≡ Some position) × So (file_of (state_of (take (suc position) history)) b file.id).chunks

-- All chunks that stood, each with its number, from 0 on, and as long as the record says, are as many as it says, and hold these bytes.
pub record AllHold (file : FileRecord) (bytes : List ℕ) (stood : List Fields) : Type 0 where
  pub chunks : List (List ℕ)
  pub received : AreReceived file 0 chunks stood
  pub counted : chunk_count_of file.length file.chunk_size ≡ Ok (length chunks)
  pub together : concat chunks ≡ bytes

-- In this history job i found a record by a step of its own, the first that stood, which reads as this one. By it the file has no bytes, and these are none; or a
-- later step of job i listed the chunks of the file, and those that stood there hold these bytes.
pub record ReadsFile (Hold : FileRecord → List ℕ → List Fields → Type 0) (c : Course) (i : ℕ) (calls : List Call) (history : List Step) (b : Bucket) (id : Tree) (file : FileRecord) (bytes : List ℕ) : Type 0 where
  pub found : FoundFirst c i calls history b id
  pub reads_as : file_record_of found.first ≡ Ok file
  pub bytes_so : ((file.length ≡ 0) × (bytes ≡ [])) ⊎ ListedLater c i calls history b found.opened file (Hold file bytes)

-- In each legal history in which the log stands job i read a file so, and these bytes begin what the first of its chunks hold.
pub record HasReadFront (c : Course) (i : ℕ) (calls : List Call) (b : Bucket) (id : Tree) (bytes : List ℕ) : Type 0 where
  pub file : FileRecord
  pub more : List ℕ
  pub reads : (history : List Step) → IsLegal history → Stands calls history → ReadsFile FirstHold c i calls history b id file (bytes ++ more)

-- In each of them job i read a file so, and these bytes are just those that all of its chunks hold.
pub record HasReadAll (c : Course) (i : ℕ) (calls : List Call) (b : Bucket) (id : Tree) (bytes : List ℕ) : Type 0 where
  pub file : FileRecord
  pub reads : (history : List Step) → IsLegal history → Stands calls history → ReadsFile AllHold c i calls history b id file bytes

-- ---- chunks that are blamed

-- an error says that a chunk is missing, has another length, or is none
abbrev pub BlamesChunk : ErrorKind → Type 0
BlamesChunk (kind.GridFs (grid.MissingChunk n)) = Unit {0}
BlamesChunk (kind.GridFs (grid.WrongSizeChunk n actual expected)) = Unit {0}
BlamesChunk (kind.InvalidResponse malformed.BadChunk) = Unit {0}
BlamesChunk _ = ⊥

-- No file of this id was whole before the first step of job i, and touched by nobody up to its last one.
abbrev pub NeverWhole : Course → ℕ → List Call → Bucket → Tree → Type 0
NeverWhole c i calls b id = (history : List Step) → IsLegal history → Stands calls history → (first last : ℕ) → IsFirstStepOf c i calls first → IsLastStepOf c i calls last → OthersLeaveFrom c i calls history b id first last
    → (whole : List ℕ) (size : ℕ) → IsWhole (state_of (take first history)) b id whole size → ⊥

-- In this history job i found a record by one step of its own, the first that stood, and listed the chunks of its file by a later one. Those that stood there are not
-- what the record says, as the error tells.
pub record ReadsOther (c : Course) (i : ℕ) (calls : List Call) (history : List Step) (b : Bucket) (id : Tree) (e : Error) : Type 0 where
  pub found : FoundFirst c i calls history b id
  pub file : FileRecord
  pub reads_as : file_record_of found.first ≡ Ok file
  pub count : ℕ
  pub counted : chunk_count_of file.length file.chunk_size ≡ Ok count
  pub fetched : ℕ
  pub later : found.opened < fetched
  pub listed_so : IsStepOf c i calls fetched
  pub lists : AsksAt history fetched (chunks_query (chunks_space b) file.id)
  pub differ : Differ file count (file_of (state_of (take (suc fetched) history)) b file.id).chunks e

-- so it is in each legal history in which the log stands
abbrev pub HasReadOther : Course → ℕ → List Call → Bucket → Tree → Error → Type 0
HasReadOther c i calls b id e = (history : List Step) → IsLegal history → Stands calls history → ReadsOther c i calls history b id e

-- ---- documents that break their grammar

-- an error says that a document which was received breaks its grammar
abbrev pub SaysBroken : ErrorKind → Type 0
SaysBroken (kind.InvalidResponse m) = Unit {0}
SaysBroken _ = ⊥

-- In this history job i found a record by a step of its own, the first that stood. It is none, or has more chunks than are counted; or the chunks of its file are not
-- what it says, as the error tells.
pub data FindsBroken (c : Course) (i : ℕ) (calls : List Call) (history : List Step) (b : Bucket) (id : Tree) (e : Error) : Type 0 where
  no_record : (found : FoundFirst c i calls history b id) → Breaks (file_record_of found.first) e → FindsBroken c i calls history b id e
  not_counted : (found : FoundFirst c i calls history b id) → (file : FileRecord) → file_record_of found.first ≡ Ok file → Breaks (chunk_count_of file.length file.chunk_size) e → FindsBroken c i calls history b id e
  other_chunks : ReadsOther c i calls history b id e → FindsBroken c i calls history b id e

-- so it is in each legal history in which the log stands, where the database has a name
abbrev pub HasFoundBroken : Course → ℕ → List Call → Bucket → Tree → Error → Type 0
HasFoundBroken c i calls b id e = as_database b.db ≡ Some b.db → (history : List Step) → IsLegal history → Stands calls history → FindsBroken c i calls history b id e
