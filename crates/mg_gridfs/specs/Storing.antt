-- What an upload knows of its file in the store: the chunks there, those on their way and the bytes behind are the cut of all bytes taken (GridFS specification, "File Upload").
use Rattle.std.specs.Prelude.{◌≡◌, ◌⊎◌, ◌<◌, ◌*◌, ◌++◌, ℕ, ℤ, List, [], codes, length, Some}
use Rattle.mg_bson.specs.Raw.{fields}
use Rattle.mg_bson.specs.Tree.{Fields}
use Rattle.mg_server.specs.Calls.{Keeps, Past, past_of}
use Rattle.mg_link.specs.Chunks.{chunked}
use Rattle.mg_server.specs.Files.{AreChunks, Bucket, with_value}
use Rattle.mg_server.specs.Filing.{Filing, KnowsFile, cleared, insert_at, part, removal_at, stays, unknown, whole_with}
use Rattle.mg_link.specs.Link.{Awaited, LogTold}
use Rattle.mg_link.specs.Log.{Call}
use Rattle.mg_link.specs.declared.error.Error.{Error}
use Rattle.mg_link.specs.declared.error.ErrorKind.{ErrorKind}
use Rattle.mg_link.specs.declared.error.ErrorKind.TheVariants as kind
use Rattle.mg_link.specs.declared.error.GridFsErrorKind.TheVariants as grid
use Rattle.mg_options.specs.Fields.{fields_in}
use Rattle.mg_ops.specs.Naming.{IsNamed}
use Rattle.mg_gridfs.specs.Buckets.{IsAt}
use Rattle.mg_gridfs.specs.Commands.{chunks_lines, record_lines}
use Rattle.mg_gridfs.specs.Uploads.{Aim, ClientUpload, Doing, Ending, Phase, begins, busy, checks, closed, ends, fills, idle, inserts, lands, lasts, record_of, records, removes, rests, undoes}
use Rattle.mg_gridfs.specs.declared.polls.Step2.{Step2}
use Rattle.mg_gridfs.specs.declared.polls.Step2.TheVariants as end
use Rattle.mg_gridfs.specs.declared.polls.WritePoll.{WritePoll}
use Rattle.mg_gridfs.specs.declared.polls.WritePoll.TheVariants as wrote

-- ---- how the file stands

-- with these chunks in the store, and these on their way or behind them
abbrev pub filing_of : Awaited → Aim → List Fields → List Fields → Phase → Filing
filing_of awaited aim chunks coming begins = stays (part chunks)
filing_of awaited aim chunks coming (checks check) = stays (part chunks)
filing_of awaited aim chunks coming fills = stays (part chunks)
filing_of awaited aim chunks coming (inserts sending count) = insert_at awaited sending.command (part chunks) (part (chunks ++ coming)) sending.stage
filing_of awaited aim chunks coming (rests moment) = stays (part chunks)
filing_of awaited aim chunks coming (lasts sending ending) = insert_at awaited sending.command (part chunks) (part (chunks ++ coming)) sending.stage
filing_of awaited aim chunks coming (ends ending) = stays (part (chunks ++ coming))
filing_of awaited aim chunks coming (records sending ending) = insert_at awaited sending.command (part (chunks ++ coming)) (whole_with (record_of aim ending) (chunks ++ coming)) sending.stage
filing_of awaited aim chunks coming (lands flight error) = unknown
filing_of awaited aim chunks coming (undoes error) = unknown
filing_of awaited aim chunks coming (removes sending error) = removal_at awaited sending.command sending.stage

-- what is on its way, or behind the full chunks
abbrev pub ComesBy : Aim → List ℕ → List ℕ → List Fields → Phase → Type 0
ComesBy aim stored flying coming begins = flying ≡ []
ComesBy aim stored flying coming (checks check) = flying ≡ []
ComesBy aim stored flying coming fills = flying ≡ []
ComesBy aim stored flying coming (inserts sending count) = (length flying ≡ count * aim.size) × (fields sending.command ≡ fields_in (chunks_lines aim.bucket coming))
ComesBy aim stored flying coming (rests moment) = flying ≡ []
ComesBy aim stored flying coming (lasts sending ending) = (ending.length ≡ length (stored ++ flying)) × (length flying < aim.size) × (fields sending.command ≡ fields_in (chunks_lines aim.bucket coming))
ComesBy aim stored flying coming (ends ending) = (ending.length ≡ length (stored ++ flying)) × (length flying < aim.size)
ComesBy aim stored flying coming (records sending ending) = (ending.length ≡ length (stored ++ flying)) × (length flying < aim.size) × (fields sending.command ≡ fields_in (record_lines aim.bucket (record_of aim ending)))
ComesBy aim stored flying coming (lands flight error) = Unit {0}
ComesBy aim stored flying coming (undoes error) = Unit {0}
ComesBy aim stored flying coming (removes sending error) = Unit {0}

-- ---- what an upload knows

-- On the way ahead: the bytes taken are those in the store, all in full chunks, those on their way, and those behind.
pub record KnowsAhead (awaited : Awaited) (past : Past) (at : Bucket) (u : ClientUpload) (taken : List ℕ) (p : Phase) : Type 0 where
  pub stored : List ℕ
  pub flying : List ℕ
  pub parts : taken ≡ stored ++ (flying ++ u.behind)
  pub even : length stored ≡ u.sent * u.aim.size
  -- their documents
  pub chunks : List Fields
  pub coming : List Fields
  pub chunks_are : AreChunks 0 (chunked u.aim.size stored) chunks
  pub coming_are : AreChunks u.sent (chunked u.aim.size flying) coming
  pub its : with_value (codes "files_id") u.aim.id coming ≡ coming
  pub comes : ComesBy u.aim stored flying coming p
  pub knows : KnowsFile past at u.aim.id (filing_of awaited u.aim chunks coming p)

-- on the way back nothing is asked of the bytes
abbrev pub KnowsPhase : Awaited → Past → Bucket → ClientUpload → List ℕ → Phase → Type 0
KnowsPhase awaited past at u taken (lands flight error) = KnowsFile past at u.aim.id unknown
KnowsPhase awaited past at u taken (undoes error) = KnowsFile past at u.aim.id unknown
KnowsPhase awaited past at u taken (removes sending error) = KnowsFile past at u.aim.id (removal_at awaited sending.command sending.stage)
KnowsPhase awaited past at u taken begins = KnowsAhead awaited past at u taken begins
KnowsPhase awaited past at u taken (checks check) = KnowsAhead awaited past at u taken (checks check)
KnowsPhase awaited past at u taken fills = KnowsAhead awaited past at u taken fills
KnowsPhase awaited past at u taken (inserts sending count) = KnowsAhead awaited past at u taken (inserts sending count)
KnowsPhase awaited past at u taken (rests moment) = KnowsAhead awaited past at u taken (rests moment)
KnowsPhase awaited past at u taken (lasts sending ending) = KnowsAhead awaited past at u taken (lasts sending ending)
KnowsPhase awaited past at u taken (ends ending) = KnowsAhead awaited past at u taken (ends ending)
KnowsPhase awaited past at u taken (records sending ending) = KnowsAhead awaited past at u taken (records sending ending)

abbrev pub KnowsBy : Awaited → Past → Bucket → ClientUpload → List ℕ → Doing → Type 0
KnowsBy awaited past at u taken idle = KnowsAhead awaited past at u taken fills
KnowsBy awaited past at u taken (busy call phase) = KnowsPhase awaited past at u taken phase
KnowsBy awaited past at u taken closed = Unit {0}

-- What an upload that took these bytes knows, where its bucket is this one of the server.
pub record KnowsUpload (awaited : Awaited) (past : Past) (at : Bucket) (u : ClientUpload) (taken : List ℕ) : Type 0 where
  pub place : IsAt u.aim.bucket at
  pub files : IsNamed u.aim.bucket.files
  pub chunks : IsNamed u.aim.bucket.chunks
  pub by : KnowsBy awaited past at u taken u.doing

-- ---- at its end

-- The file is stored: its chunks are the cut of all bytes taken, and its one record counts them.
pub record HasStored (past : Past) (at : Bucket) (u : ClientUpload) (taken : List ℕ) : Type 0 where
  pub ending : Ending
  pub counts : ending.length ≡ length taken
  pub chunks : List Fields
  pub chunks_are : AreChunks 0 (chunked u.aim.size taken) chunks
  pub knows : KnowsFile past at u.aim.id (stays (whole_with (record_of u.aim ending) chunks))

-- an error behind which the chunks may be there: memory ran out, they were not removed, or the upload had ended before
abbrev pub may_leave : ErrorKind → Type 0
may_leave kind.OutOfMemory = Unit {0}
may_leave (kind.GridFs (grid.AbortError' original box what labels wire_version)) = Unit {0}
may_leave (kind.GridFs grid.UploadStreamClosed) = Unit {0}
may_leave _ = ⊥

-- behind each other error no chunk of the file is there
abbrev pub HasCleared : Past → Bucket → ClientUpload → Error → Type 0
HasCleared past at u e = (may_leave e.kind → ⊥) → KnowsFile past at u.aim.id cleared

-- ---- polls

-- the bytes taken behind a poll of a write: the first poll takes those of its piece
abbrev pub taken_by : Doing → List ℕ → List ℕ → List ℕ
taken_by idle taken bytes = taken ++ bytes
taken_by (busy call phase) taken bytes = taken
taken_by closed taken bytes = taken

abbrev pub AfterWrite : Awaited → Past → Bucket → ClientUpload → ClientUpload → List ℕ → List ℕ → WritePoll → Type 0
AfterWrite awaited past at u u' taken bytes wrote.Pending = KnowsUpload awaited past at u' (taken_by u.doing taken bytes)
AfterWrite awaited past at u u' taken bytes (wrote.Wrote n) = KnowsUpload awaited past at u' (taken_by u.doing taken bytes)
AfterWrite awaited past at u u' taken bytes (wrote.Failed e) = ((u' ≡ u) × KnowsUpload awaited past at u taken) ⊎ HasCleared past at u e

abbrev pub AfterClose : Awaited → Past → Bucket → ClientUpload → ClientUpload → List ℕ → Step2 → Type 0
AfterClose awaited past at u u' taken end.Pending = KnowsUpload awaited past at u' taken
AfterClose awaited past at u u' taken end.Done = HasStored past at u taken
AfterClose awaited past at u u' taken (end.Failed e) = ((u' ≡ u) × KnowsUpload awaited past at u taken) ⊎ HasCleared past at u e

abbrev pub AfterAbort : Awaited → Past → Bucket → ClientUpload → ClientUpload → List ℕ → Step2 → Type 0
AfterAbort awaited past at u u' taken end.Pending = KnowsUpload awaited past at u' taken
AfterAbort awaited past at u u' taken end.Done = KnowsFile past at u.aim.id cleared
AfterAbort awaited past at u u' taken (end.Failed e) = Unit {0}

-- A poll led an upload on that had sent at these places before and took these bytes.
abbrev pub Stores : Awaited → Awaited → LogTold → LogTold → ℤ → Bucket → ClientUpload → (Past → List ℕ → Type 0) → Type 0
Stores old new log log' wire at u After = (calls : List Call) → log ≡ Some calls → (places taken : List ℕ) → KnowsUpload old (past_of places (length calls) calls wire) at u taken
    → (calls' : List Call) × (log' ≡ Some calls') × Keeps calls calls' × After (past_of places (length calls) calls' wire) taken

abbrev pub WriteStores : Awaited → Awaited → LogTold → LogTold → ℤ → Bucket → ClientUpload → ClientUpload → List ℕ → WritePoll → Type 0
WriteStores old new log log' wire at u u' bytes r = Stores old new log log' wire at u (λ past taken. AfterWrite new past at u u' taken bytes r)

abbrev pub CloseStores : Awaited → Awaited → LogTold → LogTold → ℤ → Bucket → ClientUpload → ClientUpload → Step2 → Type 0
CloseStores old new log log' wire at u u' r = Stores old new log log' wire at u (λ past taken. AfterClose new past at u u' taken r)

abbrev pub AbortStores : Awaited → Awaited → LogTold → LogTold → ℤ → Bucket → ClientUpload → ClientUpload → Step2 → Type 0
AbortStores old new log log' wire at u u' r = Stores old new log log' wire at u (λ past taken. AfterAbort new past at u u' taken r)
