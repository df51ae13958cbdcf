-- Which cursors an upload owns: that of the list of indexes which its check reads. Its polls leave those of others alone.
use Rattle.std.specs.Prelude.{◌≡◌, ℕ, false, List, [], Some, None}
use Rattle.mg_link.specs.Link.{Awaited, LogTold}
use Rattle.mg_link.specs.Log.{Call}
use Rattle.mg_link.specs.Namespace.{Space}
use Rattle.mg_server.specs.Owner.{Onward, Owner, Passes, nobody}
use Rattle.mg_server.specs.Query.{Query, of_indexes}
use Rattle.mg_server.specs.Reader.{FindingAt, KnowsRead, Reader, finder_at}
use Rattle.mg_ops.specs.Naming.{IsNamed}
use Rattle.mg_cursor.specs.Documents.{DocumentCursor}
use Rattle.mg_cursor.specs.Reading.{reader_of}
use Rattle.mg_gridfs.specs.Buckets.{ClientBucket}
use Rattle.mg_gridfs.specs.Checks.{ClientCheck, creates, finds, indexes, lists, reads}
use Rattle.mg_gridfs.specs.Downloaded.{cursor_owner}
use Rattle.mg_gridfs.specs.Indexes.{space_in}
use Rattle.mg_gridfs.specs.Uploads.{Aim, ClientUpload, Doing, Flight, Phase, begins, busy, by_check, by_command, checks, closed, ends, fills, fresh_upload, idle, inserts, lands, lasts, records, removes, rests, undoes, upload_ticket}

-- the indexes of a collection
abbrev pub indexes_query : Space → Query
indexes_query space = record { source = of_indexes space; stages = []; single = false; size = None }

-- ---- which cursors are its own

abbrev pub check_owner : Awaited → ClientCheck → Owner
check_owner awaited (finds sending) = nobody
check_owner awaited (creates at sending) = nobody
check_owner awaited (lists at sending) = finder_at awaited sending.stage
check_owner awaited (reads at cursor found count) = cursor_owner awaited cursor.cursor
check_owner awaited (indexes at sending) = nobody

abbrev pub flight_owner : Awaited → Flight → Owner
flight_owner awaited (by_check check) = check_owner awaited check
flight_owner awaited (by_command sending) = nobody

abbrev pub phase_owner : Awaited → Phase → Owner
phase_owner awaited begins = nobody
phase_owner awaited (checks check) = check_owner awaited check
phase_owner awaited fills = nobody
phase_owner awaited (inserts sending count) = nobody
phase_owner awaited (rests moment) = nobody
phase_owner awaited (lasts sending ending) = nobody
phase_owner awaited (ends ending) = nobody
phase_owner awaited (records sending ending) = nobody
phase_owner awaited (lands flight error) = flight_owner awaited flight
phase_owner awaited (undoes error) = nobody
phase_owner awaited (removes sending error) = nobody

abbrev pub owner_by : Awaited → Doing → Owner
owner_by awaited idle = nobody
owner_by awaited (busy call phase) = phase_owner awaited phase
owner_by awaited closed = nobody

abbrev pub upload_owner : Awaited → ClientUpload → Owner
upload_owner awaited u = owner_by awaited u.doing

-- ---- what it knows of them

-- the cursor of a list is one that a reply gave to it
abbrev pub KnowsList : Awaited → List Call → DocumentCursor → Type 0
KnowsList awaited calls cursor = IsNamed cursor.cursor.space × (r : Reader) × KnowsRead calls (reader_of awaited cursor r)

abbrev pub KnowsCheck : Awaited → List Call → ClientBucket → ClientCheck → Type 0
KnowsCheck awaited calls b (finds sending) = Unit {0}
KnowsCheck awaited calls b (creates at sending) = Unit {0}
KnowsCheck awaited calls b (lists at sending) = FindingAt awaited calls (indexes_query (space_in b at)) sending.stage
KnowsCheck awaited calls b (reads at cursor found count) = KnowsList awaited calls cursor
KnowsCheck awaited calls b (indexes at sending) = Unit {0}

abbrev pub KnowsFlight : Awaited → List Call → ClientBucket → Flight → Type 0
KnowsFlight awaited calls b (by_check check) = KnowsCheck awaited calls b check
KnowsFlight awaited calls b (by_command sending) = Unit {0}

abbrev pub KnowsAt : Awaited → List Call → ClientBucket → Phase → Type 0
KnowsAt awaited calls b begins = Unit {0}
KnowsAt awaited calls b (checks check) = KnowsCheck awaited calls b check
KnowsAt awaited calls b fills = Unit {0}
KnowsAt awaited calls b (inserts sending count) = Unit {0}
KnowsAt awaited calls b (rests moment) = Unit {0}
KnowsAt awaited calls b (lasts sending ending) = Unit {0}
KnowsAt awaited calls b (ends ending) = Unit {0}
KnowsAt awaited calls b (records sending ending) = Unit {0}
KnowsAt awaited calls b (lands flight error) = KnowsFlight awaited calls b flight
KnowsAt awaited calls b (undoes error) = Unit {0}
KnowsAt awaited calls b (removes sending error) = Unit {0}

abbrev pub KnowsIn : Awaited → List Call → ClientBucket → Doing → Type 0
KnowsIn awaited calls b idle = Unit {0}
KnowsIn awaited calls b (busy call phase) = KnowsAt awaited calls b phase
KnowsIn awaited calls b closed = Unit {0}

-- Its collections have names that may be, and a cursor that it reads was given to it.
pub record KnowsCursors (awaited : Awaited) (calls : List Call) (u : ClientUpload) : Type 0 where
  pub files : IsNamed u.aim.bucket.files
  pub chunks : IsNamed u.aim.bucket.chunks
  pub by : KnowsIn awaited calls u.aim.bucket u.doing

-- ---- polls

-- A poll left the cursors of others alone, and the upload goes on knowing its own.
abbrev pub LeavesOthers : Awaited → Awaited → LogTold → LogTold → ClientUpload → ClientUpload → Type 0
LeavesOthers old new log log' u u' = (calls : List Call) → log ≡ Some calls → KnowsCursors old calls u
    → (calls' : List Call) × (log' ≡ Some calls') × Passes calls calls' (upload_owner old u) (upload_owner new u') × KnowsCursors new calls' u'

-- ---- laws

-- an upload that has taken nothing owns no cursor
abbrev pub CursorsBegin : Type 0
CursorsBegin = (awaited : Awaited) (calls : List Call) (aim : Aim) → IsNamed aim.bucket.files → IsNamed aim.bucket.chunks → KnowsCursors awaited calls (fresh_upload aim)

-- it goes on knowing its own while others call, which leave its ticket and its cursor alone
abbrev pub CursorsGoOn : Type 0
CursorsGoOn = (old new : Awaited) (calls calls' : List Call) (u : ClientUpload) → Onward calls calls' (upload_owner old u) → ((m : ℕ) → upload_ticket u ≡ Some m → new m ≡ old m) → KnowsCursors old calls u → KnowsCursors new calls' u × (upload_owner new u ≡ upload_owner old u)
