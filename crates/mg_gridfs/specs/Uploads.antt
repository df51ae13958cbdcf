-- An upload as its client keeps it (GridFS specification, "File Upload").
use Rattle.std.specs.Prelude.{◌≡◌, ◌<◌, ◌≤◌, ◌^◌, ◌*◌, ◌+◌, ℕ, ℤ, Bool, false, true, List, [], ◌∷◌, length, Option, Some, None}
use Rattle.mg_bson.specs.Tree.{Fields, Tree}
use Rattle.mg_link.specs.Exec.{Sending, ticket_of}
use Rattle.mg_link.specs.Chunks.{chunked}
use Rattle.mg_server.specs.Files.{AreChunks}
use Rattle.mg_link.specs.declared.error.Error.{Error}
use Rattle.mg_gridfs.specs.Buckets.{ClientBucket, ClientOpening, Destination, IsSize, size_in}
use Rattle.mg_gridfs.specs.Checks.{ClientCheck, IsFreeCheck, IsSoundCheck, check_ticket}
use Rattle.mg_gridfs.specs.Commands.{IsRequest, chunks_lines, deletion_lines, record_document, record_lines}

-- what is uploaded, and where it goes
pub record Aim : Type 0 where
  pub bucket : ClientBucket
  -- the id of the file, how many bytes each of its chunks has, its name, and what else is known of it
  pub id : Tree
  pub size : ℕ
  pub filename : List ℕ
  pub metadata : Option Fields

-- the length of a file whose bytes are all taken, and the moment of its record
pub record Ending : Type 0 where
  pub length : ℕ
  pub moment : ℤ

-- a request on its way
pub data Flight : Type 0 where
  by_check : (check : ClientCheck) → Flight
  by_command : (sending : Sending) → Flight

-- how far a call has come: what is on its way, or is to be built next
pub data Phase : Type 0 where
  -- the indexes are checked next
  begins : Phase
  -- their check
  checks : (check : ClientCheck) → Phase
  -- the full chunks are inserted next
  fills : Phase
  -- so many full chunks
  inserts : (sending : Sending) (count : ℕ) → Phase
  -- what is left is inserted next, as the last chunk
  rests : (moment : ℤ) → Phase
  lasts : (sending : Sending) (ending : Ending) → Phase
  -- the record is inserted next
  ends : (ending : Ending) → Phase
  records : (sending : Sending) (ending : Ending) → Phase
  -- the upload is given up, with an error unless it is aborted: a request on its way ends first
  lands : (flight : Flight) (error : Option Error) → Phase
  -- its chunks are removed next
  undoes : (error : Option Error) → Phase
  removes : (sending : Sending) (error : Option Error) → Phase

-- which call goes on: a write of so many bytes, a close, or an abort
pub data Call : Type 0 where
  write : (piece : ℕ) → Call
  close : Call
  abort : Call

pub data Doing : Type 0 where
  idle : Doing
  busy : (call : Call) (phase : Phase) → Doing
  closed : Doing

pub record ClientUpload : Type 0 where
  pub aim : Aim
  -- whether the indexes were checked
  pub checked : Bool
  -- how many full chunks were inserted
  pub sent : ℕ
  -- the bytes taken that stand in no command yet
  pub behind : List ℕ
  pub doing : Doing

-- ---- tickets

abbrev pub flight_ticket : Flight → Option ℕ
flight_ticket (by_check check) = check_ticket check
flight_ticket (by_command sending) = ticket_of sending

abbrev pub left_ticket : Option Flight → Option ℕ
left_ticket None = None
left_ticket (Some flight) = flight_ticket flight

abbrev pub phase_ticket : Phase → Option ℕ
phase_ticket begins = None
phase_ticket (checks check) = check_ticket check
phase_ticket fills = None
phase_ticket (inserts sending count) = ticket_of sending
phase_ticket (rests moment) = None
phase_ticket (lasts sending ending) = ticket_of sending
phase_ticket (ends ending) = None
phase_ticket (records sending ending) = ticket_of sending
phase_ticket (lands flight error) = flight_ticket flight
phase_ticket (undoes error) = None
phase_ticket (removes sending error) = ticket_of sending

-- the error that a call answers once the chunks are removed
abbrev pub error_behind : Phase → Option Error
error_behind begins = None
error_behind (checks check) = None
error_behind fills = None
error_behind (inserts sending count) = None
error_behind (rests moment) = None
error_behind (lasts sending ending) = None
error_behind (ends ending) = None
error_behind (records sending ending) = None
error_behind (lands flight error) = error
error_behind (undoes error) = error
error_behind (removes sending error) = error

abbrev pub error_by : Doing → Option Error
error_by idle = None
error_by (busy call phase) = error_behind phase
error_by closed = None

-- the error that it failed with, whose chunks are being removed
abbrev pub upload_error : ClientUpload → Option Error
upload_error u = error_by u.doing

abbrev pub ticket_by : Doing → Option ℕ
ticket_by idle = None
ticket_by (busy call phase) = phase_ticket phase
ticket_by closed = None

-- the ticket that is held
abbrev pub upload_ticket : ClientUpload → Option ℕ
upload_ticket u = ticket_by u.doing

-- ---- what each upload keeps

-- full chunks of so many bytes in all, numbered from one on, of this file
pub record IsStretch (aim : Aim) (first count : ℕ) (bytes : List ℕ) (documents : List Fields) : Type 0 where
  pub even : length bytes ≡ count * aim.size
  pub are : AreChunks first (chunked aim.size bytes) documents

-- an insert of the next full chunks
pub record IsInsertion (u : ClientUpload) (sending : Sending) (count : ℕ) : Type 0 where
  pub bytes : List ℕ
  pub documents : List Fields
  pub stretch : IsStretch u.aim u.sent count bytes documents
  pub checked : u.checked ≡ true
  pub some : 0 < count
  pub small : u.sent + count ≤ 2 ^ 31
  pub request : IsRequest false (chunks_lines u.aim.bucket documents) sending

-- an insert of what is left, behind the full chunks
pub record IsLast (u : ClientUpload) (sending : Sending) (ending : Ending) : Type 0 where
  pub bytes : List ℕ
  pub document : Fields
  pub some : 0 < length bytes
  pub short : length bytes < u.aim.size
  pub length_is : ending.length ≡ u.sent * u.aim.size + length bytes
  pub are : AreChunks u.sent (bytes ∷ []) (document ∷ [])
  pub request : IsRequest false (chunks_lines u.aim.bucket (document ∷ [])) sending

-- the record of a file that ends so
abbrev pub record_of : Aim → Ending → Fields
record_of aim ending = record_document aim.id ending.length aim.size ending.moment aim.filename aim.metadata

-- an insert of the record
abbrev pub IsRecording : Aim → Sending → Ending → Type 0
IsRecording aim sending ending = IsRequest false (record_lines aim.bucket (record_of aim ending)) sending

-- one of the upload's own writes
pub data IsOwnWrite (u : ClientUpload) (sending : Sending) : Type 0 where
  -- the chunks on their way
  inserting : (documents : List Fields) → IsRequest false (chunks_lines u.aim.bucket documents) sending → IsOwnWrite u sending
  recording : (ending : Ending) → IsRecording u.aim sending ending → IsOwnWrite u sending
  removing : IsRequest false (deletion_lines u.aim.bucket u.aim.id) sending → IsOwnWrite u sending

-- a request of the upload, whatever comes of it
abbrev pub IsFlight : ClientUpload → Flight → Type 0
IsFlight u (by_check check) = IsSoundCheck u.aim.bucket check
IsFlight u (by_command sending) = IsOwnWrite u sending

abbrev pub IsFreeFlight : Flight → Type 0
IsFreeFlight (by_check check) = IsFreeCheck check
IsFreeFlight (by_command sending) = Unit {0}

-- less than a chunk is left, or nothing behind the last one
abbrev pub IsShort : ClientUpload → Type 0
IsShort u = length u.behind < u.aim.size

abbrev pub IsSoundPhase : ClientUpload → Phase → Type 0
IsSoundPhase u begins = u.checked ≡ false
IsSoundPhase u (checks check) = IsSoundCheck u.aim.bucket check × (u.checked ≡ false)
IsSoundPhase u fills = u.checked ≡ true
IsSoundPhase u (inserts sending count) = IsInsertion u sending count
IsSoundPhase u (rests moment) = IsShort u
IsSoundPhase u (lasts sending ending) = IsLast u sending ending × (u.behind ≡ [])
IsSoundPhase u (ends ending) = (u.behind ≡ []) × (ending.length < 2 ^ 63)
IsSoundPhase u (records sending ending) = IsRecording u.aim sending ending × (u.behind ≡ [])
IsSoundPhase u (lands flight error) = IsFlight u flight
IsSoundPhase u (undoes error) = Unit {0}
IsSoundPhase u (removes sending error) = IsRequest false (deletion_lines u.aim.bucket u.aim.id) sending

abbrev pub SoundBy : ClientUpload → Doing → Type 0
SoundBy u idle = IsShort u
SoundBy u (busy call phase) = IsSoundPhase u phase
SoundBy u closed = Unit {0}

-- its chunks have a size, and so many may have a number
pub record HasBounds (u : ClientUpload) : Type 0 where
  pub size : IsSize u.aim.size
  pub few : u.sent ≤ 2 ^ 31
  -- before the check none is inserted
  pub unchecked : u.checked ≡ false → u.sent ≡ 0

-- What is on its way is the upload's own.
pub record IsSoundUpload (u : ClientUpload) : Type 0 where
  pub bounds : HasBounds u
  pub by : SoundBy u u.doing

-- ---- between two polls

-- a request is on its way, or nothing
abbrev pub IsFlying : Phase → Type 0
IsFlying begins = ⊥
IsFlying (checks check) = Unit {0}
IsFlying fills = ⊥
IsFlying (inserts sending count) = Unit {0}
IsFlying (rests moment) = ⊥
IsFlying (lasts sending ending) = Unit {0}
IsFlying (ends ending) = ⊥
IsFlying (records sending ending) = Unit {0}
IsFlying (lands flight error) = Unit {0}
IsFlying (undoes error) = ⊥
IsFlying (removes sending error) = Unit {0}

-- a call has its own phases: a write does not end the file, a close does not fill it, and an abort removes alone
abbrev pub IsOfWrite : Phase → Type 0
IsOfWrite begins = Unit {0}
IsOfWrite (checks check) = Unit {0}
IsOfWrite fills = Unit {0}
IsOfWrite (inserts sending count) = Unit {0}
IsOfWrite (rests moment) = ⊥
IsOfWrite (lasts sending ending) = ⊥
IsOfWrite (ends ending) = ⊥
IsOfWrite (records sending ending) = ⊥
IsOfWrite (lands flight error) = ⊥
IsOfWrite (undoes None) = ⊥
IsOfWrite (undoes (Some e)) = Unit {0}
IsOfWrite (removes sending None) = ⊥
IsOfWrite (removes sending (Some e)) = Unit {0}

abbrev pub IsOfClose : Phase → Type 0
IsOfClose begins = ⊥
IsOfClose (checks check) = ⊥
IsOfClose fills = ⊥
IsOfClose (inserts sending count) = ⊥
IsOfClose (rests moment) = Unit {0}
IsOfClose (lasts sending ending) = Unit {0}
IsOfClose (ends ending) = Unit {0}
IsOfClose (records sending ending) = Unit {0}
IsOfClose (lands flight None) = ⊥
IsOfClose (lands flight (Some e)) = Unit {0}
IsOfClose (undoes None) = ⊥
IsOfClose (undoes (Some e)) = Unit {0}
IsOfClose (removes sending None) = ⊥
IsOfClose (removes sending (Some e)) = Unit {0}

abbrev pub IsOfAbort : Phase → Type 0
IsOfAbort (lands flight None) = Unit {0}
IsOfAbort (undoes None) = Unit {0}
IsOfAbort (removes sending None) = Unit {0}
IsOfAbort _ = ⊥

abbrev pub IsOfCall : Call → Phase → Type 0
IsOfCall (write piece) phase = IsOfWrite phase
IsOfCall close phase = IsOfClose phase
IsOfCall abort phase = IsOfAbort phase

abbrev pub RestsBy : Doing → Type 0
RestsBy idle = Unit {0}
RestsBy (busy call phase) = IsFlying phase × IsOfCall call phase
RestsBy closed = Unit {0}

-- it is sound, and each call that goes on waits for a reply
pub record IsBetween (u : ClientUpload) : Type 0 where
  pub sound : IsSoundUpload u
  pub rests_so : RestsBy u.doing

-- ---- new uploads

-- nothing was taken
abbrev pub fresh_upload : Aim → ClientUpload
fresh_upload aim = record { aim = aim; checked = false; sent = 0; behind = []; doing = idle }

-- the id that was given, or else a drawn one
abbrev pub id_by : Option Tree → Tree → Tree
id_by (Some id) drawn = id
id_by None drawn = drawn

-- an upload of this destination
abbrev pub new_upload : ClientOpening → Destination → Tree → ClientUpload
new_upload o d drawn = fresh_upload (record { bucket = d.bucket; id = id_by o.id drawn; size = size_in o d; filename = d.filename; metadata = o.metadata })
