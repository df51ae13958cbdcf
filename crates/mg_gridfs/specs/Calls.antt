-- What the calls of an upload do over all their steps, and what stands behind an error (GridFS specification, "File Upload").
use Rattle.std.specs.Prelude.{◌≡◌, ◌⊎◌, ◌<◌, ◌≤◌, ◌++◌, ℕ, ℤ, List, length, Option, Some, None, if◌then◌else◌}
use Rattle.mg_link.specs.Errors.{plain}
use Rattle.mg_link.specs.Link.{Awaited, SendsNothing, LogTold}
use Rattle.mg_link.specs.Moment.{Ending, pending, finished, failed}
use Rattle.mg_link.specs.declared.error.Error.{Error}
use Rattle.mg_link.specs.declared.error.ErrorKind.TheVariants as kind
use Rattle.mg_link.specs.declared.error.GridFsErrorKind.TheVariants as grid
use Rattle.mg_gridfs.specs.Steps as step
use Rattle.mg_gridfs.specs.Steps.{DoesSteps, Stepped}
use Rattle.mg_gridfs.specs.Uploads.{Call, ClientUpload, Doing, Phase, abort, begins, busy, by_check, by_command, checks, close, closed, ends, fills, idle, inserts, lands, lasts, records, removes, rests, undoes, write}
use Rattle.mg_gridfs.specs.declared.polls.Step2.{Step2}
use Rattle.mg_gridfs.specs.declared.polls.Step2.TheVariants as end
use Rattle.mg_gridfs.specs.declared.polls.WritePoll.{WritePoll}
use Rattle.mg_gridfs.specs.declared.polls.WritePoll.TheVariants as wrote

-- an upload that has ended takes no call
abbrev pub stream_closed : Error
stream_closed = plain (kind.GridFs grid.UploadStreamClosed)

-- it was closed while a write went on
abbrev pub write_in_progress : Error
write_in_progress = plain (kind.GridFs grid.WriteInProgress)

-- ---- how polls ended

abbrev pub write_ending : WritePoll → Ending
write_ending wrote.Pending = pending
write_ending (wrote.Wrote n) = finished
write_ending (wrote.Failed e) = failed e

abbrev pub end_ending : Step2 → Ending
end_ending end.Pending = pending
end_ending end.Done = finished
end_ending (end.Failed e) = failed e

-- how a poll ended, as far as its link is asked: an error that was known before is no failure of the link
abbrev pub ending_beside : Ending → Option Error → Ending
ending_beside pending error = pending
ending_beside finished error = finished
ending_beside (failed e) None = failed e
ending_beside (failed e) (Some known) = finished

-- what a call leaves that has ended: only a write goes on to further calls
abbrev pub behind_call : Call → Doing
behind_call (write piece) = idle
behind_call close = closed
behind_call abort = closed

abbrev pub doing_behind : Call → Stepped → Doing
doing_behind call (step.goes phase) = busy call phase
doing_behind call (step.waits phase) = busy call phase
doing_behind call step.done = behind_call call
doing_behind call (step.failed e) = closed

-- a write gives the length of its piece, all of which was taken
abbrev pub wrote_by : ℕ → Stepped → WritePoll
wrote_by piece (step.goes phase) = wrote.Pending
wrote_by piece (step.waits phase) = wrote.Pending
wrote_by piece step.done = wrote.Wrote piece
wrote_by piece (step.failed e) = wrote.Failed e

abbrev pub ended_by : Stepped → Step2
ended_by (step.goes phase) = end.Pending
ended_by (step.waits phase) = end.Pending
ended_by step.done = end.Done
ended_by (step.failed e) = end.Failed e

-- while it is driven on, what it is doing stands in the phase alone
abbrev pub at_work : ClientUpload → ClientUpload
at_work u = record u { doing = idle }

-- A poll of a call, from how far it has come on, over so many steps.
pub record Drives (old new : Awaited) (log log' : LogTold) (wire : ℤ) (ids : ℕ → List ℕ) (drawn : ℕ) (call : Call) (u u' : ClientUpload) (p : Phase) (r : Stepped) : Type 0 where
  pub steps : ℕ
  pub left : ClientUpload
  pub does : DoesSteps steps old new log log' wire ids drawn (at_work u) left p r
  pub behind : u' ≡ record left { doing = doing_behind call r }

-- nothing is sent, and nothing changes
pub record Refuses (old new : Awaited) (log log' : LogTold) (drawn : ℕ) (u u' : ClientUpload) : Type 0 where
  pub quiet : SendsNothing old new log log'
  pub undrawn : drawn ≡ 0
  pub same : u' ≡ u

-- ---- writes

-- with more bytes taken
abbrev pub with_bytes : List ℕ → ClientUpload → ClientUpload
with_bytes bytes u = record u { behind = u.behind ++ bytes }

-- the indexes are checked before the first chunk is inserted, once
abbrev pub first_phase : ClientUpload → Phase
first_phase u = if u.checked then fills else begins

-- a write is not taken any more: the upload has ended, or is being ended
abbrev pub TakesNoWrite : Doing → Type 0
TakesNoWrite idle = ⊥
TakesNoWrite (busy (write piece) phase) = ⊥
TakesNoWrite (busy close phase) = Unit {0}
TakesNoWrite (busy abort phase) = Unit {0}
TakesNoWrite closed = Unit {0}

-- What a poll of a write does. The bytes are those of its first poll: while it goes on others are not looked at.
pub data Writes (old new : Awaited) (log log' : LogTold) (wire : ℤ) (ids : ℕ → List ℕ) (drawn : ℕ) (u u' : ClientUpload) (bytes : List ℕ) (r : WritePoll) : Type 0 where
  refused : TakesNoWrite u.doing → Refuses old new log log' drawn u u' → r ≡ wrote.Failed stream_closed → Writes old new log log' wire ids drawn u u' bytes r
  -- memory ran out as the bytes were taken
  not_taken : u.doing ≡ idle → Refuses old new log log' drawn u u' → r ≡ wrote.Failed (plain kind.OutOfMemory) → Writes old new log log' wire ids drawn u u' bytes r
  -- they are taken, and no chunk is full
  kept : u.doing ≡ idle → length (u.behind ++ bytes) < u.aim.size → SendsNothing old new log log' → drawn ≡ 0 → u' ≡ with_bytes bytes u → r ≡ wrote.Wrote (length bytes) → Writes old new log log' wire ids drawn u u' bytes r
  -- they are taken, and the full chunks are inserted
  starts : u.doing ≡ idle → u.aim.size ≤ length (u.behind ++ bytes) → (s : Stepped) → Drives old new log log' wire ids drawn (write (length bytes)) (with_bytes bytes u) u' (first_phase u) s → r ≡ wrote_by (length bytes) s → Writes old new log log' wire ids drawn u u' bytes r
  goes_on : (piece : ℕ) (phase : Phase) → u.doing ≡ busy (write piece) phase → (s : Stepped) → Drives old new log log' wire ids drawn (write piece) u u' phase s → r ≡ wrote_by piece s → Writes old new log log' wire ids drawn u u' bytes r

-- ---- closes and aborts

-- what is on its way ends first, and then the chunks are removed
abbrev pub landing_of : Phase → Option Error → Phase
landing_of begins error = undoes error
landing_of (checks check) error = lands (by_check check) error
landing_of fills error = undoes error
landing_of (inserts sending count) error = lands (by_command sending) error
landing_of (rests moment) error = undoes error
landing_of (lasts sending ending) error = lands (by_command sending) error
landing_of (ends ending) error = undoes error
landing_of (records sending ending) error = lands (by_command sending) error
landing_of (lands flight other) error = lands flight error
landing_of (undoes other) error = undoes error
landing_of (removes sending other) error = lands (by_command sending) error

-- with which phase a close goes on, or that it is not taken any more
abbrev pub close_phase : ℤ → Doing → Option Phase
close_phase moment idle = Some (rests moment)
close_phase moment (busy (write piece) phase) = Some (landing_of phase (Some write_in_progress))
close_phase moment (busy close phase) = Some phase
close_phase moment (busy abort phase) = None
close_phase moment closed = None

-- with which phase an abort goes on, unless the upload has ended
abbrev pub abort_phase : Doing → Option Phase
abort_phase idle = Some (undoes None)
abort_phase (busy (write piece) phase) = Some (landing_of phase None)
abort_phase (busy close phase) = Some (landing_of phase None)
abort_phase (busy abort phase) = Some phase
abort_phase closed = None

-- a close is not taken any more
abbrev pub TakesNoClose : Doing → Type 0
TakesNoClose idle = ⊥
TakesNoClose (busy (write piece) phase) = ⊥
TakesNoClose (busy close phase) = ⊥
TakesNoClose (busy abort phase) = Unit {0}
TakesNoClose closed = Unit {0}

-- What a poll of a close does. The moment is that of its first poll.
pub data Closes (old new : Awaited) (log log' : LogTold) (wire : ℤ) (ids : ℕ → List ℕ) (drawn : ℕ) (moment : ℤ) (u u' : ClientUpload) (r : Step2) : Type 0 where
  refused : TakesNoClose u.doing → Refuses old new log log' drawn u u' → r ≡ end.Failed stream_closed → Closes old new log log' wire ids drawn moment u u' r
  starts : u.doing ≡ idle → (s : Stepped) → Drives old new log log' wire ids drawn close u u' (rests moment) s → r ≡ ended_by s → Closes old new log log' wire ids drawn moment u u' r
  gives_up : (piece : ℕ) (phase : Phase) → u.doing ≡ busy (write piece) phase → (s : Stepped) → Drives old new log log' wire ids drawn close u u' (landing_of phase (Some write_in_progress)) s → r ≡ ended_by s → Closes old new log log' wire ids drawn moment u u' r
  goes_on : (phase : Phase) → u.doing ≡ busy close phase → (s : Stepped) → Drives old new log log' wire ids drawn close u u' phase s → r ≡ ended_by s → Closes old new log log' wire ids drawn moment u u' r

-- a poll of an abort, which draws no id
abbrev pub Abandons : Awaited → Awaited → LogTold → LogTold → ℤ → ClientUpload → ClientUpload → Phase → Stepped → Type 0
Abandons old new log log' wire u u' p s = (ids : ℕ → List ℕ) → Drives old new log log' wire ids 0 abort u u' p s

-- What a poll of an abort does.
pub data Aborts (old new : Awaited) (log log' : LogTold) (wire : ℤ) (u u' : ClientUpload) (r : Step2) : Type 0 where
  refused : u.doing ≡ closed → Refuses old new log log' 0 u u' → r ≡ end.Failed stream_closed → Aborts old new log log' wire u u' r
  starts : u.doing ≡ idle → (s : Stepped) → Abandons old new log log' wire u u' (undoes None) s → r ≡ ended_by s → Aborts old new log log' wire u u' r
  gives_up_write : (piece : ℕ) (phase : Phase) → u.doing ≡ busy (write piece) phase → (s : Stepped) → Abandons old new log log' wire u u' (landing_of phase None) s → r ≡ ended_by s → Aborts old new log log' wire u u' r
  gives_up_close : (phase : Phase) → u.doing ≡ busy close phase → (s : Stepped) → Abandons old new log log' wire u u' (landing_of phase None) s → r ≡ ended_by s → Aborts old new log log' wire u u' r
  goes_on : (phase : Phase) → u.doing ≡ busy abort phase → (s : Stepped) → Abandons old new log log' wire u u' phase s → r ≡ ended_by s → Aborts old new log log' wire u u' r

-- ---- what stands behind a call

-- Behind an error the upload has ended, and takes no call. Two change nothing: want of memory as the bytes of a write are taken, and a write that is taken no more.
abbrev pub LeavesWrite : ClientUpload → ClientUpload → WritePoll → Type 0
LeavesWrite u u' wrote.Pending = (piece : ℕ) × (phase : Phase) × (u'.doing ≡ busy (write piece) phase)
LeavesWrite u u' (wrote.Wrote n) = (u'.doing ≡ idle) × (length u'.behind < u'.aim.size)
LeavesWrite u u' (wrote.Failed e) = (u'.doing ≡ closed) ⊎ ((u' ≡ u) × (((u.doing ≡ idle) × (e ≡ plain kind.OutOfMemory)) ⊎ (TakesNoWrite u.doing × (e ≡ stream_closed))))

abbrev pub LeavesEnd : Call → ClientUpload → ClientUpload → Step2 → Type 0
LeavesEnd call u u' end.Pending = (phase : Phase) × (u'.doing ≡ busy call phase)
LeavesEnd call u u' end.Done = u'.doing ≡ closed
LeavesEnd call u u' (end.Failed e) = (u'.doing ≡ closed) ⊎ ((u' ≡ u) × TakesNoClose u.doing × (e ≡ stream_closed))

-- a flush does nothing, unless the upload has ended: what is left does not fill a chunk
abbrev pub TakesFlush : Doing → Type 0
TakesFlush idle = Unit {0}
TakesFlush (busy call phase) = Unit {0}
TakesFlush closed = ⊥
