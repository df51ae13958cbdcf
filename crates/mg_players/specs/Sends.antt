-- Which commands the jobs of a run send.
use Rattle.std.specs.Prelude.{◌≡◌, ℕ, ℤ, List, None, slice_get, Some}
use Rattle.mg_bson.specs.Tree.{Fields}
use Rattle.mg_bson.specs.Raw.{fields}
use Rattle.mg_link.specs.Link.{LogTold}
use Rattle.mg_link.specs.Log.{Call}
use Rattle.mg_link.specs.Namespace.{Space}
use Rattle.mg_ops.specs.Commands.{kill_command}
use Rattle.mg_ops.specs.Cursors.{next_command, watch_manner}
use Rattle.mg_ops.specs.declared.aggregate.ChangeStreamAggregate.{ChangeStreamAggregate}
use Rattle.mg_ops.specs.declared.change_stream.WatchArgs.{WatchArgs}
use Rattle.mg_change.specs.ClientOpenings.{first_aggregate}
use Rattle.mg_change.specs.ClientStreams.{resuming_in}
use Rattle.mg_gridfs.specs.Checks.{ClientCheck, creates, finds, indexes, lists, reads}
use Rattle.mg_gridfs.specs.Uploads as uploads
use Rattle.mg_gridfs.specs.Uploads.{Doing, Flight, Phase, begins, busy, by_check, by_command, closed, ends, fills, idle, lands, lasts, rests, undoes}
use Rattle.mg_players.specs.Causes.{Course, SentIn, course}
use Rattle.mg_players.specs.Drawing.{as_sent, supply_of}
use Rattle.mg_players.specs.Follows.{IsArgsFor}
use Rattle.mg_players.specs.Gets.{IsGetCommand, get_of, no_manner}
use Rattle.mg_players.specs.PutSends.{InsertsChunks, IsCheckCommand, chunks_removal, record_insert}
use Rattle.mg_players.specs.Puts.{IsMoment, PutTask, Supply, put_bucket, put_of}
use Rattle.mg_ops.specs.InsertCauses.{IsInsertOf}
use Rattle.mg_script.specs.Plan.{Task, insert, follow, put, get}
use Rattle.mg_turns.specs.declared.turned.Turned.{Turned}

-- a command that a follow with such arguments may send
pub data IsCommandOf (are_its : WatchArgs → Type 0) (command : Fields) : Type 0 where
  opens : (args : WatchArgs) (wire : ℤ) → are_its args → command ≡ resuming_in (first_aggregate args) wire None → IsCommandOf are_its command
  resumes : (a : ChangeStreamAggregate) (wire : ℤ) → are_its a.args → command ≡ resuming_in a wire None → IsCommandOf are_its command
  asks : (args : WatchArgs) → are_its args → (id : ℤ) (space : Space) → command ≡ next_command id space (watch_manner args.options) → IsCommandOf are_its command
  kills : (space : Space) (ids : List ℤ) → command ≡ kill_command space ids → IsCommandOf are_its command

-- A command that a put may send: of the check of its bucket's indexes; an insert of some chunks of its file, each with its own number and id, or of its record,
-- with the moment of the run; or the removal of its chunks.
pub data IsPutCommand (supply : Supply) (t : PutTask) (command : Fields) : Type 0 where
  checks : IsCheckCommand (put_bucket t) command → IsPutCommand supply t command
  inserts : (from upto : ℕ) → InsertsChunks supply t from upto command → IsPutCommand supply t command
  records : (moment : ℤ) → IsMoment supply.moment moment → command ≡ record_insert t moment → IsPutCommand supply t command
  removes : command ≡ chunks_removal t → IsPutCommand supply t command

-- what a put has on its way it may send; a list of indexes is read on without options
abbrev pub CheckFlies : ClientCheck → Type 0
CheckFlies (finds sending) = Unit {0}
CheckFlies (creates at sending) = Unit {0}
CheckFlies (lists at sending) = Unit {0}
CheckFlies (reads at cursor found count) = cursor.cursor.manner ≡ no_manner
CheckFlies (indexes at sending) = Unit {0}

abbrev pub FlightFlies : Supply → PutTask → Flight → Type 0
FlightFlies supply t (by_check check) = CheckFlies check
FlightFlies supply t (by_command sending) = IsPutCommand supply t (fields sending.command)

abbrev pub PhaseFlies : Supply → PutTask → Phase → Type 0
PhaseFlies supply t begins = Unit {0}
PhaseFlies supply t (uploads.checks check) = CheckFlies check
PhaseFlies supply t fills = Unit {0}
PhaseFlies supply t (uploads.inserts sending count) = IsPutCommand supply t (fields sending.command)
PhaseFlies supply t (rests moment) = Unit {0}
PhaseFlies supply t (lasts sending ending) = IsPutCommand supply t (fields sending.command)
PhaseFlies supply t (ends ending) = Unit {0}
PhaseFlies supply t (uploads.records sending ending) = IsPutCommand supply t (fields sending.command)
PhaseFlies supply t (lands flight error) = FlightFlies supply t flight
PhaseFlies supply t (undoes error) = Unit {0}
PhaseFlies supply t (uploads.removes sending error) = IsPutCommand supply t (fields sending.command)

abbrev pub PutFlies : Supply → PutTask → Doing → Type 0
PutFlies supply t idle = Unit {0}
PutFlies supply t (busy call phase) = PhaseFlies supply t phase
PutFlies supply t closed = Unit {0}

-- The command is one that a job with this task may send: an insert of some of these documents; the aggregate that opens the watch or resumes it, or a
-- getMore or killCursors; one of the file that is put, with what the put is supplied with; a find of the record of the file that is read, or of the chunks of some
-- id, or a getMore.
abbrev pub MaySend : Supply → Task → Fields → Type 0
MaySend supply (insert ns docs) = IsInsertOf ns docs
MaySend supply (follow on count start filter batch) = IsCommandOf (IsArgsFor on start filter batch)
MaySend supply (put db bucket name id chunk pieces) = IsPutCommand supply (put_of db bucket name id chunk pieces)
MaySend supply (get db bucket id read) = IsGetCommand (get_of db bucket id read)

-- Each command that job i sent in these turns is such a one.
pub record SendsOnly (may : Fields → Type 0) (c : Course) (i : ℕ) (calls : List Call) : Type 0 where
  pub each : (k place : ℕ) (call : Call) → SentIn c i k place → slice_get calls place ≡ Some call → may (fields call.command)

-- Over a link that tells its log, each command that a turn of a run sent is one that its job may send, where jobs draw these ids and new records get this moment.
abbrev pub AllSendOnly : Supply → LogTold → LogTold → List Task → List ℕ → List Turned → Type 0
AllSendOnly supply log log' tasks order notes = (calls : List Call) → log ≡ Some calls → (calls' : List Call) × (log' ≡ Some calls')
    × ((i : ℕ) (t : Task) → slice_get tasks i ≡ Some t → SendsOnly (MaySend (supply_of supply tasks order i) (as_sent supply.ids tasks order i t)) (course calls order notes) i calls')
