-- What the parts of an upload are seen as.
use Rattle.std.specs.Prelude.{◌≡◌, ℕ, List, Some, string_bytes}
use Rattle.mg_bson.specs.Tree.{object_id}
use Rattle.mg_bson.specs.View.{tree}
use Rattle.mg_link.specs.Exec.{Sending}
use Rattle.mg_link.specs.declared.action.Step.{Step}
use Rattle.mg_link.specs.declared.action.Step.TheVariants as step
use Rattle.mg_gridfs.specs.Buckets.{ClientBucket, ClientOpening, Destination, bucket_of}
use Rattle.mg_chunks.specs.Buffers.{HoldsCut, held_of, size_of}
use Rattle.mg_gridfs.specs.Checks as check
use Rattle.mg_gridfs.specs.Checks.{CheckTurned, ClientCheck, HearsCreation, HearsFind, HearsIndex, HearsListing, creates, finds, indexes, lists, reads}
use Rattle.mg_gridfs.specs.Steps.{Stepped, done, failed, waits}
use Rattle.mg_gridfs.specs.Uploads as upload
use Rattle.mg_gridfs.specs.Uploads.{ClientUpload, Doing, IsBetween, Phase, abort, begins, busy, by_check, by_command, checks, close, closed, ends, fills, idle, inserts, lands, lasts, new_upload, records, removes, rests, undoes, write}
use Rattle.mg_gridfs.specs.declared.aim.Aim.{Aim}
use Rattle.mg_gridfs.specs.declared.check.CheckTurn.{CheckTurn}
use Rattle.mg_gridfs.specs.declared.check.CheckTurn.TheVariants as turn
use Rattle.mg_gridfs.specs.declared.check.Checking.{Checking}
use Rattle.mg_gridfs.specs.declared.check.Checking.TheVariants as checking
use Rattle.mg_gridfs.specs.declared.check.Request.{Request}
use Rattle.mg_gridfs.specs.declared.check.Request.TheVariants as request
use Rattle.mg_gridfs.specs.declared.flight.Flight.{Flight}
use Rattle.mg_gridfs.specs.declared.flight.Flight.TheVariants as flight
use Rattle.mg_gridfs.specs.declared.stage.Back.{Back}
use Rattle.mg_gridfs.specs.declared.stage.Back.TheVariants as back
use Rattle.mg_gridfs.specs.declared.stage.Ending.{Ending}
use Rattle.mg_gridfs.specs.declared.stage.Stage.{Stage}
use Rattle.mg_gridfs.specs.declared.stage.Stage.TheVariants as stage
use Rattle.mg_gridfs.specs.declared.steps.Upload.{Upload}
use Rattle.mg_gridfs.specs.declared.stream.GridFsUploadStream.{GridFsUploadStream}
use Rattle.mg_gridfs.specs.declared.stream.State.{State}
use Rattle.mg_gridfs.specs.declared.stream.State.TheVariants as state

-- ---- checks

-- a request as a check
abbrev pub asked_as : Request → Sending → ClientCheck
asked_as request.Find sending = finds sending
asked_as (request.Create place) sending = creates place sending
asked_as (request.List place) sending = lists place sending
asked_as (request.Index place) sending = indexes place sending

abbrev pub check_of : Checking → ClientCheck
check_of (checking.Ask asked exec) = asked_as asked exec
check_of (checking.Read place listing) = reads place listing.cursor listing.found listing.count

-- what came of a request
abbrev pub HearsAsked : ClientBucket → Request → Step Sending (List ℕ) → CheckTurned → Type 0
HearsAsked b request.Find came t = HearsFind b came t
HearsAsked b (request.Create place) came t = HearsCreation b place came t
HearsAsked b (request.List place) came t = HearsListing place came t
HearsAsked b (request.Index place) came t = HearsIndex b place came t

abbrev pub check_turned : CheckTurn → CheckTurned
check_turned (turn.Goes c) = check.goes (check_of c)
check_turned (turn.Pends c) = check.pends (check_of c)
check_turned turn.Passes = check.passes
check_turned (turn.Fails e) = check.fails e

-- ---- phases

abbrev pub flight_of : Flight → upload.Flight
flight_of (flight.Check c) = by_check (check_of c)
flight_of (flight.Command exec) = by_command exec

abbrev pub ending_view : Ending → upload.Ending
ending_view e = record { length = e.length; moment = e.moment.millis }

abbrev pub back_phase : Back → Phase
back_phase (back.Land f error) = lands (flight_of f) error
back_phase (back.Undo error) = undoes error
back_phase (back.Remove exec error) = removes exec error

abbrev pub phase_of : Stage → Phase
phase_of stage.Begin = begins
phase_of (stage.Check c) = checks (check_of c)
phase_of stage.Fill = fills
phase_of (stage.Insert exec count) = inserts exec count
phase_of (stage.Rest moment) = rests moment.millis
phase_of (stage.Last exec ending) = lasts exec (ending_view ending)
phase_of (stage.End ending) = ends (ending_view ending)
phase_of (stage.Record exec ending) = records exec (ending_view ending)
phase_of (stage.Back b) = back_phase b

-- how a poll of a stage ends
abbrev pub stopped_by : Step Stage (Unit {0}) → Stepped
stopped_by (step.Pending s) = waits (phase_of s)
stopped_by (step.Done t) = done
stopped_by (step.Failed e) = failed e

abbrev pub back_stopped : Step Back (Unit {0}) → Stepped
back_stopped (step.Pending b) = waits (back_phase b)
back_stopped (step.Done t) = done
back_stopped (step.Failed e) = failed e

-- ---- uploads

abbrev pub aim_of : Aim → upload.Aim
aim_of a = record { bucket = bucket_of a.bucket; id = tree a.id; size = a.size; filename = string_bytes a.filename; metadata = a.metadata }

abbrev pub upload_with : Upload → Doing → ClientUpload
upload_with u doing = record { aim = aim_of u.aim; checked = u.checked; sent = u.sent; behind = held_of u.buffer; doing = doing }

-- while it is driven on
abbrev pub worker_of : Upload → ClientUpload
worker_of u = upload_with u idle

abbrev pub doing_of : State → Doing
doing_of state.Idle = idle
doing_of (state.Writing piece s) = busy (write piece) (phase_of s)
doing_of (state.Closing s) = busy close (phase_of s)
doing_of (state.Aborting b) = busy abort (back_phase b)
doing_of state.Closed = closed

abbrev pub upload_of : GridFsUploadStream → ClientUpload
upload_of s = upload_with s.upload (doing_of s.state)

-- its buffer holds chunks of its size
pub record HasBuffer (u : Upload) : Type 0 where
  pub cut : HoldsCut u.buffer
  pub sized : size_of u.buffer ≡ u.aim.size

-- What is on its way is its own, and each call that goes on waits for a reply.
pub record IsUpload (s : GridFsUploadStream) : Type 0 where
  pub between : IsBetween (upload_of s)
  pub buffer : HasBuffer s.upload

-- ---- openings

-- It is opened so, with the id that was given, or with the next of a source.
pub record IsOpened (o : ClientOpening) (ids : ℕ → List ℕ) (u : ClientUpload) : Type 0 where
  pub destination : Destination
  pub there : o.destination ≡ Some destination
  pub is : u ≡ new_upload o destination (object_id (ids 0))
