-- How a change stream resumes (drivers' specification of change streams, "Resume Process").
use Rattle.std.specs.Prelude.{◌||◌, ℤ, not, Bool, true, false, Option, Some, None, is_some, int_lt, if◌then◌else◌}
use Rattle.mg_bson.specs.Tree.{Tree}
use Rattle.mg_bson.specs.declared.tree.Timestamp.{Timestamp}
use Rattle.mg_options.specs.declared.change_stream.ChangeStreamOptions.{ChangeStreamOptions}
use Rattle.mg_ops.specs.declared.change_stream.ChangeStreamData.{ChangeStreamData}
use Rattle.mg_steps.specs.Resuming.{keeps_start_after}
pub use Rattle.mg_steps.specs.Resuming.{times_from}
use Rattle.mg_steps.specs.declared.resuming.Standing.{Standing}

-- what it knows of its place
abbrev pub standing : ChangeStreamOptions → ChangeStreamData → Standing
standing o state = record { has_token = is_some state.resume_token; starts_after = is_some o.start_after; document_returned = state.document_returned; has_time = is_some state.initial_operation_time }

-- behind the token, by `startAfter` where that was given and no document was returned yet, and else by `resumeAfter`
abbrev pub resume_behind : Bool → ChangeStreamOptions → Tree → ChangeStreamOptions
resume_behind true o token = record o { start_after = Some token; start_at_operation_time = None }
resume_behind false o token = record o { resume_after = Some token; start_after = None; start_at_operation_time = None }

abbrev pub or_time : Option Timestamp → Timestamp → Timestamp
or_time (Some t) time = t
or_time None time = time

-- at the time that was given, or else at this one
abbrev pub start_at : Timestamp → ChangeStreamOptions → ChangeStreamOptions
start_at time o = record o { start_at_operation_time = Some (or_time o.start_at_operation_time time) }

-- with no token: at such a time, where one was saved and the server takes it
abbrev pub resume_at : ChangeStreamOptions → Option Timestamp → ℤ → ChangeStreamOptions
resume_at o None wire = o
resume_at o (Some time) wire = if int_lt wire times_from then o else start_at time o

abbrev pub resume_by : Option Tree → ChangeStreamOptions → ChangeStreamData → ℤ → ChangeStreamOptions
resume_by None o state wire = resume_at o state.initial_operation_time wire
resume_by (Some token) o state wire = resume_behind (keeps_start_after (is_some o.start_after) state.document_returned) o token

-- the options of the aggregate that resumes a stream
abbrev pub resumed : ChangeStreamOptions → ChangeStreamData → ℤ → ChangeStreamOptions
resumed o state wire = resume_by state.resume_token o state wire

abbrev pub options_for : ChangeStreamOptions → Option ChangeStreamData → ℤ → ChangeStreamOptions
options_for o None wire = o
options_for o (Some state) wire = resumed o state wire

-- some start is given
abbrev pub has_start : ChangeStreamOptions → Bool
has_start o = is_some o.resume_after || is_some o.start_after || is_some o.start_at_operation_time

-- the time that a new stream saves: that of its opening, where nothing else says where it began
abbrev pub saved_time : ChangeStreamOptions → ℤ → Bool → Bool → Option Timestamp → Option Timestamp
saved_time o wire is_empty has_token time = if has_start o || int_lt wire times_from || not is_empty || has_token then None else time
