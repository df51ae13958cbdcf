-- What the answers of an opening are caused by, over all its polls.
use Rattle.std.specs.Prelude.{◌≡◌, ℕ, ℤ, List, length, Option, Some, None}
use Rattle.mg_bson.specs.Raw.{fields}
use Rattle.mg_bson.specs.declared.tree.Timestamp.{Timestamp}
use Rattle.mg_server.specs.Calls.{Flies, HeardLast, Keeps, Past, RequestFails, past_of}
use Rattle.mg_link.specs.Errors.{plain}
use Rattle.mg_link.specs.Exec.{IsSuccess, Sending}
use Rattle.mg_link.specs.Link.{Awaited, LogTold}
use Rattle.mg_link.specs.Log.{Call, reply}
use Rattle.mg_link.specs.Session.{Session}
use Rattle.mg_link.specs.declared.action.Step.{Step}
use Rattle.mg_link.specs.declared.action.Step.TheVariants as step
use Rattle.mg_link.specs.declared.error.Error.{Error}
use Rattle.mg_link.specs.declared.error.ErrorKind.TheVariants as kind
use Rattle.mg_ops.specs.declared.change_stream.WatchArgs.{WatchArgs}
use Rattle.mg_ops.specs.declared.cursor_reply.CursorSpecification.{CursorSpecification}
use Rattle.mg_cursor.specs.Causes.{TellsNoCursor}
use Rattle.mg_change.specs.ClientOpenings.{ClientOpening, first_aggregate, opened_with}
use Rattle.mg_change.specs.ClientStreams.{ClientStream, is_read_again, resuming_in}
use Rattle.mg_change.specs.Steps.{CannotResume, OpensCursor}

-- its aggregate, which it sent in this session where there is one, has come so far
pub record FliesFirst (awaited : Awaited) (past : Past) (args : WatchArgs) (sending : Sending) : Type 0 where
  pub session : Option Session
  pub command_is : fields sending.command ≡ resuming_in (first_aggregate args) past.wire session
  pub retries_is : sending.retries ≡ is_read_again session
  pub flies : Flies awaited past (resuming_in (first_aggregate args) past.wire session) sending.stage

abbrev pub OpensSoFar : Awaited → Past → WatchArgs → Option Sending → Type 0
OpensSoFar awaited past args None = Unit {0}
OpensSoFar awaited past args (Some sending) = FliesFirst awaited past args sending

-- why an opening fails: memory runs out; or its aggregate fails, or the reply to it tells no cursor; or it cannot be built
pub data OpeningFails (past : Past) (session : Option Session) (args : WatchArgs) (e : Error) : Type 0 where
  out_of_memory : e ≡ plain kind.OutOfMemory → OpeningFails past session args e
  request : (sent : Option Session) → RequestFails past (resuming_in (first_aggregate args) past.wire sent) (is_read_again sent) TellsNoCursor e → OpeningFails past session args e
  not_built : CannotResume (first_aggregate args) past.wire session e → OpeningFails past session args e

-- the stream that was opened, by this reply
pub record StreamOpened (past : Past) (args : WatchArgs) (s : ClientStream) : Type 0 where
  pub bytes : List ℕ
  pub session : Option Session
  pub heard : HeardLast past (resuming_in (first_aggregate args) past.wire session) (is_read_again session) (reply bytes)
  pub success : IsSuccess bytes
  pub out : CursorSpecification × Option Timestamp
  pub opens : OpensCursor (first_aggregate args) bytes out
  pub stream_is : s ≡ opened_with args past.wire out

-- what a poll of an opening comes to
abbrev pub OpeningCame : Awaited → Past → Option Session → WatchArgs → Step ClientOpening ClientStream → Type 0
OpeningCame awaited past session args (step.Pending o) = OpensSoFar awaited past args o.sending
OpeningCame awaited past session args (step.Done s) = StreamOpened past args s
OpeningCame awaited past session args (step.Failed e) = OpeningFails past session args e

-- A poll led an opening on that had sent at these places before.
abbrev pub OpeningCaused : Awaited → Awaited → LogTold → LogTold → ℤ → Option Session → ClientOpening → Step ClientOpening ClientStream → Type 0
OpeningCaused old new log log' wire session o r = (calls : List Call) → log ≡ Some calls → (places : List ℕ) → OpensSoFar old (past_of places (length calls) calls wire) o.args o.sending
    → (calls' : List Call) × (log' ≡ Some calls') × Keeps calls calls' × OpeningCame new (past_of places (length calls) calls' wire) session o.args r
