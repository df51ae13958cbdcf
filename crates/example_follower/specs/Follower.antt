-- What a follower hands to the library, and what it reports.
use Rattle.std.specs.Prelude.{◌≡◌, ◌++◌, ℕ, List, [], ◌∷◌, Option, Some, None, Result, Ok, Err, option_and_then, unwrap_or, codes}
use Rattle.mg_bson.specs.Find.{get, as_document, as_string}
use Rattle.mg_bson.specs.Literal.{◌⇒◌⨾◌, empty}
use Rattle.mg_bson.specs.Tree.{Tree, Fields}
use Rattle.mg_link.specs.declared.error.Error.{Error}
use Rattle.mg_server.specs.Follow.{FollowsOn, Moved}
use Rattle.mg_link.specs.Link.{Awaited, LogTold}
use Rattle.mg_link.specs.Log.{Call}
use Rattle.mg_server.specs.State.{Start, Watch}
use Rattle.mg_options.specs.Options.{no_options}
use Rattle.mg_options.specs.declared.change_stream.ChangeStreamOptions.{ChangeStreamOptions}
use Rattle.mg_ops.specs.declared.change_stream.WatchArgs.{WatchArgs}
use Rattle.mg_change.specs.ClientStreams.{Asks, ClientStream, stream_token}
use Rattle.mg_change.specs.Following.{event_told, follow_of, idle_by, not_open}
use Rattle.mg_change.specs.declared.event_poll.EventPoll.TheVariants as poll

-- the options of a watch that goes on behind this token, where there is one
abbrev pub from_token : Option Tree → ChangeStreamOptions
from_token token = record no_options { resume_after = token }

-- the document that keeps a token
abbrev pub kept_token : Option Tree → Fields
kept_token None = empty
kept_token (Some token) = "token" ⇒ token ⨾ empty

-- ---- the report

-- the `_id` of the document that an event tells of, where it is a text
abbrev pub id_of : Fields → Option (List ℕ)
id_of event = option_and_then as_string (option_and_then (get (codes "_id")) (option_and_then as_document (get (codes "documentKey") event)))

abbrev pub line_of : Fields → List ℕ
line_of event = (codes "order " ++ unwrap_or (id_of event) (codes "?")) ++ codes "\n"

abbrev pub lines_of : List Fields → List ℕ
lines_of [] = []
lines_of (event ∷ more) = line_of event ++ lines_of more

-- ---- what a stream answered

-- the stream was opened with these arguments, and has answered nothing
pub record Opens (awaited : Awaited) (log log' : LogTold) (args : WatchArgs) (s : ClientStream) : Type 0 where
  pub args_are : s.aggregate.args ≡ args
  pub moved : (w : Watch) (start : Start) → Asks args w start → (opened : Option ℕ) × Moved log log' (not_open w start) (follow_of awaited w start s opened [])

-- polls of the stream led it on, and it answered these events
pub record Answers (old new : Awaited) (log log' : LogTold) (s s' : ClientStream) (told : List Fields) : Type 0 where
  pub args : s'.aggregate.args ≡ s.aggregate.args
  pub moved : (w : Watch) (start : Start) → Asks s.aggregate.args w start → (opened : Option ℕ) (answered : List Fields) → Moved log log' (follow_of old w start s opened answered) (follow_of new w start s' opened (answered ++ told))

-- the event of an answer
abbrev pub popped_told : Result (Option (List ℕ)) Error → List Fields
popped_told (Ok event) = event_told (poll.Ready event)
popped_told (Err e) = []

-- the stream answered events, and the report has just their lines more
pub record Reports (old new : Awaited) (log log' : LogTold) (s s' : ClientStream) (report report' : List ℕ) : Type 0 where
  pub events : List Fields
  pub answered : Answers old new log log' s s' events
  pub lines : report' ≡ report ++ lines_of events

-- Where the link tells its log: in every legal history in which that stands, the events are the first that the watch shows from its opening place
-- on, each once and in order, just up to the place that the stream's token names.
abbrev pub Followed : LogTold → LogTold → WatchArgs → ClientStream → List Fields → Type 0
Followed log log' args s events = (w : Watch) (start : Start) → Asks args w start → (calls : List Call) → log ≡ Some calls
    → (calls' : List Call) × (log' ≡ Some calls') × (opened : Option ℕ) × FollowsOn calls' (idle_by w start opened s.cursor.id (stream_token s) events)

-- a new stream followed, and the report has just the lines of its events more
pub record ReportsAll (log log' : LogTold) (args : WatchArgs) (s : ClientStream) (report report' : List ℕ) : Type 0 where
  pub events : List Fields
  pub followed : Followed log log' args s events
  pub lines : report' ≡ report ++ lines_of events
