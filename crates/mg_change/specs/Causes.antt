-- What the answers of a change stream are caused by, over all polls of a call, and what a call waits for.
use Rattle.std.specs.Prelude.{◌≡◌, ◌≢◌, ◌⊎◌, true, false, ℕ, ℤ, pos, Bool, List, [], ◌∷◌, length, Option, Some, None, Ok}
use Rattle.mg_bson.specs.Raw.{fields}
use Rattle.mg_bson.specs.Tree.{Tree}
use Rattle.mg_bson.specs.declared.tree.Timestamp.{Timestamp}
use Rattle.mg_server.specs.Calls.{Flies, HeardBy, HeardLast, IsAwaited, Keeps, NoneBroken, Past, RequestFails, past_of}
use Rattle.mg_link.specs.Errors.{plain}
use Rattle.mg_link.specs.Exec.{IsSuccess, Sending}
use Rattle.mg_link.specs.Link.{Awaited, LogTold}
use Rattle.mg_link.specs.Log.{Call, reply}
use Rattle.mg_link.specs.Resumable.{is_resumable}
use Rattle.mg_link.specs.Session.{Session}
use Rattle.mg_link.specs.declared.error.Error.{Error}
use Rattle.mg_link.specs.declared.error.ErrorKind.TheVariants as kind
use Rattle.mg_ops.specs.Commands.{kill_command}
use Rattle.mg_ops.specs.Cursors.{Cursor, cursor_of}
use Rattle.mg_ops.specs.Failing.{CannotBeSent}
use Rattle.mg_ops.specs.declared.cursor_reply.CursorSpecification.{CursorSpecification}
use Rattle.mg_cursor.specs.Batches.{BreaksBatch, documents_of}
use Rattle.mg_cursor.specs.Causes.{FliesMore, HeardMore, MoreFails, TellsNoCursor}
use Rattle.mg_cursor.specs.Client.{ClientCursor, IsOver, MayAsk, PlainIf, asks, at_rest, behind_failure, behind_reply, get_more, holds, kill, new_client, rests}
use Rattle.mg_cursor.specs.Client as cursors
use Rattle.mg_cursor.specs.Closing.{ClosingCursor, IsClosingUnderway}
use Rattle.mg_cursor.specs.Polling.{CannotAsk}
use Rattle.mg_cursor.specs.declared.polls.TryPoll.{TryPoll}
use Rattle.mg_cursor.specs.declared.polls.TryPoll.TheVariants as try
use Rattle.mg_cursor.specs.declared.results.AdvanceResult.{AdvanceResult}
use Rattle.mg_cursor.specs.declared.results.AdvanceResult.TheVariants as result
use Rattle.mg_change.specs.ClientStreams.{ClientStream, Doing, follows, id_in, is_read_again, kills, owes, remembered_by, remembered_empty, renewed, resumes, resuming_in, token_behind}
use Rattle.mg_change.specs.Steps.{CannotResume, OpensCursor}
use Rattle.mg_change.specs.declared.event_poll.EventPoll.{EventPoll}
use Rattle.mg_change.specs.declared.event_poll.EventPoll.TheVariants as poll

-- whether a call names no session: then the aggregate of a resumption in it names none
abbrev pub is_lone : Option Session → Bool
is_lone None = true
is_lone (Some session) = false

-- ---- between two calls

-- nothing is owed, and the batch of the opening was looked at
pub record IsSettled (s : ClientStream) : Type 0 where
  pub follows_on : s.doing ≡ follows
  pub looked : s.cursor.doing ≡ rests

-- a resumption is owed, and nothing received is left
pub record IsOwing (s : ClientStream) : Type 0 where
  pub owes_one : s.doing ≡ owes
  pub none_left : s.behind ≡ []

-- a getMore may be sent: everything received is given, and the server holds the cursor
pub record MayAskMore (s : ClientStream) : Type 0 where
  pub settled : IsSettled s
  pub none_left : s.behind ≡ []
  pub may : MayAsk s.cursor

-- the reply to its opening is in hand, whose batch was not looked at
pub record HoldsFirst (s : ClientStream) (bytes : List ℕ) : Type 0 where
  pub follows_on : s.doing ≡ follows
  pub in_hand : s.cursor.doing ≡ holds bytes
  pub none_left : s.behind ≡ []

-- ---- why it resumes

-- why its getMore brought no batch, and the cursor behind it
pub data MoreFailed (past : Past) (at : ClientStream) (e : Error) (c : ClientCursor) : Type 0 where
  -- it failed, or the reply to it tells no cursor, or was not read for want of memory
  untold : MayAskMore at → MoreFails past at.cursor e ⊎ (e ≡ plain kind.OutOfMemory) → c ≡ behind_failure e at.cursor → MoreFailed past at e c
  -- or no documents of it
  broken : MayAskMore at → (bytes : List ℕ) (said : Cursor) → HeardMore past at.cursor bytes → cursor_of (fields bytes) ≡ Ok said → c ≡ behind_reply said at.cursor → BreaksBatch bytes e → MoreFailed past at e c

-- Why the stream resumes, and the cursor that it leaves. No event is in hand then.
pub data Resumes (past : Past) (at : ClientStream) (c : ClientCursor) : Type 0 where
  -- it was owed as the call began
  owed : IsOwing at → c ≡ at_rest at.cursor → Resumes past at c
  -- the getMore in this call failed so that a stream resumes
  more_failed : (e : Error) → MoreFailed past at e c → is_resumable e.kind e.labels e.wire_version ≡ true → Resumes past at c
  -- the reply to the opening has no batch of documents
  first_broken : (bytes : List ℕ) (e : Error) → HoldsFirst at bytes → BreaksBatch bytes e → c ≡ at_rest at.cursor → Resumes past at c

-- the call heard this reply to the aggregate that resumes the stream
pub record HeardAggregate (past : Past) (lone : Bool) (at : ClientStream) (bytes : List ℕ) : Type 0 where
  pub session : Option Session
  pub plainly : PlainIf lone session
  pub heard : HeardLast past (resuming_in at.aggregate past.wire session) (is_read_again session) (reply bytes)
  pub success : IsSuccess bytes

-- the reply to the aggregate of a resumption, and the cursor that it gave in the place of an old one
pub record Resumed (past : Past) (lone : Bool) (at : ClientStream) (old : ClientCursor) (bytes : List ℕ) (c : ClientCursor) : Type 0 where
  pub why : Resumes past at old
  pub heard : HeardAggregate past lone at bytes
  pub out : CursorSpecification × Option Timestamp
  pub opens : OpensCursor at.aggregate bytes out
  pub cursor_is : c ≡ new_client out.0

-- what came of the cursor that a resumption replaced: the server held it no longer; or its killCursors had success, or failed, but not for want of memory
pub data Killed (past : Past) (old : ClientCursor) : Type 0 where
  none_held : IsOver old → Killed past old
  was_killed : MayAsk old → (bytes : List ℕ) → HeardBy past (kill old) (reply bytes) → IsSuccess bytes → Killed past old
  tried : MayAsk old → (e : Error) → e.kind ≢ kind.OutOfMemory → RequestFails past (kill old) false NoneBroken e ⊎ CannotBeSent (kill old) e → Killed past old

-- a reply with a batch, whether it is that of a resumption, and the cursor of the stream behind it
pub data Replied (past : Past) (lone : Bool) (at : ClientStream) (again : Bool) (bytes : List ℕ) (c : ClientCursor) : Type 0 where
  -- to the opening, in the first call
  opening : again ≡ false → HoldsFirst at bytes → c ≡ at_rest at.cursor → Replied past lone at again bytes c
  -- to the getMore of the cursor
  more : again ≡ false → MayAskMore at → (said : Cursor) → HeardMore past at.cursor bytes → cursor_of (fields bytes) ≡ Ok said → c ≡ behind_reply said at.cursor → Replied past lone at again bytes c
  -- to the aggregate of a resumption, which closes the cursor before it
  once_more : again ≡ true → (old new : ClientCursor) → Resumed past lone at old bytes new → Killed past old → c ≡ at_rest new → Replied past lone at again bytes c

-- ---- a call that goes on

-- nothing was sent, and nothing is in hand but what was as it began
pub record IsStart (at s : ClientStream) : Type 0 where
  pub follows_on : at.doing ≡ follows
  pub cursor : s.cursor ≡ at.cursor
  pub events : s.behind ≡ at.behind

abbrev pub ByCursor : Awaited → Past → ClientStream → ClientStream → cursors.Doing → Type 0
ByCursor awaited past at s rests = IsStart at s
ByCursor awaited past at s (holds bytes) = IsStart at s
ByCursor awaited past at s (asks sending) = MayAskMore at × (at_rest s.cursor ≡ at.cursor) × (s.behind ≡ []) × FliesMore awaited past s.cursor sending

-- the aggregate that resumes it, which the call sent in this session where there was one, has come so far
pub record FliesAggregate (awaited : Awaited) (past : Past) (lone : Bool) (at : ClientStream) (sending : Sending) : Type 0 where
  pub session : Option Session
  pub plainly : PlainIf lone session
  pub command_is : fields sending.command ≡ resuming_in at.aggregate past.wire session
  pub retries_is : sending.retries ≡ is_read_again session
  pub flies : Flies awaited past (resuming_in at.aggregate past.wire session) sending.stage

-- the cursor before is being closed
pub record IsReplaced (awaited : Awaited) (past : Past) (lone : Bool) (at s : ClientStream) (before : ClosingCursor) : Type 0 where
  pub bytes : List ℕ
  pub resumed : Resumed past lone at (at_rest before.cursor) bytes s.cursor
  pub underway : IsClosingUnderway awaited past before

-- it was closed
pub record IsRenewed (past : Past) (lone : Bool) (at s : ClientStream) : Type 0 where
  pub old : ClientCursor
  pub bytes : List ℕ
  pub resumed : Resumed past lone at old bytes s.cursor
  pub killed : Killed past old

-- how far a call has come, by what is on its way
abbrev pub ByDoing : Awaited → Past → Bool → ClientStream → ClientStream → Doing → Type 0
ByDoing awaited past lone at s follows = ByCursor awaited past at s s.cursor.doing
ByDoing awaited past lone at s owes = Resumes past at (at_rest s.cursor)
ByDoing awaited past lone at s (resumes sending) = Resumes past at (at_rest s.cursor) × FliesAggregate awaited past lone at sending
ByDoing awaited past lone at s (kills before) = IsReplaced awaited past lone at s before
ByDoing awaited past lone at s renewed = IsRenewed past lone at s

-- What a call has come to that began where its stream stood so.
pub record SoFar (awaited : Awaited) (past : Past) (lone : Bool) (at s : ClientStream) : Type 0 where
  pub same : s.aggregate ≡ at.aggregate
  pub by : ByDoing awaited past lone at s s.doing

-- What a call waits for that began where its stream stood so.
pub data CallWaits (awaited : Awaited) (past : Past) (lone : Bool) (at : ClientStream) : Type 0 where
  -- the reply to the getMore of its cursor
  more_waits : MayAskMore at → (session : Option Session) → IsAwaited awaited past (get_more at.cursor session) → CallWaits awaited past lone at
  -- the reply to the aggregate that resumes the stream
  resumption_waits : (c : ClientCursor) → Resumes past at c → (session : Option Session) → PlainIf lone session → IsAwaited awaited past (resuming_in at.aggregate past.wire session) → CallWaits awaited past lone at
  -- the reply to the killing of the cursor that a resumption replaced
  killing_waits : (old c : ClientCursor) (bytes : List ℕ) → old.id ≢ pos 0 → Resumed past lone at old bytes c → IsAwaited awaited past (kill_command old.space (old.id ∷ [])) → CallWaits awaited past lone at

-- ---- answers

-- The events that are next, with the cursor: what is left of a batch; or those of a batch that came, where nothing was left.
pub data Next (past : Past) (lone : Bool) (at : ClientStream) (events : List (List ℕ)) (c : ClientCursor) : Type 0 where
  left : IsSettled at → events ≡ at.behind → c ≡ at.cursor → Next past lone at events c
  came : at.behind ≡ [] → (again : Bool) (bytes : List ℕ) → Replied past lone at again bytes c → documents_of bytes ≡ Some events → Next past lone at events c

-- the next event is given
pub record CallGave (past : Past) (lone : Bool) (at after : ClientStream) (event : List ℕ) : Type 0 where
  pub next : Next past lone at (event ∷ after.behind) after.cursor
  pub id : Tree
  pub has : id_in event ≡ Some id
  pub remembers : after.aggregate ≡ remembered_by (token_behind after.behind after.cursor.token id) true at.aggregate
  pub settled : IsSettled after

-- Nothing is there, and nothing received was left: a batch came empty, by a resumption or not, or the server holds no cursor.
pub data CallNone (past : Past) (lone : Bool) (at after : ClientStream) (again : Bool) : Type 0 where
  came_empty : at.behind ≡ [] → (bytes : List ℕ) → Replied past lone at again bytes after.cursor → documents_of bytes ≡ Some [] → after.aggregate ≡ remembered_empty after.cursor.token at.aggregate → CallNone past lone at after again
  none_left : again ≡ false → IsSettled at → at.behind ≡ [] → at.cursor.id ≡ pos 0 → after.aggregate ≡ at.aggregate → after.cursor ≡ at.cursor → CallNone past lone at after again

-- everything received is given
pub record CallEmpty (past : Past) (lone : Bool) (at after : ClientStream) (again : Bool) : Type 0 where
  pub why : CallNone past lone at after again
  pub empty : after.behind ≡ []
  pub settled : IsSettled after

-- Where want of memory may lose a batch, and the cursor of the stream behind it.
pub data MayLose (past : Past) (lone : Bool) (at : ClientStream) (c : ClientCursor) : Type 0 where
  -- in the getMore
  asking : MayAskMore at → c ≡ at.cursor → MayLose past lone at c
  -- in the aggregate of a resumption
  resuming : Resumes past at (at_rest c) → MayLose past lone at c
  -- in the killing of the cursor before it
  closing : (old : ClientCursor) (bytes : List ℕ) → Resumed past lone at old bytes c → MayAsk old → MayLose past lone at c

-- Want of memory in copying the next event or the token, or in building a getMore, leaves the stream as it was, or with the batch that came in hand.
pub data StaysSo (past : Past) (lone : Bool) (at after : ClientStream) : Type 0 where
  as_it_was : IsSettled at → after.cursor ≡ at.cursor → after.behind ≡ at.behind → after.doing ≡ at.doing → StaysSo past lone at after
  in_hand : (again : Bool) (bytes : List ℕ) → Replied past lone at again bytes after.cursor → documents_of bytes ≡ Some after.behind → after.behind ≢ [] → IsSettled after → StaysSo past lone at after

-- a refusal after which nothing is to be resumed
pub record IsFinal (e : Error) : Type 0 where
  pub stays : is_resumable e.kind e.labels e.wire_version ≡ false
  pub room : e.kind ≢ kind.OutOfMemory

-- the aggregate of a resumption failed, or the reply to it tells no cursor
pub record ResumptionFails (past : Past) (lone : Bool) (at : ClientStream) (e : Error) : Type 0 where
  pub session : Option Session
  pub plainly : PlainIf lone session
  pub fails : RequestFails past (resuming_in at.aggregate past.wire session) (is_read_again session) TellsNoCursor e

-- why a call fails that began in this session where it names one, and how the stream stands then
pub data CallFails (past : Past) (session : Option Session) (at after : ClientStream) (e : Error) : Type 0 where
  -- memory ran out, where a batch may be lost
  may_lose : e.kind ≡ kind.OutOfMemory → IsOwing after → MayLose past (is_lone session) at after.cursor → CallFails past session at after e
  -- or elsewhere
  no_memory : e.kind ≡ kind.OutOfMemory → StaysSo past (is_lone session) at after → CallFails past session at after e
  not_resumed : IsOwing after → Resumes past at (at_rest after.cursor) → ResumptionFails past (is_lone session) at e → CallFails past session at after e
  -- the reply to the aggregate of a resumption has no batch of documents
  batch_broken : (bytes : List ℕ) → IsOwing after → Replied past (is_lone session) at true bytes after.cursor → BreaksBatch bytes e → CallFails past session at after e
  -- the aggregate cannot be built, for the session as it is now: none where the call names none
  cannot_resume : IsOwing after → Resumes past at (at_rest after.cursor) → (now : Option Session) → (session ≡ None → now ≡ None) × CannotResume at.aggregate past.wire now e → CallFails past session at after e
  -- the getMore failed, and nothing is to be resumed: the stream is as it was, but for a cursor that ended
  refused_more : MayAskMore at → MoreFails past at.cursor e → IsFinal e → after.cursor ≡ behind_failure e at.cursor → after.behind ≡ [] → IsSettled after → CallFails past session at after e
  -- the getMore cannot be built: the stream is as it was
  cannot_ask : MayAskMore at → CannotAsk at.cursor session e → after.cursor ≡ at.cursor → after.behind ≡ [] → IsSettled after → CallFails past session at after e
  -- the next event, which was left or came with a reply, names no place to resume from; it is passed over
  no_id : (event : List ℕ) → Next past (is_lone session) at (event ∷ after.behind) after.cursor → id_in event ≡ None → e ≡ plain kind.MissingResumeToken → IsSettled after → CallFails past session at after e

-- the stream keeps its token
pub record CallFailed (past : Past) (session : Option Session) (at after : ClientStream) (e : Error) : Type 0 where
  pub why : CallFails past session at after e
  pub token : after.aggregate ≡ at.aggregate

-- ---- polls

-- what a poll of a call that copies came to
abbrev pub CallCame : Awaited → Past → Option Session → ClientStream → ClientStream → EventPoll → Type 0
CallCame awaited past session at s poll.Pending = SoFar awaited past (is_lone session) at s
CallCame awaited past session at s (poll.Ready None) = (again : Bool) × CallEmpty past (is_lone session) at s again
CallCame awaited past session at s (poll.Ready (Some event)) = CallGave past (is_lone session) at s event
CallCame awaited past session at s (poll.Failed e) = CallFailed past session at s e

-- A call that has ended: what it answered, how its stream stood before it, and how it stands behind it.
abbrev pub Called : Past → Option Session → ClientStream → ClientStream → EventPoll → Type 0
Called past session at after poll.Pending = ⊥
Called past session at after (poll.Ready None) = (again : Bool) × CallEmpty past (is_lone session) at after again
Called past session at after (poll.Ready (Some event)) = CallGave past (is_lone session) at after event
Called past session at after (poll.Failed e) = CallFailed past session at after e

-- an event is lent
pub record CallLent (past : Past) (lone : Bool) (at after : ClientStream) : Type 0 where
  pub event : List ℕ
  pub current_is : after.current ≡ Some event
  pub gave : CallGave past lone at after event

abbrev pub ResultCame : Past → Bool → ClientStream → ClientStream → AdvanceResult (Unit {0}) → Type 0
ResultCame past lone at s (result.Advanced t) = CallLent past lone at s
ResultCame past lone at s result.Exhausted = CallEmpty past lone at s false × (at.cursor.id ≡ pos 0)
ResultCame past lone at s result.Waiting = (again : Bool) × CallEmpty past lone at s again

-- what a poll of a call that lends came to
abbrev pub TryCame : Awaited → Past → Option Session → ClientStream → ClientStream → TryPoll → Type 0
TryCame awaited past session at s try.Pending = SoFar awaited past (is_lone session) at s
TryCame awaited past session at s (try.Ready r) = ResultCame past (is_lone session) at s r
TryCame awaited past session at s (try.Failed e) = CallFailed past session at s e

-- A poll led a call on that had sent at these places before: it goes on, or has ended, with its cause.
abbrev pub CallCaused : Awaited → Awaited → LogTold → LogTold → ℤ → Option Session → ClientStream → ClientStream → EventPoll → Type 0
CallCaused old new log log' wire session s s' r = (calls : List Call) → log ≡ Some calls → (places : List ℕ) (at : ClientStream) → SoFar old (past_of places (length calls) calls wire) (is_lone session) at s
    → (calls' : List Call) × (log' ≡ Some calls') × Keeps calls calls' × CallCame new (past_of places (length calls) calls' wire) session at s' r

abbrev pub TryCaused : Awaited → Awaited → LogTold → LogTold → ℤ → Option Session → ClientStream → ClientStream → TryPoll → Type 0
TryCaused old new log log' wire session s s' r = (calls : List Call) → log ≡ Some calls → (places : List ℕ) (at : ClientStream) → SoFar old (past_of places (length calls) calls wire) (is_lone session) at s
    → (calls' : List Call) × (log' ≡ Some calls') × Keeps calls calls' × TryCame new (past_of places (length calls) calls' wire) session at s' r
