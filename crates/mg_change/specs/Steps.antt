-- What one step of a change stream does, which sends one command at most (change streams specification).
use Rattle.std.specs.Prelude.{◌≡◌, ◌≢◌, ◌⊎◌, ◌+◌, ℕ, zero, suc, ℤ, Bool, true, false, List, [], ◌∷◌, Option, Some}
use Rattle.mg_bson.specs.Raw.{fields}
use Rattle.mg_bson.specs.declared.tree.Timestamp.{Timestamp}
use Rattle.mg_link.specs.Causes.{one_if}
use Rattle.mg_link.specs.Exec.{RunsStarting, Sending}
use Rattle.mg_link.specs.Link.{Awaited, SendsNothing, LogTold}
use Rattle.mg_link.specs.Resumable.{is_resumable}
use Rattle.mg_link.specs.Session.{Session}
use Rattle.mg_link.specs.declared.action.Step.{Step}
use Rattle.mg_link.specs.declared.action.Step.TheVariants as step
use Rattle.mg_link.specs.declared.error.Error.{Error}
use Rattle.mg_link.specs.declared.error.ErrorKind.TheVariants as kind
use Rattle.mg_steps.specs.Failures.{IsFault, after_failure}
use Rattle.mg_steps.specs.declared.failures.AfterFailure.{AfterFailure}
use Rattle.mg_steps.specs.declared.failures.AfterFailure.TheVariants as after
use Rattle.mg_steps.specs.declared.failures.Fault.{Fault}
use Rattle.mg_steps.specs.declared.failures.StreamCommand.{StreamCommand}
use Rattle.mg_ops.specs.Cursors.{BreaksIn, OpensWithTime}
use Rattle.mg_ops.specs.Failing.{CannotBeSent, FailsBy, HasBadSize}
use Rattle.mg_ops.specs.declared.aggregate.ChangeStreamAggregate.{ChangeStreamAggregate}
use Rattle.mg_ops.specs.declared.cursor_reply.CursorSpecification.{CursorSpecification}
use Rattle.mg_cursor.specs.Batches.{BreaksBatch, documents_of}
use Rattle.mg_cursor.specs.Client.{ClientCursor, IsNew, IsOver, MayAsk, asking_by, asks, at_rest, get_more, holds, new_client, rests}
use Rattle.mg_cursor.specs.Closing.{ClosingCursor, ClosingPolls, closed}
use Rattle.mg_cursor.specs.Polling.{CannotAsk, RunsMore}
use Rattle.mg_cursor.specs.Seeking.{session_after}
use Rattle.mg_cursor.specs.declared.polls.NextPoll.{NextPoll}
use Rattle.mg_cursor.specs.declared.polls.NextPoll.TheVariants as next
use Rattle.mg_cursor.specs.declared.polls.TryPoll.TheVariants as try
use Rattle.mg_cursor.specs.declared.results.AdvanceResult.TheVariants as result
use Rattle.mg_change.specs.ClientStreams.{ClientStream, IsNewAggregate, follows, holding_with, is_renewed, kills, owes, owing_with, remembered_empty, renewed, resumes, resuming_in, with_cursor}
use Rattle.mg_change.specs.declared.event_poll.Stepped.{Stepped}
use Rattle.mg_change.specs.declared.event_poll.Stepped.TheVariants as stepped

-- ---- a batch

-- behind a batch that came empty, everything received is given
abbrev pub emptied : ClientCursor → ClientStream → ClientStream
emptied c s = record s { aggregate = remembered_empty c.token s.aggregate; cursor = c; behind = []; doing = follows }

-- a batch that is malformed is not kept: the stream resumes; where the batch is that of a resumption it fails, and the next one is owed
abbrev pub broken_by : Bool → Error → Stepped
broken_by true e = stepped.Gives (try.Failed e)
broken_by false e = stepped.Goes

-- What comes of a reply whose batch is looked at, and whether that is a resumption's: an event is next, or nothing is there, or it is malformed.
pub data LooksAt (again : Bool) (s : ClientStream) (c : ClientCursor) (reply : List ℕ) (s' : ClientStream) (r : Stepped) : Type 0 where
  some : (event : List ℕ) (events : List (List ℕ)) → documents_of reply ≡ Some (event ∷ events) → s' ≡ holding_with c (event ∷ events) s → r ≡ stepped.Found → LooksAt again s c reply s' r
  none : documents_of reply ≡ Some [] → s' ≡ emptied c s → r ≡ stepped.Gives (try.Ready result.Waiting) → LooksAt again s c reply s' r
  broken : (e : Error) → BreaksBatch reply e → s' ≡ owing_with c s → r ≡ broken_by again e → LooksAt again s c reply s' r

-- ---- a failure

-- what a stream does after a command of it failed with this error
abbrev pub LeadsTo : AfterFailure → ClientStream → Error → ClientStream → Stepped → Type 0
LeadsTo after.Resumes s e s' r = (s' ≡ record s { doing = owes }) × (r ≡ stepped.Goes)
LeadsTo after.Owes s e s' r = (s' ≡ record s { doing = owes }) × (r ≡ stepped.Gives (try.Failed e))
LeadsTo after.Fails s e s' r = (s' ≡ s) × (r ≡ stepped.Gives (try.Failed e))
LeadsTo after.PassesOver s e s' r = (s' ≡ record s { doing = renewed }) × (r ≡ stepped.Goes)

-- after this command of it did
pub record Leads (command : StreamCommand) (s : ClientStream) (e : Error) (s' : ClientStream) (r : Stepped) : Type 0 where
  pub fault : Fault
  pub is : IsFault e fault
  pub leads : LeadsTo (after_failure command fault) s e s' r

-- ---- a getMore

-- behind a failure: the stream resumes, or the resumption is owed for want of memory, or nothing is to be resumed
pub data FailsMore (s : ClientStream) (c : ClientCursor) (e : Error) (s' : ClientStream) (r : Stepped) : Type 0 where
  goes_on : is_resumable e.kind e.labels e.wire_version ≡ true → s' ≡ owing_with c s → r ≡ stepped.Goes → FailsMore s c e s' r
  no_memory : e.kind ≡ kind.OutOfMemory → s' ≡ owing_with c s → r ≡ stepped.Gives (try.Failed e) → FailsMore s c e s' r
  final : is_resumable e.kind e.labels e.wire_version ≡ false → e.kind ≢ kind.OutOfMemory → s' ≡ with_cursor c s → r ≡ stepped.Gives (try.Failed e) → FailsMore s c e s' r

-- what comes of a poll of the getMore, which left the cursor so
abbrev pub TakesMore : ClientStream → ClientCursor → NextPoll → ClientStream → Stepped → Type 0
TakesMore s c next.Pending s' r = (s' ≡ with_cursor c s) × (r ≡ stepped.Gives try.Pending)
TakesMore s c (next.Batch reply) s' r = LooksAt false s c reply s' r
TakesMore s c next.End s' r = ⊥
TakesMore s c (next.Failed e) s' r = FailsMore s c e s' r

-- a poll of the getMore over the link, and what comes of it
pub record AsksMore (old new : Awaited) (log log' : LogTold) (wire : ℤ) (started : Bool) (s : ClientStream) (sending : Sending) (s' : ClientStream) (r : Stepped) : Type 0 where
  pub left : ClientCursor
  pub poll : NextPoll
  pub runs : RunsMore old new log log' wire started s.cursor sending left poll
  pub takes : TakesMore s left poll s' r

-- ---- a resumption

-- with the new cursor, while the one before it is closed
abbrev pub replaced_by : CursorSpecification → ClientStream → ClientStream
replaced_by out s = record s { cursor = new_client out; behind = []; doing = kills (closed s.cursor) }

-- its aggregate is not built: the size of its batches is none, or it cannot be sent
abbrev pub CannotResume : ChangeStreamAggregate → ℤ → Option Session → Error → Type 0
CannotResume a wire session e = HasBadSize a.args.options.batch_size e ⊎ CannotBeSent (resuming_in a wire session) e

-- how the reply to an aggregate of these arguments opens a cursor
abbrev pub OpensCursor : ChangeStreamAggregate → List ℕ → CursorSpecification × Option Timestamp → Type 0
OpensCursor a reply out = OpensWithTime a.args.options.batch_size a.args.options.max_await_time a.args.options.comment reply out

-- a reply to its aggregate gives the new cursor; or it breaks the grammar of a cursor, or memory ran out as it was read
pub data ReadsResumption (s : ClientStream) (reply : List ℕ) (s' : ClientStream) (r : Stepped) : Type 0 where
  gave : (out : CursorSpecification × Option Timestamp) → OpensCursor s.aggregate reply out → s' ≡ replaced_by out.0 s → r ≡ stepped.Goes → ReadsResumption s reply s' r
  broke : (e : Error) → FailsBy (BreaksIn (fields reply)) e → s' ≡ record s { doing = owes } → r ≡ stepped.Gives (try.Failed e) → ReadsResumption s reply s' r

-- what comes of a poll of the aggregate
abbrev pub HearsResumption : ClientStream → Step Sending (List ℕ) → ClientStream → Stepped → Type 0
HearsResumption s (step.Pending sending) s' r = (s' ≡ record s { doing = resumes sending }) × (r ≡ stepped.Gives try.Pending)
HearsResumption s (step.Done reply) s' r = ReadsResumption s reply s' r
HearsResumption s (step.Failed e) s' r = LeadsTo after.Owes s e s' r

-- a poll of the aggregate over the link, and what comes of it
pub record RunsResumption (old new : Awaited) (log log' : LogTold) (wire : ℤ) (started : Bool) (s : ClientStream) (sending : Sending) (s' : ClientStream) (r : Stepped) : Type 0 where
  pub came : Step Sending (List ℕ)
  pub runs : RunsStarting old new log log' wire sending came started
  pub hears : HearsResumption s came s' r

-- what comes of the closing of the cursor before: its failure is passed over, but for want of memory
abbrev pub HearsClosing : ClientStream → Step ClosingCursor (Unit {0}) → ClientStream → Stepped → Type 0
HearsClosing s (step.Pending old) s' r = (s' ≡ record s { doing = kills old }) × (r ≡ stepped.Gives try.Pending)
HearsClosing s (step.Done t) s' r = (s' ≡ record s { doing = renewed }) × (r ≡ stepped.Goes)
HearsClosing s (step.Failed e) s' r =
    ((e.kind ≡ kind.OutOfMemory) × (s' ≡ record s { doing = owes }) × (r ≡ stepped.Gives (try.Failed e)))
    ⊎ ((e.kind ≢ kind.OutOfMemory) × (s' ≡ record s { doing = renewed }) × (r ≡ stepped.Goes))

-- ---- a step

-- What a step does, by how the stream stands as it begins; `started` says whether a command of the session was started in it.
pub data DoesStep (old new : Awaited) (log log' : LogTold) (wire : ℤ) (session : Option Session) (started : Bool) (s s' : ClientStream) (r : Stepped) : Type 0 where
  -- an event that was received is next, and nothing is sent
  finds : s.doing ≡ follows → s.behind ≢ [] → SendsNothing old new log log' → started ≡ false → s' ≡ s → r ≡ stepped.Found → DoesStep old new log log' wire session started s s' r
  -- the batch of the opening is looked at, and nothing is sent
  looks : s.doing ≡ follows → s.behind ≡ [] → (reply : List ℕ) → s.cursor.doing ≡ holds reply → SendsNothing old new log log' → started ≡ false → LooksAt false s (at_rest s.cursor) reply s' r → DoesStep old new log log' wire session started s s' r
  -- nothing is asked for any more
  ends : s.doing ≡ follows → s.behind ≡ [] → s.cursor.doing ≡ rests → IsOver s.cursor → SendsNothing old new log log' → started ≡ false → s' ≡ s → r ≡ stepped.Gives (try.Ready result.Exhausted) → DoesStep old new log log' wire session started s s' r
  -- the getMore is not built, or memory runs out before; nothing is sent and nothing has changed
  not_asked : s.doing ≡ follows → s.behind ≡ [] → s.cursor.doing ≡ rests → MayAsk s.cursor → (e : Error) → FailsBy (CannotAsk s.cursor session) e → SendsNothing old new log log' → started ≡ false → s' ≡ s → r ≡ stepped.Gives (try.Failed e) → DoesStep old new log log' wire session started s s' r
  -- the getMore of its cursor is sent
  asks_more : s.doing ≡ follows → s.behind ≡ [] → s.cursor.doing ≡ rests → MayAsk s.cursor → (sending : Sending) → IsNew (get_more s.cursor session) sending → AsksMore old new log log' wire started s sending s' r → DoesStep old new log log' wire session started s s' r
  -- or waited for
  waits_more : s.doing ≡ follows → s.behind ≡ [] → (sending : Sending) → s.cursor.doing ≡ asks sending → AsksMore old new log log' wire started s sending s' r → DoesStep old new log log' wire session started s s' r
  -- the aggregate of a resumption is not built: it is owed still
  not_resumed : s.doing ≡ owes → (e : Error) → FailsBy (CannotResume s.aggregate wire session) e → SendsNothing old new log log' → started ≡ false → s' ≡ s → r ≡ stepped.Gives (try.Failed e) → DoesStep old new log log' wire session started s s' r
  -- it is sent
  resumes_now : s.doing ≡ owes → (sending : Sending) → IsNewAggregate (resuming_in s.aggregate wire session) session sending → RunsResumption old new log log' wire started s sending s' r → DoesStep old new log log' wire session started s s' r
  -- or waited for
  waits_resumption : (sending : Sending) → s.doing ≡ resumes sending → RunsResumption old new log log' wire started s sending s' r → DoesStep old new log log' wire session started s s' r
  -- the cursor before is closed; its killCursors names no session
  closes : (before : ClosingCursor) → s.doing ≡ kills before → started ≡ false → (came : Step ClosingCursor (Unit {0})) → ClosingPolls old new log log' wire before came → HearsClosing s came s' r → DoesStep old new log log' wire session started s s' r
  -- the first batch of a resumption is looked at, and nothing is sent
  renews : s.doing ≡ renewed → (reply : List ℕ) → s.cursor.doing ≡ holds reply → SendsNothing old new log log' → started ≡ false → LooksAt true s (at_rest s.cursor) reply s' r → DoesStep old new log log' wire session started s s' r

-- ---- steps of a call

-- a call ends with this step
abbrev pub IsLast : Stepped → Type 0
IsLast stepped.Goes = ⊥
IsLast stepped.Found = Unit {0}
IsLast (stepped.Gives p) = Unit {0}

-- The last step of a call. `again` says whether it looked at the batch of a resumption.
pub record DoesLast (old new : Awaited) (log log' : LogTold) (wire : ℤ) (session : Option Session) (starts : ℕ) (again : Bool) (s s' : ClientStream) (r : Stepped) : Type 0 where
  pub started : Bool
  pub starts_are : starts ≡ one_if started
  pub does : DoesStep old new log log' wire session started s s' r
  pub again_is : again ≡ is_renewed s.doing
  pub last : IsLast r

-- So many steps, behind each of which the call goes on, and a last one.
unfoldable pub DoesSteps : ℕ → Awaited → Awaited → LogTold → LogTold → ℤ → Option Session → ℕ → Bool → ClientStream → ClientStream → Stepped → Type 0
DoesSteps zero old new log log' wire session starts again s s' r = DoesLast old new log log' wire session starts again s s' r
DoesSteps (suc n) old new log log' wire session starts again s s' r = (between : Awaited) × (log_between : LogTold) × (started : Bool) × (later : ℕ) × (t : ClientStream)
    × DoesStep old between log log_between wire session started s t stepped.Goes × (starts ≡ one_if started + later)
    × DoesSteps n between new log_between log' wire (session_after started session) later again t s' r

-- ---- for private clauses

-- no getMore is left to be built: it is on its way, or a reply is in hand, or none may be sent
abbrev pub NoneToBuild : ClientCursor → Type 0
NoneToBuild c = c.doing ≡ rests → MayAsk c → ⊥

-- the getMore is built where one is to be sent now, and all else stays
pub data Prepares (session : Option Session) (s s' : ClientStream) : Type 0 where
  asks_now : s.cursor.doing ≡ rests → MayAsk s.cursor → (sending : Sending) → IsNew (get_more s.cursor session) sending → s' ≡ with_cursor (asking_by sending s.cursor) s → Prepares session s s'
  not_now : NoneToBuild s.cursor → s' ≡ s → Prepares session s s'

-- an event is next; or the batch that was just taken is empty
pub data FindsIn (s s' : ClientStream) (r : Stepped) : Type 0 where
  next_is : s.behind ≢ [] → s' ≡ record s { doing = follows } → r ≡ stepped.Found → FindsIn s s' r
  is_empty : s.behind ≡ [] → s' ≡ emptied s.cursor s → r ≡ stepped.Gives (try.Ready result.Waiting) → FindsIn s s' r

-- a poll of the closing of the cursor before, and what comes of it
pub record ClosesOne (old new : Awaited) (log log' : LogTold) (wire : ℤ) (before : ClosingCursor) (s s' : ClientStream) (r : Stepped) : Type 0 where
  pub came : Step ClosingCursor (Unit {0})
  pub closes : ClosingPolls old new log log' wire before came
  pub hears : HearsClosing s came s' r
