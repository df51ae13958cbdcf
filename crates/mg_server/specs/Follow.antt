-- What a change stream knows of every legal history in which the log stands (change streams specification).
use Rattle.std.specs.Prelude.{◌≡◌, ◌≢◌, ◌≤◌, ◌⊎◌, ℕ, ℤ, pos, Option, Some, None, List, [], ◌∷◌, length, slice_get}
use Rattle.mg_bson.specs.Tree.{Tree, Fields}
use Rattle.mg_bson.specs.Raw.{fields}
use Rattle.mg_link.specs.Namespace.{Space}
use Rattle.mg_server.specs.State.{State, Watch, Cursor, watching, Start, nowhere, after, at_time, count_before, events_between, IsBatchBetween}
use Rattle.mg_server.specs.Commands.{Batch, batch_of, asks_watch, asks_more, Told, refuses, inserted, opened, gave, killed, garbled, asked, updated, deleted, done}
use Rattle.mg_server.specs.Step.{IsNamed}
use Rattle.mg_server.specs.History.{Step, IsLegal, state_of, told_at, opening, Answers, Reached}
use Rattle.mg_link.specs.Log.{Call, reply}
use Rattle.mg_link.specs.Link as link
use Rattle.mg_server.specs.Standing.{OpensId, TookEffect, Stands}
use Rattle.mg_server.specs.Owner.{Owner, Holds, Passes}
use Rattle.mg_link.specs.Reply.{verdict_of}
use Rattle.mg_link.specs.declared.reply.Verdict.TheVariants as verdict

-- what a stream is doing: the number is the place in the log of the call that it waits for, where the log is told
pub data Doing : Type 0 where
  -- nothing is opened
  unopened : Doing
  starting : (place : Option ℕ) → Doing
  -- nothing is in hand
  resting : Doing
  -- a batch is in hand, or came empty
  holding : Doing
  asking : (place : Option ℕ) → Doing
  -- nothing is known of the cursor: a resumption is owed, or the stream was closed
  owing : Doing
  resuming : (place : Option ℕ) → Doing

pub record Follow : Type 0 where
  pub doing : Doing
  pub watch : Watch
  pub start : Start
  -- the place in the log of the aggregate that opened it, once its reply came
  pub opened : Option ℕ
  -- the id of the cursor, 0 where the server holds none
  pub cursor : ℤ
  -- the id of a cursor that is to be killed, or 0
  pub old : ℤ
  -- the events received and not answered
  pub ahead : List Fields
  -- the token of the batch in hand
  pub upto : Option Tree
  -- the cached token
  pub token : Option Tree
  pub answered : List Fields

-- the call that a stream waits for
abbrev pub waited : Doing → Option ℕ
waited unopened = None
waited (starting place) = place
waited resting = None
waited holding = None
waited (asking place) = place
waited owing = None
waited (resuming place) = place

abbrev pub owner_of : Follow → Owner
owner_of f = record { ids = f.cursor ∷ f.old ∷ []; coming = waited f.doing ∷ [] }

-- ---- tokens

abbrev pub IsTime : Start → Type 0
IsTime nowhere = ⊥
IsTime (after token) = ⊥
IsTime (at_time time) = Unit {0}

-- the token that a watch begins behind
abbrev pub start_token : Start → Option Tree
start_token nowhere = None
start_token (after token) = Some token
start_token (at_time time) = None

-- the token of a new stream: that of its first batch where this is empty and has one, else the one that it begins behind
abbrev pub first_token : Start → List Fields → Option Tree → Option Tree
first_token start [] (Some token) = Some token
first_token start [] None = start_token start
first_token start (e ∷ es) token = start_token start

-- where a resumption begins: behind the token, and without one at the time that the stream began at; a stream that began otherwise has a token
abbrev pub ResumesAt : Start → Option Tree → Start → Type 0
ResumesAt start (Some token) begin = begin ≡ after token
ResumesAt (at_time time) None begin = begin ≡ at_time time
ResumesAt nowhere None begin = Unit {0}
ResumesAt (after token) None begin = Unit {0}

-- a time that has passed says where a watch begins: there is the place still
abbrev pub IsPast : State → Start → ℕ → Type 0
IsPast s nowhere from = ⊥
IsPast s (after token) from = ⊥
IsPast s (at_time time) from = (time ≤ s.now) × (count_before time s.changes ≡ from)

-- the token names the place; where there is none the start was a time, and nothing was answered since
abbrev pub Marks : State → Start → ℕ → Option Tree → List Fields → ℕ → Type 0
Marks s start from (Some token) answered place = s.tokens token ≡ Some place
Marks s start from None answered place = (place ≡ from) × (answered ≡ []) × IsPast s start from

-- The events answered are the view from the opening place up to the place that the token names.
pub record HasReached (s : State) (w : Watch) (start : Start) (token : Option Tree) (answered : List Fields) (from place : ℕ) : Type 0 where
  pub forward : from ≤ place
  pub within : place ≤ length s.changes
  pub marks : Marks s start from token answered place
  pub these : answered ≡ events_between w s.changes from place

-- ---- batches

-- the cursor, where it is open, watches this from this place on
abbrev pub CursorAt : State → Watch → ℤ → ℕ → Type 0
CursorAt s w id place = (c : Cursor) → id ≢ pos 0 → s.cursors id ≡ Some c → c ≡ watching w place

-- the events are the view from the place up to that of the token, where the cursor stands
pub record Brings (s : State) (w : Watch) (place : ℕ) (id : ℤ) (events : List Fields) (token : Option Tree) : Type 0 where
  pub upto : ℕ
  pub forward : place ≤ upto
  pub within : upto ≤ length s.changes
  pub these : IsBatchBetween w s.changes place upto events
  pub named : IsNamed s token upto
  pub stands : CursorAt s w id upto

-- what the reply to an aggregate that opens a watch at this place tells
abbrev pub AfterOpen : State → Watch → ℕ → Told → Type 0
AfterOpen s w from (opened id space events token time) = Brings s w from id events token
AfterOpen s w from (refuses code labels) = Unit {0}
AfterOpen s w from (inserted n failures) = ⊥
AfterOpen s w from (updated n changed failures) = ⊥
AfterOpen s w from (deleted n failures) = ⊥
AfterOpen s w from done = ⊥
AfterOpen s w from (gave id space events token) = ⊥
AfterOpen s w from killed = ⊥
AfterOpen s w from garbled = ⊥

-- what the reply to a getMore of a cursor at this place tells
abbrev pub AfterMore : State → Watch → ℤ → ℕ → Told → Type 0
AfterMore s w id place (gave left space events token) = Brings s w place id events token × ((left ≡ id) ⊎ (left ≡ pos 0))
AfterMore s w id place (refuses code labels) = CursorAt s w id place
AfterMore s w id place (opened other space events token time) = ⊥
AfterMore s w id place (inserted n failures) = ⊥
AfterMore s w id place (updated n changed failures) = ⊥
AfterMore s w id place (deleted n failures) = ⊥
AfterMore s w id place done = ⊥
AfterMore s w id place killed = ⊥
AfterMore s w id place garbled = ⊥

-- how a watch that began so stands at its first batch: with no start there is nothing to bring, and with a time that is to come neither
abbrev pub IsBegun : State → Start → ℕ → List Fields → Type 0
IsBegun s nowhere from events = events ≡ []
IsBegun s (after token) from events = s.tokens token ≡ Some from
IsBegun s (at_time time) from [] = Unit {0}
IsBegun s (at_time time) from (e ∷ es) = IsPast s (at_time time) from

pub record Begins (history : List Step) (w : Watch) (start : Start) (position : ℕ) (id : ℤ) (events : List Fields) (token : Option Tree) : Type 0 where
  pub from : ℕ
  pub begins : opening history position start ≡ Some from
  pub begun : IsBegun (state_of history) start from events
  pub brings : Brings (state_of history) w from id events token

-- what the reply to the aggregate at this position tells, which opens the stream
abbrev pub AfterStart : List Step → Watch → Start → ℕ → Told → Type 0
AfterStart history w start position (opened id space events token time) = Begins history w start position id events token
AfterStart history w start position (refuses code labels) = Unit {0}
AfterStart history w start position (inserted n failures) = ⊥
AfterStart history w start position (updated n changed failures) = ⊥
AfterStart history w start position (deleted n failures) = ⊥
AfterStart history w start position done = ⊥
AfterStart history w start position (gave id space events token) = ⊥
AfterStart history w start position killed = ⊥
AfterStart history w start position garbled = ⊥

-- ---- what a stream knows

-- the call in flight took effect as this step
abbrev pub CameAs : List Call → List Step → Option ℕ → ℕ → Step → Type 0
CameAs calls history place position step = (k : ℕ) × (place ≡ Some k) × TookEffect calls history k position step

-- a getMore of the stream's cursor, and its reply, which was not seen yet
pub record IsAsked (s : State) (f : Follow) (place : ℕ) (step : Step) : Type 0 where
  pub space : Space
  pub asks : asked step.command ≡ asks_more f.cursor space
  pub tells : AfterMore s f.watch f.cursor place (told_at step)

-- an aggregate that opens the stream's watch again, and its reply
pub record IsResumed (s : State) (f : Follow) (place : ℕ) (step : Step) : Type 0 where
  pub start : Start
  pub asks : asked step.command ≡ asks_watch f.watch start
  pub tells : AfterOpen s f.watch place (told_at step)
  pub other : OpensId (told_at step) f.cursor → ⊥

-- what is in hand, by what the stream is doing, where its token names this place
abbrev pub Hand : List Call → List Step → State → Follow → ℕ → Doing → Type 0
Hand calls history s f place unopened = Unit {0}
Hand calls history s f place (starting at) = Unit {0}
Hand calls history s f place resting = CursorAt s f.watch f.cursor place
Hand calls history s f place holding = Brings s f.watch place f.cursor f.ahead f.upto × (f.old ≢ pos 0 → f.old ≢ f.cursor)
Hand calls history s f place (asking at) = (position : ℕ) (step : Step) → CameAs calls history at position step → IsAsked s f place step
Hand calls history s f place owing = Unit {0}
Hand calls history s f place (resuming at) = (position : ℕ) (step : Step) → CameAs calls history at position step → IsResumed s f place step

-- a stream's knowledge of one history, in which the aggregate at this position opened it
pub record Facts (calls : List Call) (history : List Step) (f : Follow) (position : ℕ) : Type 0 where
  pub from : ℕ
  pub begins : opening history position f.start ≡ Some from
  pub place : ℕ
  pub reached : HasReached (state_of history) f.watch f.start f.token f.answered from place
  pub hand : Hand calls history (state_of history) f place f.doing

-- the call of the log that opened the stream: a reply to it came
pub record Opened (calls : List Call) (f : Follow) : Type 0 where
  pub at : ℕ
  pub is : f.opened ≡ Some at
  pub call : Call
  pub bytes : List ℕ
  pub found : slice_get calls at ≡ Some call
  pub watches : asked call.command ≡ asks_watch f.watch f.start
  pub heard : call.seen ≡ reply bytes

pub record KnowsOpen (calls : List Call) (f : Follow) : Type 0 where
  pub opened : Opened calls f
  pub facts : (history : List Step) → IsLegal history → Stands calls history → (position : ℕ) → opened.call.position ≡ Some position → Facts calls history f position

abbrev pub IsOpen : Doing → Type 0
IsOpen unopened = ⊥
IsOpen (starting place) = ⊥
IsOpen resting = Unit {0}
IsOpen holding = Unit {0}
IsOpen (asking place) = Unit {0}
IsOpen owing = Unit {0}
IsOpen (resuming place) = Unit {0}

-- a stream that is not open has nothing
pub record HasNothing (f : Follow) : Type 0 where
  pub none_answered : f.answered ≡ []
  pub no_cursor : f.cursor ≡ pos 0
  pub no_old : f.old ≡ pos 0

pub record KnowsStarting (calls : List Call) (f : Follow) (place : Option ℕ) : Type 0 where
  pub has_nothing : HasNothing f
  pub watches : (k : ℕ) (call : Call) → place ≡ Some k → slice_get calls k ≡ Some call → asked call.command ≡ asks_watch f.watch f.start
  pub coming : (history : List Step) → IsLegal history → Stands calls history → (position : ℕ) (step : Step) → CameAs calls history place position step → AfterStart history f.watch f.start position (told_at step)

abbrev pub KnowsBy : Doing → List Call → Follow → Type 0
KnowsBy unopened calls f = HasNothing f
KnowsBy (starting place) calls f = KnowsStarting calls f place
KnowsBy resting calls f = KnowsOpen calls f
KnowsBy holding calls f = KnowsOpen calls f
KnowsBy (asking place) calls f = KnowsOpen calls f
KnowsBy owing calls f = KnowsOpen calls f
KnowsBy (resuming place) calls f = KnowsOpen calls f

-- what a stream knows of every legal history in which the log stands
pub record Knows (calls : List Call) (f : Follow) : Type 0 where
  pub owned : Holds calls (owner_of f)
  pub by : KnowsBy f.doing calls f

-- ---- moves

pub record MovedIn (calls calls' : List Call) (f f' : Follow) : Type 0 where
  pub knows : Knows calls f → Knows calls' f'
  pub passes : Knows calls f → Passes calls calls' (owner_of f) (owner_of f')

-- A stream went from one log and standing to another: it goes on knowing, and each other caller is left alone.
abbrev pub Moved : link.LogTold → link.LogTold → Follow → Follow → Type 0
Moved log log' f f' = (calls : List Call) → log ≡ Some calls → (calls' : List Call) × (log' ≡ Some calls') × MovedIn calls calls' f f'

-- the reply is a success with this batch
pub record Reads (bytes : List ℕ) (batch : Batch) : Type 0 where
  pub success : verdict_of (fields bytes) ≡ verdict.Success
  pub batch_is : batch_of (fields bytes) ≡ Some batch

-- the reply tells of no batch
abbrev pub HasNoBatch : Told → Type 0
HasNoBatch (refuses code labels) = Unit {0}
HasNoBatch garbled = Unit {0}
HasNoBatch (opened id space events token time) = ⊥
HasNoBatch (gave id space events token) = ⊥
HasNoBatch (inserted n failures) = ⊥
HasNoBatch (updated n changed failures) = ⊥
HasNoBatch (deleted n failures) = ⊥
HasNoBatch done = ⊥
HasNoBatch killed = ⊥

-- ---- what this comes to

-- the token names the place reached; where there is none the start was a time, and nothing was answered
abbrev pub ReachedBy : State → Watch → Start → ℕ → List Fields → Option Tree → Type 0
ReachedBy s w start from events (Some token) = Reached s w from events token
ReachedBy s w start from events None = (events ≡ []) × IsTime start

-- what a stream answered, in a history in which the log stands: the call opened it at this position and place
pub record FollowsIn (history : List Step) (f : Follow) (call : Call) : Type 0 where
  pub position : ℕ
  pub placed : call.position ≡ Some position
  pub from : ℕ
  pub begins : opening history position f.start ≡ Some from
  pub answers : Answers (state_of history) f.watch from f.answered
  pub reached : ReachedBy (state_of history) f.watch f.start from f.answered f.token

-- In every legal history in which the log stands, the events are the first of the view from the opening place on, and just those up to the place of the token.
pub record FollowsOn (calls : List Call) (f : Follow) : Type 0 where
  pub opened : Opened calls f
  pub each : (history : List Step) → IsLegal history → Stands calls history → FollowsIn history f opened.call

-- ---- the tokens behind answers

-- behind the last event of a batch: that of the batch, else that of the event
abbrev pub last_token : Option Tree → Tree → Option Tree
last_token (Some token) own = Some token
last_token None own = Some own

-- behind a batch that came empty: that of the batch, else the one before
abbrev pub empty_token : Option Tree → Option Tree → Option Tree
empty_token (Some token) before = Some token
empty_token None before = before
