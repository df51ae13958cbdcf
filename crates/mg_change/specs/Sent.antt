-- What a stream sends in one call.
use Rattle.std.specs.Prelude.{◌≡◌, ◌≢◌, ◌<◌, ◌≤◌, ◌++◌, ℕ, zero, suc, ℤ, pos, Bool, List, [], ◌∷◌, length, Option, Some, None}
use Rattle.mg_bson.specs.Tree.{Fields}
use Rattle.mg_server.specs.Calls.{Past, past_of}
use Rattle.mg_link.specs.Exec.{Sending, Stage, first, second, unsent}
use Rattle.mg_link.specs.Link.{Awaited, LogTold}
use Rattle.mg_link.specs.Log.{Call}
use Rattle.mg_link.specs.Moment.{Ending, failed, finished, pending}
use Rattle.mg_link.specs.Namespace.{Space}
use Rattle.mg_server.specs.Owner.{Onward, nobody}
use Rattle.mg_link.specs.Session.{Session}
use Rattle.mg_ops.specs.Commands.{kill_command}
use Rattle.mg_ops.specs.Logs.{commands_sent}
use Rattle.mg_ops.specs.declared.aggregate.ChangeStreamAggregate.{ChangeStreamAggregate}
use Rattle.mg_ops.specs.declared.change_stream.WatchArgs.{WatchArgs}
use Rattle.mg_cursor.specs.Client.{ClientCursor, asks, get_more, holds, kill, rests}
use Rattle.mg_cursor.specs.Client as cursors
use Rattle.mg_cursor.specs.declared.polls.TryPoll.{TryPoll}
use Rattle.mg_change.specs.Causes.{Resumed, SoFar, is_lone}
use Rattle.mg_change.specs.ClientStreams.{ClientStream, Doing, follows, kills, owes, renewed, resumes, resuming_in}
use Rattle.mg_change.specs.SeekCauses.{CallPart, Row, part_past}
use Rattle.mg_change.specs.StreamCalls.{event_ending, try_ending}
use Rattle.mg_change.specs.declared.event_poll.EventPoll.{EventPoll}

-- these commands, and no others, were added to a log that is told, and what it had seen it has seen still
abbrev pub Sent : LogTold → LogTold → List Fields → Type 0
Sent log log' commands = (calls : List Call) → log ≡ Some calls → (calls' : List Call) × (log' ≡ Some calls') × (commands_sent calls' ≡ commands_sent calls ++ commands) × Onward calls calls' nobody

-- the getMore of the cursor
pub record AsksMoreOf (c : ClientCursor) (command : Fields) : Type 0 where
  pub session : Option Session
  pub asks_so : command ≡ get_more c session

-- the aggregate that resumes a stream
pub record ResumesBy (a : ChangeStreamAggregate) (command : Fields) : Type 0 where
  pub wire : ℤ
  pub session : Option Session
  pub resumes_so : command ≡ resuming_in a wire session

-- the killing of one cursor
pub record KillsOne (command : Fields) : Type 0 where
  pub at : Space
  pub id : ℤ
  pub there : id ≢ pos 0
  pub kills_so : command ≡ kill_command at (id ∷ [])

-- the killing of the cursor that a resumption of the call replaced, whose aggregate the call sent before
pub record KillsReplaced (past : Past) (lone : Bool) (at : ClientStream) (command : Fields) : Type 0 where
  pub old : ClientCursor
  pub there : old.id ≢ pos 0
  pub kills_so : command ≡ kill old
  pub new : ClientCursor
  pub bytes : List ℕ
  pub resumed : Resumed past lone at old bytes new

-- The places of the commands of one call, counted down: the getMore, the aggregate, the aggregate once more, the killing, which is such a one.
abbrev pub IsSentAt : (Fields → Type 0) → ClientStream → ℕ → Fields → Type 0
IsSentAt may s zero command = may command
IsSentAt may s (suc zero) command = ResumesBy s.aggregate command
IsSentAt may s (suc (suc zero)) command = ResumesBy s.aggregate command
IsSentAt may s (suc (suc (suc zero))) command = AsksMoreOf s.cursor command
IsSentAt may s (suc (suc (suc (suc place)))) command = ⊥

-- the commands stand at places that fall, all below `n` and none below `m`
abbrev pub Falling : (ℕ → Fields → Type 0) → ℕ → List Fields → ℕ → Type 0
Falling at n [] m = m ≤ n
Falling at n (command ∷ commands) m = (place : ℕ) × (place < n) × at place command × Falling at place commands m

-- how many places are left to a request, by how far it has come
abbrev pub asking_places : Stage → ℕ
asking_places unsent = 4
asking_places (first ticket) = 3
asking_places (second ticket) = 3

abbrev pub resuming_places : Stage → ℕ
resuming_places unsent = 3
resuming_places (first ticket) = 2
resuming_places (second ticket) = 1

-- to an opening, whose last place is 1
abbrev pub opening_places : Option Sending → ℕ
opening_places None = 3
opening_places (Some sending) = resuming_places sending.stage

abbrev pub ending_places : Stage → ℕ
ending_places unsent = 1
ending_places (first ticket) = 0
ending_places (second ticket) = 0

abbrev pub killing_places : Option Sending → ℕ
killing_places None = 1
killing_places (Some sending) = ending_places sending.stage

abbrev pub more_places : cursors.Doing → ℕ
more_places rests = 4
more_places (holds reply) = 3
more_places (asks sending) = asking_places sending.stage

-- how many places are left to a call, by what is on its way
abbrev pub places_by : Doing → ClientCursor → ℕ
places_by follows c = more_places c.doing
places_by owes c = 3
places_by (resumes sending) c = resuming_places sending.stage
places_by (kills before) c = killing_places before.killing
places_by renewed c = 0

abbrev pub places : ClientStream → ℕ
places s = places_by s.doing s.cursor

-- a call that has ended sends nothing more
abbrev pub places_behind : Ending → ClientStream → ℕ
places_behind pending s = places s
places_behind finished s = 0
places_behind (failed e) s = 0

-- what is sent later in the call is told by the same stream
abbrev pub KeepsBy : Ending → ClientStream → ClientStream → Type 0
KeepsBy pending s s' = s'.aggregate ≡ s.aggregate
KeepsBy finished s s' = Unit {0}
KeepsBy (failed e) s s' = Unit {0}

-- What a poll may kill: one cursor, and it is the one that the resumption of its call replaced, wherever that call began and had sent before.
pub record PollKills (old : Awaited) (log log' : LogTold) (wire : ℤ) (lone : Bool) (s : ClientStream) (command : Fields) : Type 0 where
  pub one : KillsOne command
  pub replaced : (calls calls' : List Call) → log ≡ Some calls → log' ≡ Some calls' → (own : List ℕ) (at : ClientStream) → SoFar old (past_of own (length calls) calls wire) lone at s → KillsReplaced (past_of own (length calls) calls' wire) lone at command

-- What a poll sent: commands at places that were left, and above those that are left behind it.
pub record PollSent (old : Awaited) (log log' : LogTold) (wire : ℤ) (session : Option Session) (s s' : ClientStream) (ending : Ending) : Type 0 where
  pub commands : List Fields
  pub adds : Sent log log' commands
  pub falling : Falling (IsSentAt (PollKills old log log' wire (is_lone session) s) s) (places s) commands (places_behind ending s')
  pub keeps : KeepsBy ending s s'

abbrev pub CallSent : Awaited → LogTold → LogTold → ℤ → Option Session → ClientStream → ClientStream → EventPoll → Type 0
CallSent old log log' wire session s s' r = PollSent old log log' wire session s s' (event_ending r)

abbrev pub TrySent : Awaited → LogTold → LogTold → ℤ → Option Session → ClientStream → ClientStream → TryPoll → Type 0
TrySent old log log' wire session s s' r = PollSent old log log' wire session s s' (try_ending r)

-- ---- a call that seeks an event

-- its commands: the getMore of a cursor, the aggregate that resumes the stream, or a killing, which is such a one
pub data IsSought (may : Fields → Type 0) (args : WatchArgs) (command : Fields) : Type 0 where
  asks_more : (c : ClientCursor) → AsksMoreOf c command → IsSought may args command
  resumes_it : (a : ChangeStreamAggregate) → a.args ≡ args → ResumesBy a command → IsSought may args command
  kills_one : may command → IsSought may args command

abbrev pub AreSought : (Fields → Type 0) → WatchArgs → List Fields → Type 0
AreSought may args [] = Unit {0}
AreSought may args (command ∷ commands) = IsSought may args command × AreSought may args commands

-- the killing of the cursor that a resumption in a part of the call replaced
pub record PartReplaced (calls : List Call) (wire : ℤ) (lone : Bool) (start : CallPart) (command : Fields) : Type 0 where
  pub part : CallPart
  pub row : Row calls wire lone start part
  pub kills_so : KillsReplaced (part_past part calls wire) lone part.at command

-- What a poll may kill: one cursor, and it is the one that a resumption of its call replaced, wherever the part began that it led on.
pub record SeekKills (old : Awaited) (log log' : LogTold) (wire : ℤ) (lone : Bool) (s : ClientStream) (command : Fields) : Type 0 where
  pub one : KillsOne command
  pub replaced : (calls calls' : List Call) → log ≡ Some calls → log' ≡ Some calls' → (own : List ℕ) (at : ClientStream) → SoFar old (past_of own (length calls) calls wire) lone at s
      → PartReplaced calls' wire lone (record { at = at; counts = s.counts; places = own; since = length calls }) command

-- it sent such commands only
pub record SeekSent (old : Awaited) (log log' : LogTold) (wire : ℤ) (session : Option Session) (s : ClientStream) : Type 0 where
  pub commands : List Fields
  pub adds : Sent log log' commands
  pub sought : AreSought (SeekKills old log log' wire (is_lone session) s) s.aggregate.args commands
