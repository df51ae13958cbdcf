-- A change stream as its client keeps it (change streams specification).
use Rattle.std.specs.Prelude.{◌≡◌, ◌≢◌, ◌⊎◌, ◌||◌, ℕ, ℤ, pos, Bool, true, false, List, [], ◌∷◌, Option, Some, None, codes, is_some, option_map}
use Rattle.mg_bson.specs.Bytes.{bytes}
use Rattle.mg_bson.specs.Find.{get}
use Rattle.mg_bson.specs.Raw.{fields}
use Rattle.mg_bson.specs.Tree.{Tree, Fields}
use Rattle.mg_bson.specs.declared.tree.Timestamp.{Timestamp}
use Rattle.mg_server.specs.Commands.{filter_stages}
use Rattle.mg_link.specs.Exec.{Sending, Stage, unsent, first, second, ticket_of}
use Rattle.mg_exec.specs.ExecView.{reads}
use Rattle.mg_link.specs.Namespace.{target}
use Rattle.mg_link.specs.Session.{Session}
use Rattle.mg_server.specs.State.{Start, Watch}
use Rattle.mg_link.specs.declared.pinned.PinnedConnection.TheVariants as connection
use Rattle.mg_options.specs.Fields.{fields_in}
use Rattle.mg_options.specs.declared.change_stream.ChangeStreamOptions.{ChangeStreamOptions}
use Rattle.mg_ops.specs.Aims.{aim}
use Rattle.mg_ops.specs.Bodies.{watch_body}
use Rattle.mg_ops.specs.Naming.{IsNamed, start_in}
use Rattle.mg_ops.specs.Resuming.{has_start, options_for}
use Rattle.mg_ops.specs.Sessions.{read_retry}
use Rattle.mg_ops.specs.declared.aggregate.ChangeStreamAggregate.{ChangeStreamAggregate}
use Rattle.mg_ops.specs.declared.change_stream.ChangeStreamData.{ChangeStreamData}
use Rattle.mg_ops.specs.declared.change_stream.WatchArgs.{WatchArgs}
use Rattle.mg_ops.specs.declared.cursor_reply.CursorSpecification.{CursorSpecification}
use Rattle.mg_cursor.specs.Client.{ClientCursor, PlainIf, asks, client_ticket, holds, new_client, rests}
use Rattle.mg_cursor.specs.Client as cursors
use Rattle.mg_cursor.specs.Closing.{ClosingCursor, IsClosing, IsLanded, IsNotAsking, closing_ticket}
use Rattle.mg_change.specs.declared.counts.Counts.{Counts}

-- what is on its way, or owed, besides what its cursor asks for
pub data Doing : Type 0 where
  -- it goes on with its cursor
  follows : Doing
  -- a resumption is owed, and its aggregate was not sent
  owes : Doing
  -- the aggregate of a resumption
  resumes : (sending : Sending) → Doing
  -- the closing of the cursor that a resumption replaced
  kills : (old : ClosingCursor) → Doing
  -- nothing: the first batch of a resumption is in hand, and was not looked at
  renewed : Doing

pub record ClientStream : Type 0 where
  -- the aggregate that resumes it: what is watched, and what it resumes by, its token among that
  pub aggregate : ChangeStreamAggregate
  -- its cursor, with what it asks for, and the token behind its newest batch
  pub cursor : ClientCursor
  -- the event that the last call gave, as its bytes; none where it gave none
  pub current : Option (List ℕ)
  -- the events received, looked at and not yet given
  pub behind : List (List ℕ)
  -- what a call that seeks an event got in vain, while it goes on
  pub counts : Counts
  pub doing : Doing

-- ---- what it tells

-- the token behind the last event that was given, or behind a batch that came empty
abbrev pub token_known : Option ChangeStreamData → Option Tree
token_known None = None
token_known (Some known) = known.resume_token

abbrev pub stream_token : ClientStream → Option Tree
stream_token s = token_known s.aggregate.resume

-- a resumption is owed, or on its way
abbrev pub IsOwed : Doing → Type 0
IsOwed follows = ⊥
IsOwed owes = Unit {0}
IsOwed (resumes sending) = Unit {0}
IsOwed (kills old) = ⊥
IsOwed renewed = ⊥

-- the server may have more: it holds the cursor, or a resumption is owed
abbrev pub IsAlive : ClientStream → Type 0
IsAlive s = (s.cursor.id ≢ pos 0) ⊎ IsOwed s.doing

-- the ticket that is held
abbrev pub ticket_by : ClientCursor → Doing → Option ℕ
ticket_by c follows = client_ticket c
ticket_by c owes = None
ticket_by c (resumes sending) = ticket_of sending
ticket_by c (kills old) = closing_ticket old
ticket_by c renewed = None

abbrev pub stream_ticket : ClientStream → Option ℕ
stream_ticket s = ticket_by s.cursor s.doing

-- the first batch of a resumption is looked at next
abbrev pub is_renewed : Doing → Bool
is_renewed follows = false
is_renewed owes = false
is_renewed (resumes sending) = false
is_renewed (kills old) = false
is_renewed renewed = true

-- ---- its aggregate

-- the aggregate that resumes it at a wire version, in a session where there is one; of an aggregate that remembers nothing it is the one that opens the watch
abbrev pub resuming_in : ChangeStreamAggregate → ℤ → Option Session → Fields
resuming_in a wire session = fields_in (watch_body (target a.args.target) a.args.pipeline.items (options_for a.args.options a.resume wire) session)

-- whether it is sent once more
abbrev pub is_read_again : Option Session → Bool
is_read_again session = reads (read_retry session)

-- an aggregate that was not sent yet
pub record IsNewAggregate (command : Fields) (session : Option Session) (sending : Sending) : Type 0 where
  pub bytes_are : sending.command ≡ bytes command
  pub command_is : fields sending.command ≡ command
  pub retries_is : sending.retries ≡ is_read_again session
  pub new : sending.stage ≡ unsent

-- it was sent, and waits
abbrev pub IsOnItsWay : Stage → Type 0
IsOnItsWay unsent = ⊥
IsOnItsWay (first ticket) = Unit {0}
IsOnItsWay (second ticket) = Unit {0}

-- an aggregate on its way, which was built at some wire version
pub record IsAggregate (plain : Bool) (a : ChangeStreamAggregate) (sending : Sending) : Type 0 where
  pub wire : ℤ
  pub session : Option Session
  pub plainly : PlainIf plain session
  pub command_is : fields sending.command ≡ resuming_in a wire session
  pub retries_is : sending.retries ≡ is_read_again session
  pub waits : IsOnItsWay sending.stage

-- the arguments ask for this watch, from this start on
pub record Asks (a : WatchArgs) (w : Watch) (start : Start) : Type 0 where
  pub aimed : aim a.options (target a.target) ≡ Some w.target
  pub by : filter_stages a.pipeline.items ≡ Some w.filter
  pub from : start_in a.options ≡ Some start

-- ---- what each stream keeps

-- a time is saved only by an opening without a start
abbrev pub SavedFor : ChangeStreamOptions → Option Timestamp → Type 0
SavedFor o None = Unit {0}
SavedFor o (Some time) = has_start o ≡ false

-- there is what it resumes by
abbrev pub IsSaved : ChangeStreamOptions → Option ChangeStreamData → Type 0
IsSaved o None = ⊥
IsSaved o (Some known) = SavedFor o known.initial_operation_time

-- a reply is in hand whose batch was not looked at
abbrev pub IsHolding : cursors.Doing → Type 0
IsHolding rests = ⊥
IsHolding (holds reply) = Unit {0}
IsHolding (asks sending) = ⊥

-- a reply in hand, and a getMore, come only once everything received before is given
abbrev pub FollowsBy : cursors.Doing → List (List ℕ) → Type 0
FollowsBy rests behind = Unit {0}
FollowsBy (holds reply) behind = behind ≡ []
FollowsBy (asks sending) behind = behind ≡ []

-- while anything else is on its way or owed, no getMore is, and nothing received is left
pub record Aside (s : ClientStream) : Type 0 where
  pub quiet : IsNotAsking s.cursor.doing
  pub none_left : s.behind ≡ []

abbrev pub SoundBy : Bool → ClientStream → Doing → Type 0
SoundBy plain s follows = FollowsBy s.cursor.doing s.behind
SoundBy plain s owes = Aside s
SoundBy plain s (resumes sending) = Aside s × IsAggregate plain s.aggregate sending
SoundBy plain s (kills old) = Aside s × IsHolding s.cursor.doing × IsClosing old × IsLanded old
SoundBy plain s renewed = Aside s × IsHolding s.cursor.doing

-- what is on its way is its own: the getMore of its cursor, the aggregate that resumes it, or the closing of the cursor before
pub record IsSound (plain : Bool) (s : ClientStream) : Type 0 where
  pub saved : IsSaved s.aggregate.args.options s.aggregate.resume
  pub named : IsNamed s.cursor.space
  -- a stream is bound to no connection
  pub unbound : s.cursor.pinned ≡ connection.Unpinned
  pub asks_its_own : cursors.IsSound plain s.cursor
  pub by : SoundBy plain s s.doing

-- ---- between two calls

-- nothing is on its way, no batch waits to be looked at but that of the opening, and no counts are left
abbrev pub IsIdle : Doing → Type 0
IsIdle follows = Unit {0}
IsIdle owes = Unit {0}
IsIdle (resumes sending) = ⊥
IsIdle (kills old) = ⊥
IsIdle renewed = ⊥

abbrev pub no_counts : Counts
no_counts = record { empty = 0; resumptions = 0 }

pub record IsBetween (s : ClientStream) : Type 0 where
  pub idle : IsIdle s.doing
  pub quiet : IsNotAsking s.cursor.doing
  pub counts_are : s.counts ≡ no_counts

-- nothing is owed, in hand or on its way
pub record IsSpent (s : ClientStream) : Type 0 where
  pub follows_on : s.doing ≡ follows
  pub rests_so : s.cursor.doing ≡ rests
  pub none_left : s.behind ≡ []

-- nor does the server hold the cursor
pub record IsExhausted (s : ClientStream) : Type 0 where
  pub spent : IsSpent s
  pub over : s.cursor.id ≡ pos 0

-- ---- where it is behind what it heard

abbrev pub lends_nothing : ClientStream → ClientStream
lends_nothing s = record s { current = None }

-- with this cursor
abbrev pub with_cursor : ClientCursor → ClientStream → ClientStream
with_cursor c s = record s { cursor = c }

-- with this cursor, and owing a resumption: nothing received is left
abbrev pub owing_with : ClientCursor → ClientStream → ClientStream
owing_with c s = record s { cursor = c; behind = []; doing = owes }

-- a batch in hand, of this cursor
abbrev pub holding_with : ClientCursor → List (List ℕ) → ClientStream → ClientStream
holding_with c events s = record s { cursor = c; behind = events; doing = follows }

-- ---- its token

abbrev pub remembered : Tree → Bool → ChangeStreamData → ChangeStreamData
remembered token returned known = record known { resume_token = Some token; document_returned = known.document_returned || returned }

abbrev pub remembered_by : Tree → Bool → ChangeStreamAggregate → ChangeStreamAggregate
remembered_by token returned a = record a { resume = option_map (remembered token returned) a.resume }

-- behind an empty batch: that of the batch, where there is one
abbrev pub remembered_empty : Option Tree → ChangeStreamAggregate → ChangeStreamAggregate
remembered_empty None a = a
remembered_empty (Some token) a = remembered_by token false a

-- behind an event: that of the batch behind its last one, else its own
abbrev pub token_behind : List (List ℕ) → Option Tree → Tree → Tree
token_behind [] (Some token) id = token
token_behind [] None id = id
token_behind (e ∷ es) upto id = id

-- the token of an event
abbrev pub id_in : List ℕ → Option Tree
id_in event = get (codes "_id") (fields event)

-- behind an event that was given
abbrev pub behind_event : List ℕ → List (List ℕ) → Tree → ClientStream → ClientStream
behind_event event events id s = record s { aggregate = remembered_by (token_behind events s.cursor.token id) true s.aggregate; current = Some event; behind = events }

-- behind an event without a token, which counts as given
abbrev pub passed_over : List (List ℕ) → ClientStream → ClientStream
passed_over events s = record s { behind = events }

-- whether an event is next that has a token
abbrev pub next_has : List (List ℕ) → Bool
next_has [] = false
next_has (event ∷ events) = is_some (id_in event)

-- ---- a new stream

-- of this aggregate, with the first batch of its cursor in hand
abbrev pub new_stream : ChangeStreamAggregate → CursorSpecification → ClientStream
new_stream a out = record { aggregate = a; cursor = new_client out; current = None; behind = []; counts = no_counts; doing = follows }
