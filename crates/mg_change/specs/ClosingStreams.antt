-- The closing of a change stream (change streams specification: drivers kill the cursors that the server holds still).
use Rattle.std.specs.Prelude.{◌≡◌, ◌≢◌, ◌⊎◌, ◌++◌, ℕ, ℤ, pos, Bool, false, List, [], ◌∷◌, Option, None, Ok, if◌then◌else◌}
use Rattle.std.specs.Ordering.{int_eq}
use Rattle.mg_bson.specs.Raw.{fields}
use Rattle.mg_bson.specs.Tree.{Tree, Fields}
use Rattle.mg_link.specs.Exec.{Runs, Sending, ticket_of, IsFirstTry}
use Rattle.mg_link.specs.Link.{Awaited, SendsNothing, LogTold}
use Rattle.mg_link.specs.Session.{Session}
use Rattle.mg_server.specs.State.{Start, Watch}
use Rattle.mg_link.specs.declared.action.Step.{Step}
use Rattle.mg_link.specs.declared.action.Step.TheVariants as step
use Rattle.mg_link.specs.declared.error.Error.{Error}
use Rattle.mg_link.specs.declared.error.ErrorKind.TheVariants as kind
use Rattle.mg_ops.specs.Commands.{kill_command}
use Rattle.mg_ops.specs.Cursors.{BreaksIn, Cursor, cursor_of}
use Rattle.mg_ops.specs.Failing.{CannotBeSent, FailsBy}
use Rattle.mg_ops.specs.Naming.{IsNamed}
use Rattle.mg_ops.specs.declared.aggregate.ChangeStreamAggregate.{ChangeStreamAggregate}
use Rattle.mg_cursor.specs.Client.{ClientCursor, IsNew, WaitsFor, asks, at_rest, client_ticket}
use Rattle.mg_cursor.specs.Client as cursors
use Rattle.mg_cursor.specs.Closing.{ClosingCursor, ClosingPolls, IsClosing, IsLanded, IsNotAsking, closing_ticket}
use Rattle.mg_cursor.specs.Polling.{Hears}
use Rattle.mg_cursor.specs.declared.polls.NextPoll.{NextPoll}
use Rattle.mg_cursor.specs.declared.polls.NextPoll.TheVariants as next
use Rattle.mg_change.specs.ClientStreams.{Asks, ClientStream, Doing, IsSaved, follows, kills, owes, renewed, resumes, resuming_in, stream_token, token_known}

-- what is on its way besides a getMore of the cursor
pub data Landing : Type 0 where
  -- nothing: a getMore of the cursor ends first, where there is one
  lands : Landing
  -- the aggregate of a resumption, whose cursor is to be killed too
  lands_aggregate : (sending : Sending) → Landing
  -- the closing of the cursor that a resumption replaced
  lands_replaced : (old : ClosingCursor) → Landing
  -- the killCursors of this closing
  ends : (sending : Sending) → Landing

pub record ClosingStream : Type 0 where
  -- the token behind the last event that the stream gave, and whether it lies in an event that was lent, of which it is copied as it is handed over
  pub token : Option Tree
  pub lent : Bool
  -- its cursor, and the id of one that a resumption on its way opened, or 0
  pub cursor : ClientCursor
  pub opened : ℤ
  pub doing : Landing

-- ---- a new closing

abbrev pub landing_of : Doing → Landing
landing_of follows = lands
landing_of owes = lands
landing_of (resumes sending) = lands_aggregate sending
landing_of (kills old) = lands_replaced old
landing_of renewed = lands

-- before anything of the closing is sent
abbrev pub closed_stream : Bool → ClientStream → ClosingStream
closed_stream lent s = record { token = stream_token s; lent = lent; cursor = s.cursor; opened = pos 0; doing = landing_of s.doing }

-- once the token was handed over, which goes with the cursor's where it is that of its newest batch
abbrev pub handed_over : Option Tree → ClosingStream → ClosingStream
handed_over left k = record k { token = None; lent = false; cursor = record k.cursor { token = left } }

-- ---- what it tells

abbrev pub landing_ticket : ClientCursor → Landing → Option ℕ
landing_ticket c lands = client_ticket c
landing_ticket c (lands_aggregate sending) = ticket_of sending
landing_ticket c (lands_replaced old) = closing_ticket old
landing_ticket c (ends sending) = ticket_of sending

abbrev pub stream_closing_ticket : ClosingStream → Option ℕ
stream_closing_ticket k = landing_ticket k.cursor k.doing

-- ---- what is left

-- the id, unless it is 0
abbrev pub unless_none : ℤ → List ℤ
unless_none id = if int_eq id (pos 0) then [] else id ∷ []

-- the cursors that are left to be killed
abbrev pub ids_left : ClosingStream → List ℤ
ids_left k = unless_none k.cursor.id ++ unless_none k.opened

-- kills them in one command, without a session
abbrev pub kill_left : ClosingStream → Fields
kill_left k = kill_command k.cursor.space (ids_left k)

-- ---- what each closing keeps

-- nothing is on its way but a getMore of its cursor, and no other one was opened
pub record IsLanding (k : ClosingStream) : Type 0 where
  pub asks_its_own : cursors.IsSound false k.cursor
  pub named : IsNamed k.cursor.space
  pub alone : k.opened ≡ pos 0

abbrev pub LandsSoundly : ClosingStream → Landing → Type 0
LandsSoundly k lands = IsLanding k
LandsSoundly k (lands_aggregate sending) = IsNotAsking k.cursor.doing
LandsSoundly k (lands_replaced old) = IsNotAsking k.cursor.doing × IsClosing old × IsLanded old × (k.opened ≡ pos 0)
LandsSoundly k (ends sending) = IsNotAsking k.cursor.doing × WaitsFor (kill_left k) sending × (ids_left k ≢ [])

-- what is on its way is what it lands on, or its killCursors
abbrev pub IsSoundClosing : ClosingStream → Type 0
IsSoundClosing k = LandsSoundly k k.doing

-- ---- the killing

-- what comes of a poll of the killCursors
abbrev pub HearsKill : ClosingStream → Step Sending (List ℕ) → Step ClosingStream (Unit {0}) → Type 0
HearsKill k (step.Pending sending) r = r ≡ step.Pending (record k { doing = ends sending })
HearsKill k (step.Done bytes) r = r ≡ step.Done tt
HearsKill k (step.Failed e) r = r ≡ step.Failed e

pub record RunsKill (old new : Awaited) (log log' : LogTold) (wire : ℤ) (k : ClosingStream) (sending : Sending) (r : Step ClosingStream (Unit {0})) : Type 0 where
  pub came : Step Sending (List ℕ)
  pub runs : Runs old new log log' wire sending came
  pub hears : HearsKill k came r

-- What a closing does once nothing else is on its way.
pub data KillsLeft (old new : Awaited) (log log' : LogTold) (wire : ℤ) (k : ClosingStream) (r : Step ClosingStream (Unit {0})) : Type 0 where
  -- the server holds no cursor, and nothing is sent
  nothing_left : ids_left k ≡ [] → SendsNothing old new log log' → r ≡ step.Done tt → KillsLeft old new log log' wire k r
  -- the killCursors is not built, and nothing is sent
  not_built : ids_left k ≢ [] → (e : Error) → FailsBy (CannotBeSent (kill_left k)) e → SendsNothing old new log log' → r ≡ step.Failed e → KillsLeft old new log log' wire k r
  -- one killCursors is sent, of all that is left
  kills_all : ids_left k ≢ [] → (sending : Sending) → IsNew (kill_left k) sending → RunsKill old new log log' wire k sending r → KillsLeft old new log log' wire k r

-- ---- what was on its way

-- behind its failure: only want of memory is answered, and then nothing more is sent
abbrev pub PassesOver : Awaited → Awaited → LogTold → LogTold → ℤ → ClosingStream → Error → Step ClosingStream (Unit {0}) → Type 0
PassesOver old new log log' wire k e r =
    ((e.kind ≡ kind.OutOfMemory) × SendsNothing old new log log' × (r ≡ step.Failed e))
    ⊎ ((e.kind ≢ kind.OutOfMemory) × KillsLeft old new log log' wire k r)

-- behind the getMore, by what it came to, which left the cursor so
abbrev pub BehindMore : Awaited → Awaited → LogTold → LogTold → ℤ → ClosingStream → NextPoll → Step ClosingStream (Unit {0}) → Type 0
BehindMore old new log log' wire k next.Pending r = SendsNothing old new log log' × (r ≡ step.Pending k)
BehindMore old new log log' wire k (next.Batch bytes) r = KillsLeft old new log log' wire k r
BehindMore old new log log' wire k next.End r = ⊥
BehindMore old new log log' wire k (next.Failed e) r = PassesOver old new log log' wire k e r

-- behind a reply to the aggregate: with the cursor that it opened; or it breaks the grammar of a cursor, or memory ran out as it was read
pub data BehindOpening (old new : Awaited) (log log' : LogTold) (wire : ℤ) (k : ClosingStream) (reply : List ℕ) (r : Step ClosingStream (Unit {0})) : Type 0 where
  opened_one : (said : Cursor) → cursor_of (fields reply) ≡ Ok said → KillsLeft old new log log' wire (record k { opened = said.id; doing = lands }) r → BehindOpening old new log log' wire k reply r
  opened_none : (e : Error) → FailsBy (BreaksIn (fields reply)) e → PassesOver old new log log' wire (record k { doing = lands }) e r → BehindOpening old new log log' wire k reply r

abbrev pub BehindAggregate : Awaited → Awaited → LogTold → LogTold → ℤ → ClosingStream → Step Sending (List ℕ) → Step ClosingStream (Unit {0}) → Type 0
BehindAggregate old new log log' wire k (step.Pending sending) r = SendsNothing old new log log' × (r ≡ step.Pending (record k { doing = lands_aggregate sending }))
BehindAggregate old new log log' wire k (step.Done reply) r = BehindOpening old new log log' wire k reply r
BehindAggregate old new log log' wire k (step.Failed e) r = PassesOver old new log log' wire (record k { doing = lands }) e r

abbrev pub BehindReplaced : Awaited → Awaited → LogTold → LogTold → ℤ → ClosingStream → Step ClosingCursor (Unit {0}) → Step ClosingStream (Unit {0}) → Type 0
BehindReplaced old new log log' wire k (step.Pending before) r = SendsNothing old new log log' × (r ≡ step.Pending (record k { doing = lands_replaced before }))
BehindReplaced old new log log' wire k (step.Done t) r = KillsLeft old new log log' wire (record k { doing = lands }) r
BehindReplaced old new log log' wire k (step.Failed e) r = PassesOver old new log log' wire (record k { doing = lands }) e r

-- ---- a poll

-- the link between what was on its way and what comes behind it
pub record Between : Type 0 where
  pub awaited : Awaited
  pub log : LogTold

-- What a poll of a closing does, by what is on its way as it begins.
pub data ClosesStream (old new : Awaited) (log log' : LogTold) (wire : ℤ) (k : ClosingStream) (r : Step ClosingStream (Unit {0})) : Type 0 where
  -- nothing: a reply in hand is let go
  begins : k.doing ≡ lands → IsNotAsking k.cursor.doing → KillsLeft old new log log' wire (record k { cursor = at_rest k.cursor }) r → ClosesStream old new log log' wire k r
  -- the getMore of its cursor
  lands_more : k.doing ≡ lands → (sending : Sending) → k.cursor.doing ≡ asks sending → (b : Between) (came : Step Sending (List ℕ)) (left : ClientCursor) (poll : NextPoll) → Runs old b.awaited log b.log wire sending came → Hears k.cursor came left poll
      → BehindMore b.awaited new b.log log' wire (record k { cursor = left }) poll r → ClosesStream old new log log' wire k r
  -- the aggregate of a resumption
  lands_opening : (sending : Sending) → k.doing ≡ lands_aggregate sending → (b : Between) (came : Step Sending (List ℕ)) → Runs old b.awaited log b.log wire sending came → BehindAggregate b.awaited new b.log log' wire k came r → ClosesStream old new log log' wire k r
  -- the closing of the cursor before
  lands_closing : (before : ClosingCursor) → k.doing ≡ lands_replaced before → (b : Between) (came : Step ClosingCursor (Unit {0})) → ClosingPolls old b.awaited log b.log wire before came → BehindReplaced b.awaited new b.log log' wire k came r → ClosesStream old new log log' wire k r
  -- its killCursors
  goes_on : (sending : Sending) → k.doing ≡ ends sending → RunsKill old new log log' wire k sending r → ClosesStream old new log log' wire k r

-- ---- what it knows

-- An aggregate on its way resumes this watch, behind the token.
pub record ResumesWatch (w : Watch) (start : Start) (token : Option Tree) (sending : Sending) : Type 0 where
  pub aggregate : ChangeStreamAggregate
  pub asks : Asks aggregate.args w start
  pub saved : IsSaved aggregate.args.options aggregate.resume
  pub token_is : token_known aggregate.resume ≡ token
  pub wire : ℤ
  pub session : Option Session
  pub command_is : fields sending.command ≡ resuming_in aggregate wire session

abbrev pub LandsForBy : Watch → Start → Option Tree → Landing → Type 0
LandsForBy w start token lands = Unit {0}
LandsForBy w start token (lands_aggregate sending) = ResumesWatch w start token sending
LandsForBy w start token (lands_replaced before) = Unit {0}
LandsForBy w start token (ends sending) = Unit {0}

-- what is on its way is of the stream of this watch, whose token was this one
abbrev pub LandsFor : Watch → Start → Option Tree → ClosingStream → Type 0
LandsFor w start token k = LandsForBy w start token k.doing

-- ---- for private clauses

-- the killCursors of what is left, to be sent or on its way
pub record IsToKill (k : ClosingStream) (sending : Sending) : Type 0 where
  pub command_is : fields sending.command ≡ kill_left k
  pub single : sending.retries ≡ false
  pub first_try : IsFirstTry sending.stage
  pub some_left : ids_left k ≢ []
  pub quiet : IsNotAsking k.cursor.doing
