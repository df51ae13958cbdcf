-- What the closing of a cursor does (find, getMore and killCursors specification: drivers kill a cursor that the server holds still).
use Rattle.std.specs.Prelude.{◌≡◌, ◌≢◌, ◌⊎◌, refl, ℕ, ℤ, false, List, length, Option, Some, None, Ok}
use Rattle.std.specs.Coded.{Coded, code_by, coded×, coded_option}
use Rattle.mg_bson.specs.Raw.{fields}
use Rattle.mg_server.specs.Calls.{Flies, HeardBy, Keeps, NoneBroken, Past, RequestFails, past_of}
use Rattle.mg_link.specs.Exec.{IsSuccess, Runs, Sending, second, ticket_of}
use Rattle.mg_link.specs.Link.{Awaited, SendsNothing, LogTold}
use Rattle.mg_link.specs.Log.{Call, reply}
use Rattle.mg_link.specs.declared.action.Step.{Step}
use Rattle.mg_link.specs.declared.action.Step.TheVariants as step
use Rattle.mg_link.specs.declared.error.Error.{Error}
use Rattle.mg_link.specs.declared.error.ErrorKind.TheVariants as kind
use Rattle.mg_ops.specs.Cursors.{Cursor, cursor_of}
use Rattle.mg_ops.specs.Failing.{CannotBeSent, FailsBy}
use Rattle.mg_cursor.specs.Causes.{FliesMore, HeardMore, MoreFails}
use Rattle.mg_cursor.specs.Client.{ClientCursor, Doing, IsNew, IsOver, IsSound, MayAsk, WaitsFor, asks, at_rest, behind_failure, behind_reply, client_ticket, holds, kill, rests}
use Rattle.mg_cursor.specs.ClientCode.{coded_client, coded_sending}
use Rattle.mg_cursor.specs.Polling.{Hears}
use Rattle.mg_cursor.specs.declared.polls.NextPoll.{NextPoll}
use Rattle.mg_cursor.specs.declared.polls.NextPoll.TheVariants as next

-- a cursor that is closed, and its killCursors, once it is on its way
pub record ClosingCursor : Type 0 where
  pub cursor : ClientCursor
  pub killing : Option Sending

abbrev pub coded_closing : Coded ClosingCursor
coded_closing = code_by (ClientCursor × Option Sending) (coded× coded_client (coded_option coded_sending)) (λ k. (k.cursor, k.killing)) (λ p. record { cursor = p.0; killing = p.1 }) (λ k. refl)

-- before anything of the closing is sent
abbrev pub closed : ClientCursor → ClosingCursor
closed c = record { cursor = c; killing = None }

-- once its killCursors is on its way
abbrev pub killed_by : ClientCursor → Sending → ClosingCursor
killed_by c sending = record { cursor = c; killing = Some sending }

abbrev pub closing_ticket_by : ClientCursor → Option Sending → Option ℕ
closing_ticket_by c None = client_ticket c
closing_ticket_by c (Some sending) = ticket_of sending

-- the ticket that is held
abbrev pub closing_ticket : ClosingCursor → Option ℕ
closing_ticket k = closing_ticket_by k.cursor k.killing

-- its killCursors is on its way
pub record IsKilling (c : ClientCursor) (sending : Sending) : Type 0 where
  pub waits_on : WaitsFor (kill c) sending
  pub may : MayAsk c
  pub at_end : c.doing ≡ rests

-- it is to be sent, or is on its way, for private clauses
pub record IsToKill (c : ClientCursor) (sending : Sending) : Type 0 where
  pub command_is : fields sending.command ≡ kill c
  pub single : sending.retries ≡ false
  pub first_try : (ticket : ℕ) → sending.stage ≢ second ticket
  pub may : MayAsk c
  pub at_end : c.doing ≡ rests

abbrev pub ClosesBy : ClientCursor → Option Sending → Type 0
ClosesBy c None = IsSound false c
ClosesBy c (Some sending) = IsKilling c sending

-- what is on its way is the getMore or the killCursors of the cursor
abbrev pub IsClosing : ClosingCursor → Type 0
IsClosing k = ClosesBy k.cursor k.killing

-- ---- the killing

-- what comes of a poll of the killCursors
abbrev pub KillHears : ClientCursor → Step Sending (List ℕ) → Step ClosingCursor (Unit {0}) → Type 0
KillHears c (step.Pending sending) r = r ≡ step.Pending (killed_by c sending)
KillHears c (step.Done bytes) r = r ≡ step.Done tt
KillHears c (step.Failed e) r = r ≡ step.Failed e

-- a poll of the killCursors over the link, and what comes of it
pub record KillRuns (old new : Awaited) (log log' : LogTold) (wire : ℤ) (c : ClientCursor) (sending : Sending) (r : Step ClosingCursor (Unit {0})) : Type 0 where
  pub came : Step Sending (List ℕ)
  pub runs : Runs old new log log' wire sending came
  pub hears : KillHears c came r

-- What a closing does once nothing else is on its way.
pub data KillsCursor (old new : Awaited) (log log' : LogTold) (wire : ℤ) (c : ClientCursor) (r : Step ClosingCursor (Unit {0})) : Type 0 where
  -- there is nothing to kill, and nothing is sent
  nothing_left : IsOver c → SendsNothing old new log log' → r ≡ step.Done tt → KillsCursor old new log log' wire c r
  -- the killCursors is not built, and nothing is sent
  not_built : MayAsk c → (e : Error) → FailsBy (CannotBeSent (kill c)) e → SendsNothing old new log log' → r ≡ step.Failed e → KillsCursor old new log log' wire c r
  -- one killCursors is sent
  kills : MayAsk c → (sending : Sending) → IsNew (kill c) sending → KillRuns old new log log' wire c sending r → KillsCursor old new log log' wire c r

-- ---- a poll

-- behind a getMore that failed: only want of memory is answered, and then nothing more is sent
abbrev pub BehindFailure : Awaited → Awaited → LogTold → LogTold → ℤ → ClientCursor → Error → Step ClosingCursor (Unit {0}) → Type 0
BehindFailure old new log log' wire c e r =
    ((e.kind ≡ kind.OutOfMemory) × SendsNothing old new log log' × (r ≡ step.Failed e))
    ⊎ ((e.kind ≢ kind.OutOfMemory) × KillsCursor old new log log' wire c r)

-- what comes behind the getMore that was on its way, by what it came to
abbrev pub BehindMore : Awaited → Awaited → LogTold → LogTold → ℤ → ClientCursor → NextPoll → Step ClosingCursor (Unit {0}) → Type 0
BehindMore old new log log' wire c next.Pending r = SendsNothing old new log log' × (r ≡ step.Pending (closed c))
BehindMore old new log log' wire c (next.Batch bytes) r = KillsCursor old new log log' wire c r
BehindMore old new log log' wire c next.End r = ⊥
BehindMore old new log log' wire c (next.Failed e) r = BehindFailure old new log log' wire c e r

-- the getMore that was on its way ends first
pub record LandsMore (old new : Awaited) (log log' : LogTold) (wire : ℤ) (c : ClientCursor) (sending : Sending) (r : Step ClosingCursor (Unit {0})) : Type 0 where
  -- the link behind it
  pub between : Awaited
  pub log_between : LogTold
  pub came : Step Sending (List ℕ)
  pub runs : Runs old between log log_between wire sending came
  -- the cursor behind it, and what came of it
  pub left : ClientCursor
  pub poll : NextPoll
  pub hears : Hears c came left poll
  pub behind : BehindMore between new log_between log' wire left poll r

-- nothing is on its way: a reply in hand is let go
abbrev pub IsNotAsking : Doing → Type 0
IsNotAsking rests = Unit {0}
IsNotAsking (holds bytes) = Unit {0}
IsNotAsking (asks sending) = ⊥

-- What the getMore that is on its way comes to, for private clauses; where none is, the link is not called.
pub data LandsIn (old new : Awaited) (log log' : LogTold) (wire : ℤ) (c c' : ClientCursor) (r : NextPoll) : Type 0 where
  quiet : IsNotAsking c.doing → new ≡ old → log' ≡ log → c' ≡ at_rest c → r ≡ next.End → LandsIn old new log log' wire c c' r
  heard : (sending : Sending) → c.doing ≡ asks sending → (came : Step Sending (List ℕ)) → Runs old new log log' wire sending came → Hears c came c' r → LandsIn old new log log' wire c c' r

-- What a poll of a closing does, by what is on its way as it begins.
pub data ClosingPolls (old new : Awaited) (log log' : LogTold) (wire : ℤ) (k : ClosingCursor) (r : Step ClosingCursor (Unit {0})) : Type 0 where
  lands : k.killing ≡ None → (sending : Sending) → k.cursor.doing ≡ asks sending → LandsMore old new log log' wire k.cursor sending r → ClosingPolls old new log log' wire k r
  begins : k.killing ≡ None → IsNotAsking k.cursor.doing → KillsCursor old new log log' wire (at_rest k.cursor) r → ClosingPolls old new log log' wire k r
  goes_on : (sending : Sending) → k.killing ≡ Some sending → KillRuns old new log log' wire k.cursor sending r → ClosingPolls old new log log' wire k r

-- ---- causes, over all polls

-- how far the closing has come
abbrev pub ClosingUnderwayBy : Awaited → Past → ClientCursor → Option Sending → Doing → Type 0
ClosingUnderwayBy awaited past c (Some sending) doing = Flies awaited past (kill c) sending.stage
ClosingUnderwayBy awaited past c None rests = Unit {0}
ClosingUnderwayBy awaited past c None (holds bytes) = Unit {0}
ClosingUnderwayBy awaited past c None (asks sending) = FliesMore awaited past c sending

abbrev pub IsClosingUnderway : Awaited → Past → ClosingCursor → Type 0
IsClosingUnderway awaited past k = ClosingUnderwayBy awaited past k.cursor k.killing k.cursor.doing

-- nothing but its killCursors, if that, is on its way
abbrev pub LandedBy : Option Sending → Doing → Type 0
LandedBy (Some sending) doing = Unit {0}
LandedBy None doing = IsNotAsking doing

abbrev pub IsLanded : ClosingCursor → Type 0
IsLanded k = LandedBy k.killing k.cursor.doing

-- the cursor that is to be killed: as it was, or as its getMore left it, whose failure is passed over but for want of memory
pub data LeftBy (past : Past) (k : ClosingCursor) (c : ClientCursor) : Type 0 where
  same : IsLanded k → c ≡ at_rest k.cursor → LeftBy past k c
  given : (bytes : List ℕ) (said : Cursor) → HeardMore past k.cursor bytes → cursor_of (fields bytes) ≡ Ok said → c ≡ behind_reply said k.cursor → LeftBy past k c
  not_given : (e : Error) → MoreFails past k.cursor e → e.kind ≢ kind.OutOfMemory → c ≡ behind_failure e k.cursor → LeftBy past k c

-- why it failed: memory ran out, or the killCursors fails or cannot be built
pub data ClosingFails (past : Past) (k : ClosingCursor) (e : Error) : Type 0 where
  out_of_memory : e.kind ≡ kind.OutOfMemory → ClosingFails past k e
  not_killed : (c : ClientCursor) → LeftBy past k c → MayAsk c → RequestFails past (kill c) false NoneBroken e ⊎ CannotBeSent (kill c) e → ClosingFails past k e

-- why it is done: nothing is to be killed, or the server answered its killCursors with success
pub data ClosingDone (past : Past) (k : ClosingCursor) : Type 0 where
  not_needed : (c : ClientCursor) → LeftBy past k c → IsOver c → ClosingDone past k
  killed : (c : ClientCursor) → LeftBy past k c → MayAsk c → (bytes : List ℕ) → HeardBy past (kill c) (reply bytes) → IsSuccess bytes → ClosingDone past k

-- it waits for its getMore still, or for the killing of what that left
abbrev pub ClosingWaits : Awaited → Past → ClosingCursor → ClosingCursor → Type 0
ClosingWaits awaited past k k' = IsClosingUnderway awaited past k' × ((at_rest k'.cursor ≡ at_rest k.cursor) ⊎ LeftBy past k k'.cursor)

abbrev pub ClosingCame : Awaited → Past → ClosingCursor → Step ClosingCursor (Unit {0}) → Type 0
ClosingCame awaited past k (step.Pending k') = ClosingWaits awaited past k k'
ClosingCame awaited past k (step.Done t) = ClosingDone past k
ClosingCame awaited past k (step.Failed e) = ClosingFails past k e

-- A poll led on the closing that had sent at these places before.
abbrev pub ClosingCaused : Awaited → Awaited → LogTold → LogTold → ℤ → ClosingCursor → Step ClosingCursor (Unit {0}) → Type 0
ClosingCaused old new log log' wire k r = (calls : List Call) → log ≡ Some calls → (places : List ℕ) → IsClosingUnderway old (past_of places (length calls) calls wire) k
    → (calls' : List Call) × (log' ≡ Some calls') × Keeps calls calls' × ClosingCame new (past_of places (length calls) calls' wire) k r
