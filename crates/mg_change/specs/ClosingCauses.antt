-- What the answers of a closing are caused by, over all its polls.
use Rattle.std.specs.Prelude.{◌≡◌, ◌≢◌, ◌⊎◌, false, ℕ, ℤ, pos, List, [], length, Some, Ok}
use Rattle.mg_bson.specs.Raw.{fields}
use Rattle.mg_bson.specs.Tree.{Fields}
use Rattle.mg_server.specs.Calls.{Flies, HeardBy, HeardLast, IsAwaited, Keeps, NoneBroken, Past, RequestFails, past_of}
use Rattle.mg_link.specs.Exec.{IsSuccess, Sending}
use Rattle.mg_link.specs.Link.{Awaited, LogTold}
use Rattle.mg_link.specs.Log.{Call, reply}
use Rattle.mg_link.specs.declared.action.Step.{Step}
use Rattle.mg_link.specs.declared.action.Step.TheVariants as step
use Rattle.mg_link.specs.declared.error.Error.{Error}
use Rattle.mg_link.specs.declared.error.ErrorKind.TheVariants as kind
use Rattle.mg_ops.specs.Cursors.{Cursor, cursor_of}
use Rattle.mg_ops.specs.Failing.{CannotBeSent}
use Rattle.mg_cursor.specs.Causes.{FliesMore, HeardMore, MoreFails, TellsNoCursor}
use Rattle.mg_cursor.specs.Client.{ClientCursor, asks, at_rest, behind_failure, behind_reply, holds, rests}
use Rattle.mg_cursor.specs.Client as cursors
use Rattle.mg_cursor.specs.Closing.{ClosingCursor, ClosingDone, ClosingFails, IsClosingUnderway, IsNotAsking}
use Rattle.mg_change.specs.ClientStreams.{ClientStream}
use Rattle.mg_change.specs.ClosingStreams.{ClosingStream, Landing, closed_stream, ends, ids_left, kill_left, lands, lands_aggregate, lands_replaced}

-- ---- how far it has come

-- by what is on its way; of the aggregate of a resumption the call knows its command
abbrev pub UnderwayByCursor : Awaited → Past → ClientCursor → cursors.Doing → Type 0
UnderwayByCursor awaited past c rests = Unit {0}
UnderwayByCursor awaited past c (holds bytes) = Unit {0}
UnderwayByCursor awaited past c (asks sending) = FliesMore awaited past c sending

abbrev pub UnderwayBy : Awaited → Past → ClosingStream → Landing → Type 0
UnderwayBy awaited past k lands = UnderwayByCursor awaited past k.cursor k.cursor.doing
UnderwayBy awaited past k (lands_aggregate sending) = Flies awaited past (fields sending.command) sending.stage
UnderwayBy awaited past k (lands_replaced before) = IsClosingUnderway awaited past before
UnderwayBy awaited past k (ends sending) = Flies awaited past (kill_left k) sending.stage

abbrev pub IsUnderway : Awaited → Past → ClosingStream → Type 0
IsUnderway awaited past k = UnderwayBy awaited past k k.doing

-- ---- what was on its way as it began

-- a getMore leaves its cursor: as it was or none behind a failure, or the one of the reply
pub data MoreLeft (past : Past) (c left : ClientCursor) : Type 0 where
  not_given : (e : Error) → MoreFails past c e → e.kind ≢ kind.OutOfMemory → left ≡ behind_failure e c → MoreLeft past c left
  given : (bytes : List ℕ) (said : Cursor) → HeardMore past c bytes → cursor_of (fields bytes) ≡ Ok said → left ≡ behind_reply said c → MoreLeft past c left

-- the aggregate of a resumption leaves one cursor more, or none behind a failure
pub data AggregateLeft (past : Past) (sending : Sending) (k left : ClosingStream) : Type 0 where
  opened_none : (e : Error) → RequestFails past (fields sending.command) sending.retries TellsNoCursor e → e.kind ≢ kind.OutOfMemory → left ≡ record k { doing = lands } → AggregateLeft past sending k left
  opened_one : (bytes : List ℕ) (said : Cursor) → HeardLast past (fields sending.command) sending.retries (reply bytes) → IsSuccess bytes → cursor_of (fields bytes) ≡ Ok said → left ≡ record k { opened = said.id; doing = lands } → AggregateLeft past sending k left

-- What is left to be killed: what was left as it began, or what the request on its way left.
pub data LeftBy (past : Past) (k left : ClosingStream) : Type 0 where
  same : k.doing ≡ lands → IsNotAsking k.cursor.doing → left ≡ record k { cursor = at_rest k.cursor } → LeftBy past k left
  more : k.doing ≡ lands → (c : ClientCursor) → MoreLeft past k.cursor c → left ≡ record k { cursor = c } → LeftBy past k left
  aggregate : (sending : Sending) → k.doing ≡ lands_aggregate sending → AggregateLeft past sending k left → LeftBy past k left
  replaced : (before : ClosingCursor) → k.doing ≡ lands_replaced before → ClosingDone past before ⊎ ((e : Error) × ClosingFails past before e × (e.kind ≢ kind.OutOfMemory)) → left ≡ record k { doing = lands } → LeftBy past k left
  killing : (sending : Sending) → k.doing ≡ ends sending → left ≡ k → LeftBy past k left

-- ---- answers

-- why it is done: nothing is left; or the server answered its killCursors with success
pub data StreamDone (past : Past) (k : ClosingStream) : Type 0 where
  nothing_left : (left : ClosingStream) → LeftBy past k left → ids_left left ≡ [] → StreamDone past k
  killed : (left : ClosingStream) → LeftBy past k left → ids_left left ≢ [] → (bytes : List ℕ) → HeardBy past (kill_left left) (reply bytes) → IsSuccess bytes → StreamDone past k

-- why it fails: memory ran out, or its killCursors fails or cannot be built
pub data StreamFails (past : Past) (k : ClosingStream) (e : Error) : Type 0 where
  out_of_memory : e.kind ≡ kind.OutOfMemory → StreamFails past k e
  not_killed : (left : ClosingStream) → LeftBy past k left → ids_left left ≢ [] → RequestFails past (kill_left left) false NoneBroken e ⊎ CannotBeSent (kill_left left) e → StreamFails past k e

-- ---- the closing of a stream at rest

-- Its closing, whose token was handed over or not: nothing of its cursor is lost by that.
abbrev pub last_kill : ClientStream → Fields
last_kill last = kill_left (closed_stream false last)

-- what is left to be killed of it
abbrev pub last_ids : ClientStream → List ℤ
last_ids last = ids_left (closed_stream false last)

-- how far the killing has come
abbrev pub LastBy : Awaited → Past → ClientStream → Landing → Type 0
LastBy awaited past last lands = Unit {0}
LastBy awaited past last (lands_aggregate sending) = ⊥
LastBy awaited past last (lands_replaced before) = ⊥
LastBy awaited past last (ends sending) = (last_ids last ≢ []) × Flies awaited past (last_kill last) sending.stage

pub record LastSoFar (awaited : Awaited) (past : Past) (last : ClientStream) (k : ClosingStream) : Type 0 where
  pub id_is : k.cursor.id ≡ last.cursor.id
  pub space_is : k.cursor.space ≡ last.cursor.space
  pub none_opened : k.opened ≡ pos 0
  pub quiet : IsNotAsking k.cursor.doing
  pub by : LastBy awaited past last k.doing

-- the reply to the killing of its cursor is waited for
pub record LastWaits (awaited : Awaited) (past : Past) (last : ClientStream) : Type 0 where
  pub some_left : last_ids last ≢ []
  pub waits : IsAwaited awaited past (last_kill last)

-- nothing was left, or the server answered its killCursors with success
pub data LastDone (past : Past) (last : ClientStream) : Type 0 where
  none_held : last_ids last ≡ [] → LastDone past last
  was_killed : last_ids last ≢ [] → (bytes : List ℕ) → HeardBy past (last_kill last) (reply bytes) → IsSuccess bytes → LastDone past last

-- it fails only where something is left: memory ran out, or its killCursors fails or cannot be built
pub record LastFails (past : Past) (last : ClientStream) (e : Error) : Type 0 where
  pub some_left : last_ids last ≢ []
  pub why : (e.kind ≡ kind.OutOfMemory) ⊎ (RequestFails past (last_kill last) false NoneBroken e ⊎ CannotBeSent (last_kill last) e)

-- ---- polls

-- it waits for what was on its way still, or for the killing of what that left
pub record StreamWaits (awaited : Awaited) (past : Past) (k now : ClosingStream) : Type 0 where
  pub underway : IsUnderway awaited past now
  pub token_is : now.token ≡ k.token
  pub cursor_by : (at_rest now.cursor ≡ at_rest k.cursor) ⊎ ((left : ClosingStream) × LeftBy past k left × (now.cursor ≡ left.cursor) × (now.opened ≡ left.opened))

abbrev pub ClosingCame : Awaited → Past → ClosingStream → Step ClosingStream (Unit {0}) → Type 0
ClosingCame awaited past k (step.Pending now) = StreamWaits awaited past k now
ClosingCame awaited past k (step.Done t) = StreamDone past k
ClosingCame awaited past k (step.Failed e) = StreamFails past k e

-- A poll led a closing on that had sent at these places before.
abbrev pub ClosingCaused : Awaited → Awaited → LogTold → LogTold → ℤ → ClosingStream → Step ClosingStream (Unit {0}) → Type 0
ClosingCaused old new log log' wire k r = (calls : List Call) → log ≡ Some calls → (places : List ℕ) → IsUnderway old (past_of places (length calls) calls wire) k
    → (calls' : List Call) × (log' ≡ Some calls') × Keeps calls calls' × ClosingCame new (past_of places (length calls) calls' wire) k r
