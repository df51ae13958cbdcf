-- What a poll for the next batch of a cursor is caused by, over all polls of a call.
use Rattle.std.specs.Prelude.{◌≡◌, ◌⊎◌, ℕ, ℤ, false, List, length, Option, Some}
use Rattle.mg_bson.specs.Raw.{fields}
use Rattle.mg_server.specs.Calls.{Flies, HeardBy, Keeps, Past, RequestFails, past_of}
use Rattle.mg_link.specs.Exec.{IsSuccess, Sending}
use Rattle.mg_link.specs.Link.{Awaited, LogTold}
use Rattle.mg_link.specs.Log.{Call, reply}
use Rattle.mg_link.specs.Session.{Session}
use Rattle.mg_link.specs.declared.error.Error.{Error}
use Rattle.mg_ops.specs.Cursors.{BreaksIn}
use Rattle.mg_ops.specs.Failing.{FailsBy}
use Rattle.mg_cursor.specs.Client.{ClientCursor, Doing, IsOver, asks, get_more, holds, rests}
use Rattle.mg_cursor.specs.Polling.{CannotAsk}
use Rattle.mg_cursor.specs.declared.polls.NextPoll.{NextPoll}
use Rattle.mg_cursor.specs.declared.polls.NextPoll.TheVariants as next

-- the reply tells no cursor
abbrev pub TellsNoCursor : List ℕ → Error → Type 0
TellsNoCursor bytes e = BreaksIn (fields bytes) e

-- its getMore, which the call sent in this session where there was one, has come so far
pub record FliesMore (awaited : Awaited) (past : Past) (c : ClientCursor) (sending : Sending) : Type 0 where
  pub session : Option Session
  pub command_is : fields sending.command ≡ get_more c session
  pub flies : Flies awaited past (get_more c session) sending.stage

-- how far a call has come, by what is on its way
abbrev pub UnderwayBy : Awaited → Past → ClientCursor → Doing → Type 0
UnderwayBy awaited past c rests = Unit {0}
UnderwayBy awaited past c (holds bytes) = Unit {0}
UnderwayBy awaited past c (asks sending) = FliesMore awaited past c sending

abbrev pub IsUnderway : Awaited → Past → ClientCursor → Type 0
IsUnderway awaited past c = UnderwayBy awaited past c c.doing

-- the call heard this reply to its getMore
pub record HeardMore (past : Past) (c : ClientCursor) (bytes : List ℕ) : Type 0 where
  pub session : Option Session
  pub heard : HeardBy past (get_more c session) (reply bytes)
  pub success : IsSuccess bytes

-- why its getMore brought no batch: it failed, or the reply to it tells no cursor
pub record MoreFails (past : Past) (c : ClientCursor) (e : Error) : Type 0 where
  pub session : Option Session
  pub fails : RequestFails past (get_more c session) false TellsNoCursor e

-- What a poll came to that began where the cursor stood so, in this session where it names one.
abbrev pub NextCame : Awaited → Past → Option Session → ClientCursor → ClientCursor → NextPoll → Type 0
NextCame awaited past session c c' next.Pending = IsUnderway awaited past c'
NextCame awaited past session c c' (next.Batch bytes) = (c.doing ≡ holds bytes) ⊎ HeardMore past c bytes
NextCame awaited past session c c' next.End = (c.doing ≡ rests) × IsOver c
NextCame awaited past session c c' (next.Failed e) = FailsBy (CannotAsk c session) e ⊎ MoreFails past c e

-- A poll led on the call that had sent at these places before.
abbrev pub NextCaused : Awaited → Awaited → LogTold → LogTold → ℤ → Option Session → ClientCursor → ClientCursor → NextPoll → Type 0
NextCaused old new log log' wire session c c' r = (calls : List Call) → log ≡ Some calls → (places : List ℕ) → IsUnderway old (past_of places (length calls) calls wire) c
    → (calls' : List Call) × (log' ≡ Some calls') × Keeps calls calls' × NextCame new (past_of places (length calls) calls' wire) session c c' r
