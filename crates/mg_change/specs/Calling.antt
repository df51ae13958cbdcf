-- What one call of a stream sends, exactly.
use Rattle.std.specs.Prelude.{◌≡◌, ◌≢◌, ◌⊎◌, ◌++◌, ◌-◌, ℕ, zero, suc, ℤ, pos, Bool, true, false, List, [], ◌∷◌, length, Option, Some, None, slice_get}
use Rattle.mg_bson.specs.Tree.{Fields}
use Rattle.mg_bson.specs.Raw.{fields}
use Rattle.mg_server.specs.Calls.{Past, past_of}
use Rattle.mg_link.specs.Exec.{Sending, Stage, first, second, unsent}
use Rattle.mg_link.specs.Link.{Awaited}
use Rattle.mg_link.specs.Log.{Call}
use Rattle.mg_link.specs.Retry.{is_retried}
use Rattle.mg_cursor.specs.Client.{ClientCursor, asks, at_rest, get_more, holds, kill, rests}
use Rattle.mg_cursor.specs.Client as cursors
use Rattle.mg_cursor.specs.Closing.{ClosingCursor}
use Rattle.mg_change.specs.Causes.{MayAskMore, Resumed, Resumes}
use Rattle.mg_ops.specs.declared.change_stream.WatchArgs.{WatchArgs}
use Rattle.mg_change.specs.ClientOpenings.{first_aggregate}
use Rattle.mg_change.specs.ClientStreams.{ClientStream, Doing, follows, kills, owes, renewed, resumes, resuming_in}

-- ---- places of a log

-- so many places, from one on
abbrev pub places_from : ℕ → ℕ → List ℕ
places_from at zero = []
places_from at (suc n) = at ∷ places_from (suc at) n

-- places, and those from one on, up to another
abbrev pub sent_since : List ℕ → ℕ → ℕ → List ℕ
sent_since places from upto = places ++ places_from from (upto - from)

-- what a call has behind it whose commands stand at these places of the log
abbrev pub sent_at : List ℕ → List Call → ℤ → Past
sent_at places calls wire = past_of places (length calls) calls wire

-- ---- one request

-- this command stands at this place of the log
pub record IsCommandAt (calls : List Call) (command : Fields) (place : ℕ) : Type 0 where
  pub call : Call
  pub there : slice_get calls place ≡ Some call
  pub command_is : fields call.command ≡ command

-- what stands there was lost, or refused so that a read is sent once more
pub record IsRetriedAt (calls : List Call) (place : ℕ) : Type 0 where
  pub call : Call
  pub there : slice_get calls place ≡ Some call
  pub passes : is_retried call.seen ≡ true

-- These are the places of a request: none; one; or two, where it may be sent once more, and then what stands at the first was lost, or refused so.
pub data IsRequestAt (calls : List Call) (command : Fields) (repeats : Bool) (places : List ℕ) : Type 0 where
  nowhere : places ≡ [] → IsRequestAt calls command repeats places
  once : (place : ℕ) → places ≡ place ∷ [] → IsCommandAt calls command place → IsRequestAt calls command repeats places
  twice : (place later : ℕ) → places ≡ place ∷ later ∷ [] → repeats ≡ true → IsCommandAt calls command place → IsRetriedAt calls place → IsCommandAt calls command later → IsRequestAt calls command repeats places

-- ---- an opening

-- the opening of a watch with these arguments sent just its aggregate at these places, at most twice
abbrev pub OpensAt : List Call → ℤ → WatchArgs → List ℕ → Type 0
OpensAt calls wire args places = IsRequestAt calls (resuming_in (first_aggregate args) wire None) true places

-- ---- one call

-- The getMore of a call that began where its stream stood so: it is sent only where everything received is given, nothing is owed, and the server holds the cursor.
abbrev pub MoresAt : List Call → ClientStream → List ℕ → Type 0
MoresAt calls at more = (more ≡ []) ⊎ (MayAskMore at × IsRequestAt calls (get_more at.cursor None) false more)

-- Behind that, at these places, the aggregate that resumes the stream: it is sent only for a resumption that was owed as the call began, or after its getMore failed
-- so that a stream resumes, or where the reply to the opening has no batch.
abbrev pub AggregatesAt : List Call → ℤ → ClientStream → (more again : List ℕ) → Type 0
AggregatesAt calls wire at more again = (again ≡ []) ⊎ ((c : ClientCursor) × Resumes (sent_at more calls wire) at c × IsRequestAt calls (resuming_in at.aggregate wire None) true again)

-- the killing of the cursor that the resumption behind these places replaced
pub record KillsOld (calls : List Call) (wire : ℤ) (at : ClientStream) (before killing : List ℕ) : Type 0 where
  pub old : ClientCursor
  pub there : old.id ≢ pos 0
  pub new : ClientCursor
  pub bytes : List ℕ
  pub resumed : Resumed (sent_at before calls wire) true at old bytes new
  pub request : IsRequestAt calls (kill old) false killing

abbrev pub KillingsAt : List Call → ℤ → ClientStream → (before killing : List ℕ) → Type 0
KillingsAt calls wire at before killing = (killing ≡ []) ⊎ KillsOld calls wire at before killing

-- A call that began where its stream stood so sent just these commands, at these places and in this order: at most its getMore, at most twice the aggregate that
-- resumes the stream, and at most one killing.
pub record CallSends (calls : List Call) (wire : ℤ) (at : ClientStream) (own : List ℕ) : Type 0 where
  pub more : List ℕ
  pub again : List ℕ
  pub killing : List ℕ
  pub whole : own ≡ more ++ (again ++ killing)
  pub asks : MoresAt calls at more
  pub resumes : AggregatesAt calls wire at more again
  pub kills : KillingsAt calls wire at (more ++ again) killing

-- ---- what goes on

-- how far a request has come that stands at these places
abbrev pub RequestFar : Awaited → List Call → Fields → Bool → Stage → List ℕ → Type 0
RequestFar awaited calls command repeats unsent places = places ≡ []
RequestFar awaited calls command repeats (first ticket) places = (place : ℕ) × (places ≡ place ∷ []) × IsCommandAt calls command place × (awaited ticket ≡ Some place)
RequestFar awaited calls command repeats (second ticket) places =
    (place : ℕ) × (later : ℕ) × (places ≡ place ∷ later ∷ []) × (repeats ≡ true) × IsCommandAt calls command place × IsRetriedAt calls place × IsCommandAt calls command later

-- how far an opening has come
abbrev pub OpensFar : Awaited → List Call → ℤ → WatchArgs → Option Sending → List ℕ → Type 0
OpensFar awaited calls wire args None places = places ≡ []
OpensFar awaited calls wire args (Some sending) places = RequestFar awaited calls (resuming_in (first_aggregate args) wire None) true sending.stage places

-- its aggregate is on its way
pub record ResumesFar (awaited : Awaited) (calls : List Call) (wire : ℤ) (at : ClientStream) (sending : Sending) (own : List ℕ) : Type 0 where
  pub more : List ℕ
  pub again : List ℕ
  pub whole : own ≡ more ++ again
  pub asks : MoresAt calls at more
  pub left : ClientCursor
  pub why : Resumes (sent_at more calls wire) at left
  pub far : RequestFar awaited calls (resuming_in at.aggregate wire None) true sending.stage again

abbrev pub KillingFar : Awaited → List Call → ClientCursor → Option Sending → List ℕ → Type 0
KillingFar awaited calls old None killing = killing ≡ []
KillingFar awaited calls old (Some sending) killing = (old.id ≢ pos 0) × RequestFar awaited calls (kill old) false sending.stage killing

-- the cursor before is being closed
pub record KillsFar (awaited : Awaited) (calls : List Call) (wire : ℤ) (at : ClientStream) (before : ClosingCursor) (own : List ℕ) : Type 0 where
  pub more : List ℕ
  pub again : List ℕ
  pub killing : List ℕ
  pub whole : own ≡ more ++ (again ++ killing)
  pub asks : MoresAt calls at more
  pub resumes : AggregatesAt calls wire at more again
  pub new : ClientCursor
  pub bytes : List ℕ
  pub resumed : Resumed (sent_at (more ++ again) calls wire) true at (at_rest before.cursor) bytes new
  pub far : KillingFar awaited calls before.cursor before.killing killing

abbrev pub AsksFar : Awaited → List Call → ClientStream → List ℕ → cursors.Doing → Type 0
AsksFar awaited calls at own rests = own ≡ []
AsksFar awaited calls at own (holds bytes) = own ≡ []
AsksFar awaited calls at own (asks sending) = MayAskMore at × RequestFar awaited calls (get_more at.cursor None) false sending.stage own

-- what a call that began where its stream stood so sent at these places so far, by what is on its way
abbrev pub SentBy : Awaited → List Call → ℤ → ClientStream → List ℕ → ClientCursor → Doing → Type 0
SentBy awaited calls wire at own c follows = AsksFar awaited calls at own c.doing
SentBy awaited calls wire at own c owes = MoresAt calls at own
SentBy awaited calls wire at own c (resumes sending) = ResumesFar awaited calls wire at sending own
SentBy awaited calls wire at own c (kills before) = KillsFar awaited calls wire at before own
SentBy awaited calls wire at own c renewed = CallSends calls wire at own
