-- What a call, over all its polls, sent and saw, and why a request of it fails.
use Rattle.std.specs.Prelude.{◌≡◌, ◌<◌, ◌≤◌, ◌⊎◌, ◌&&◌, slice_get, Bool, false, true, ℕ, ℤ, List, length, Some}
use Rattle.mg_bson.specs.Tree.{Fields}
use Rattle.mg_bson.specs.Raw.{fields}
use Rattle.mg_bson.specs.Reading.{doc}
use Rattle.mg_link.specs.Errors.{plain}
use Rattle.mg_link.specs.Exec.{FailsByReply, IsSuccess, Sending, Stage, unsent, first, second}
use Rattle.mg_link.specs.Link.{Awaited, LogTold}
use Rattle.mg_link.specs.Log.{Sight, waiting, reply, fault, Call}
use Rattle.mg_server.specs.Owner.{IsOf}
use Rattle.mg_link.specs.Retry.{is_retried}
use Rattle.mg_link.specs.declared.action.Step.{Step}
use Rattle.mg_link.specs.declared.action.Step.TheVariants as step
use Rattle.mg_link.specs.declared.error.Error.{Error}
use Rattle.mg_link.specs.declared.error.ErrorKind.TheVariants as kind

-- What a call has behind it: the places in the log of what it sent in its earlier polls, the place from which on this poll sends, the log, and
-- the wire version of the link.
pub record Past : Type 0 where
  pub places : List ℕ
  pub since : ℕ
  pub calls : List Call
  pub wire : ℤ

abbrev pub past_of : List ℕ → ℕ → List Call → ℤ → Past
past_of places since calls wire = record { places = places; since = since; calls = calls; wire = wire }

-- what stands at this place is the call's own
abbrev pub IsOwn : Past → ℕ → Type 0
IsOwn past place = IsOf past.places place ⊎ (past.since ≤ place)

-- at this place the call sent this command, and saw this
pub record HeardAt (past : Past) (place : ℕ) (command : Fields) (seen : Sight) : Type 0 where
  pub own : IsOwn past place
  pub call : Call
  pub there : slice_get past.calls place ≡ Some call
  pub command_is : fields call.command ≡ command
  pub has_seen : call.seen ≡ seen

-- somewhere
pub record HeardBy (past : Past) (command : Fields) (seen : Sight) : Type 0 where
  pub place : ℕ
  pub heard : HeardAt past place command seen

-- The command was sent before this place too. There it was lost, or refused so that a read is sent once more.
pub record IsRetried (past : Past) (place : ℕ) (command : Fields) : Type 0 where
  pub earlier : ℕ
  pub before : earlier < place
  pub seen : Sight
  pub heard : HeardAt past earlier command seen
  pub passes : is_retried seen ≡ true

-- the call saw this last: it is nothing after which the command is sent once more, if it ever is, or it was sent once more
pub record HeardLast (past : Past) (command : Fields) (retries : Bool) (seen : Sight) : Type 0 where
  pub place : ℕ
  pub heard : HeardAt past place command seen
  pub last : ((retries && is_retried seen) ≡ false) ⊎ IsRetried past place command

-- ---- what is in flight

-- the command waits at this place for its reply
pub record WaitsAt (awaited : Awaited) (past : Past) (ticket : ℕ) (command : Fields) (place : ℕ) : Type 0 where
  pub at : awaited ticket ≡ Some place
  pub own : IsOwn past place
  pub call : Call
  pub there : slice_get past.calls place ≡ Some call
  pub command_is : fields call.command ≡ command

-- the reply to this command of the call is waited for
pub record IsAwaited (awaited : Awaited) (past : Past) (command : Fields) : Type 0 where
  pub ticket : ℕ
  pub place : ℕ
  pub waits : WaitsAt awaited past ticket command place

-- how far the command has come: where it was sent, the call sent it
abbrev pub Flies : Awaited → Past → Fields → Stage → Type 0
Flies awaited past command unsent = Unit {0}
Flies awaited past command (first ticket) = (place : ℕ) × WaitsAt awaited past ticket command place
Flies awaited past command (second ticket) = (place : ℕ) × WaitsAt awaited past ticket command place × IsRetried past place command

-- ---- a later time

-- each call keeps its place and its command; one that has seen its answer stays as it is
abbrev pub Keeps : List Call → List Call → Type 0
Keeps calls calls' = (place : ℕ) (call : Call) → slice_get calls place ≡ Some call → (call' : Call) × (slice_get calls' place ≡ Some call') × (call'.command ≡ call.command) × ((call.seen ≡ waiting → ⊥) → call' ≡ call)

-- the same of logs that are told
abbrev pub Stays : LogTold → LogTold → Type 0
Stays log log' = (calls : List Call) → log ≡ Some calls → (calls' : List Call) × (log' ≡ Some calls') × Keeps calls calls'

-- what was the call's own is so still
pub record Grows (past past' : Past) : Type 0 where
  pub own : (place : ℕ) (call : Call) → slice_get past.calls place ≡ Some call → IsOwn past place → IsOwn past' place
  pub keeps : Keeps past.calls past'.calls
  pub wire : past'.wire ≡ past.wire

-- each call keeps its place and its command, and each command that was added is such a one
pub record AddsOnly (may : Fields → Type 0) (calls calls' : List Call) : Type 0 where
  pub keeps : Keeps calls calls'
  pub added : (place : ℕ) (call : Call) → length calls ≤ place → slice_get calls' place ≡ Some call → may (fields call.command)

-- ---- requests

-- Why a request of the call fails, where a success may be broken or refused so: memory ran out; it was lost; the reply to it is no success; or it is a
-- success, which is broken or refused.
pub data RequestFails (past : Past) (command : Fields) (retries : Bool) (Broken : List ℕ → Error → Type 0) (e : Error) : Type 0 where
  out_of_memory : e.kind ≡ kind.OutOfMemory → RequestFails past command retries Broken e
  was_lost : e ≡ plain kind.Io → HeardLast past command retries fault → RequestFails past command retries Broken e
  was_refused : (bytes : List ℕ) → HeardLast past command retries (reply bytes) → FailsByReply (doc bytes) past.wire e → RequestFails past command retries Broken e
  was_broken : (bytes : List ℕ) → HeardLast past command retries (reply bytes) → IsSuccess bytes → Broken bytes e → RequestFails past command retries Broken e

-- each success is taken
abbrev pub NoneBroken : List ℕ → Error → Type 0
NoneBroken bytes e = ⊥

-- what a poll of a request comes to
abbrev pub Came : Awaited → Past → Fields → Bool → Step Sending (List ℕ) → Type 0
Came awaited past command retries (step.Pending s) = Flies awaited past command s.stage
Came awaited past command retries (step.Done bytes) = HeardLast past command retries (reply bytes)
Came awaited past command retries (step.Failed e) = RequestFails past command retries NoneBroken e
